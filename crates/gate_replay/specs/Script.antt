-- A replay script as a whole: where its lines may stand, what it has then, and which line is the first
-- faulty one. The main definitions are `IsScript` and `IsFirstFaultyLine`.
-- Own rules: the script is this project's. Objects stand before the one line that opens, and all else
-- stands after it.
use Rattle.std.specs.Prelude.{◌≡◌, ℕ, ◌+◌, ◌<◌, ◌⊎◌, Bool, false, nat_lt, List, [], ◌∷◌, length, map, take, slice_index_or, Option, Some, None}
use Rattle.std.specs.Bool.{MatchBool}
use Rattle.std.specs.List.{filter_map}
use Rattle.gate_model.specs.declared.object.ObjectLine.{ObjectLine}
use Rattle.gate_table.specs.Faults.{IsFaultless}
use Rattle.gate_packet.specs.Packet.{content, IsContent}
use Rattle.gate_replay.specs.declared.script.Step.{Step}
use Rattle.gate_replay.specs.declared.script.Step.TheVariants as step
use Rattle.gate_replay.specs.declared.setup.Setup.{Setup}
use Rattle.gate_replay.specs.declared.script.Script.{Script}
use Rattle.gate_replay.specs.declared.script.ScriptFault.{ScriptFault}
use Rattle.gate_replay.specs.declared.script.ScriptFault.TheVariants as fault
use Rattle.gate_replay.specs.Lines.{lines_of}
use Rattle.gate_replay.specs.SentPacket.{sent, FitsForm}
use Rattle.gate_replay.specs.ScriptLine.{ParsedScriptLine, Object, Open, Clock, Packet, Line, Page, parsed_script_line}

-- what is parsed from each line of a text
abbrev pub parsed_script_lines : List ℕ → List (Option ParsedScriptLine)
parsed_script_lines text = map parsed_script_line (lines_of text)

-- the line, where it opens
abbrev pub open_of : Option ParsedScriptLine → Option ParsedScriptLine
open_of None = None
open_of (Some (Object threshold host service)) = None
open_of (Some (Open moment age capacity limit)) = Some (Open moment age capacity limit)
open_of (Some (Clock moment)) = None
open_of (Some (Packet form timestamp code host service output)) = None
open_of (Some (Line text)) = None
open_of (Some Page) = None

-- the object that a line names
abbrev pub object_of : Option ParsedScriptLine → Option ObjectLine
object_of None = None
object_of (Some (Object threshold host service)) =
    Some (record { host = host; service = service; threshold = threshold })
object_of (Some (Open moment age capacity limit)) = None
object_of (Some (Clock moment)) = None
object_of (Some (Packet form timestamp code host service output)) = None
object_of (Some (Line text)) = None
object_of (Some Page) = None

-- the step that a line is after the one that opens
abbrev pub step_of : Option ParsedScriptLine → Option Step
step_of None = None
step_of (Some (Object threshold host service)) = None
step_of (Some (Open moment age capacity limit)) = None
step_of (Some (Clock moment)) = Some (step.Clock (record { 0 = moment }))
step_of (Some (Packet form timestamp code host service output)) =
    Some (step.Packet (sent form (content timestamp code host service output)))
step_of (Some (Line text)) = Some (step.Line text)
step_of (Some Page) = Some step.Page

-- the lines that open, in order
abbrev pub opens_in : List (Option ParsedScriptLine) → List ParsedScriptLine
opens_in parsed = filter_map open_of parsed

-- the objects of these lines, in order
abbrev pub objects_in : List (Option ParsedScriptLine) → List ObjectLine
objects_in parsed = filter_map object_of parsed

-- the steps of these lines, in order
abbrev pub steps_in : List (Option ParsedScriptLine) → List Step
steps_in parsed = filter_map step_of parsed

-- one of these lines opens
abbrev pub has_open : List (Option ParsedScriptLine) → Bool
has_open parsed = nat_lt 0 (length (opens_in parsed))

-- the line is an object's, or it opens with a faultless table of these objects, which stand before it
abbrev pub IsHead : List ObjectLine → Option ParsedScriptLine → Type 0
IsHead objects None = ⊥
IsHead objects (Some (Object threshold host service)) = Unit {0}
IsHead objects (Some (Open moment age capacity limit)) = IsFaultless objects
IsHead objects (Some (Clock moment)) = ⊥
IsHead objects (Some (Packet form timestamp code host service output)) = ⊥
IsHead objects (Some (Line text)) = ⊥
IsHead objects (Some Page) = ⊥

-- the line sets the clock, has a packet that can be sent in its form or an operator's line, or asks for
-- a page
abbrev pub IsStep : Option ParsedScriptLine → Type 0
IsStep None = ⊥
IsStep (Some (Object threshold host service)) = ⊥
IsStep (Some (Open moment age capacity limit)) = ⊥
IsStep (Some (Clock moment)) = Unit {0}
IsStep (Some (Packet form timestamp code host service output)) =
    IsContent (content timestamp code host service output)
    × FitsForm form (content timestamp code host service output)
IsStep (Some (Line text)) = Unit {0}
IsStep (Some Page) = Unit {0}

-- the line at this index may stand where it stands
abbrev pub IsGoodAt : List (Option ParsedScriptLine) → ℕ → Type 0
IsGoodAt parsed index =
    MatchBool (has_open (take index parsed))
    (IsStep (slice_index_or parsed index None))
    (IsHead (objects_in (take index parsed)) (slice_index_or parsed index None))

-- the lines before this index are good
abbrev pub AreGood : List (Option ParsedScriptLine) → ℕ → Type 0
AreGood parsed index = (before : ℕ) → before < index → IsGoodAt parsed before

-- the line that opens so
abbrev pub open_line : Setup → ParsedScriptLine
open_line setup = Open setup.moment.0 setup.age setup.capacity setup.limit

-- the lines are all good, one of them opens, and this is the script that they make
pub record IsScript (parsed : List (Option ParsedScriptLine)) (script : Script) : Type 0 where
  pub good : AreGood parsed (length parsed)
  pub opens : opens_in parsed ≡ open_line script.setup ∷ []
  pub objects : objects_in parsed ≡ script.setup.table
  pub steps : steps_in parsed ≡ script.steps.items

-- the line at this index is faulty; after the last line, that none opens
abbrev pub IsFaultyAt : List (Option ParsedScriptLine) → ℕ → Type 0
IsFaultyAt parsed index =
    ((index < length parsed) × (IsGoodAt parsed index → ⊥)) ⊎ ((index ≡ length parsed) × (has_open parsed ≡ false))

-- the first faulty line has this number, from 1
pub record IsFirstFaultyLine (parsed : List (Option ParsedScriptLine)) (number : ℕ) : Type 0 where
  pub index : ℕ
  pub counted : number ≡ index + 1
  pub before : AreGood parsed index
  pub faulty : IsFaultyAt parsed index

-- the fault is the first one, or memory ran out
abbrev pub IsFaultOf : List (Option ParsedScriptLine) → ScriptFault → Type 0
IsFaultOf parsed (fault.Line number) = IsFirstFaultyLine parsed number
IsFaultOf parsed fault.OutOfMemory = Unit {0}
