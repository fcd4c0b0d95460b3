-- What `status` prints of the page that it reads: `IsShown`.
use Rattle.std.specs.Prelude.{◌≡◌, ℕ, Bool, true, false, List, [], ◌∷◌, ◌++◌, Option, None, Ok}
use Rattle.std.specs.List.{flat_map}
use Rattle.gate_streams.specs.Sink.{SinkState, Delivers}
use Rattle.status_reading.specs.declared.page.StatusPage.{StatusPage}
use Rattle.status_merge.specs.declared.gateway.Gateway.{Gateway}
use Rattle.status_merge.specs.declared.gateway.MergedObject.{MergedObject}
use Rattle.status_merge.specs.Asking.{Asked}
use Rattle.status_merge.specs.Objects.{merged, objects_on, with_hosts}
use Rattle.status_merge.specs.Selecting.{selected}
use Rattle.status_export.specs.Document.{compact_text, status_document}
use Rattle.operator_setup.specs.declared.fault.ControlFault.{ControlFault}
use Rattle.operator_setup.specs.declared.fault.ControlFault.TheVariants.{NoPage, BadPage, WriteFault, OutOfMemory}
use Rattle.operator_setup.specs.Pages.{IsPageIn}
use Rattle.operator_ports.specs.declared.next.Next.{Next}
use Rattle.operator_ports.specs.Steps.{Step, Read, IsTextOf}
use Rattle.operator_showing.specs.Choosing.{IsAskedFor, IsQueryFault, object_lines, chosen_text}

-- a gateway of this name, whose page this is
pub record IsAlone (name : List ℕ) (page : StatusPage) (gateway : Gateway) : Type 0 where
  pub name_is : gateway.name.now ≡ name
  pub page_is : gateway.page ≡ Ok page
  pub since_is : gateway.since.now ≡ []
  pub old_is : gateway.old ≡ None
  pub alarms_are : gateway.alarms.items ≡ []

-- the objects of one gateway, as statusweb shows those of several
abbrev pub objects_at : Gateway → List MergedObject
objects_at gateway = with_hosts (merged (flat_map objects_on (gateway ∷ [])))

-- the lines of those that are asked for, where this is the text of its page
abbrev pub chosen_on : List ℕ → Asked → Gateway → List ℕ
chosen_on text asked gateway = chosen_text asked (object_lines text) (objects_at gateway)

-- the gateway as JSON, with those objects, and an LF
abbrev pub json_on : Asked → Gateway → List ℕ
json_on asked gateway =
    compact_text (status_document (gateway ∷ []) (selected asked (objects_at gateway)) asked) ++ 10 ∷ []

-- the text is a page, and was printed
pub record IsPageShown (text : List ℕ) (before after : SinkState) : Type 0 where
  pub page : StatusPage
  pub is_page : IsPageIn text page
  pub printed : Delivers before after text

-- the text is a page, and the lines of what is asked for were printed
pub record IsChosenShown (text : List ℕ) (asked : Asked) (before after : SinkState) : Type 0 where
  pub page : StatusPage
  pub is_page : IsPageIn text page
  pub gateway : Gateway
  pub alone : IsAlone [] page gateway
  pub printed : Delivers before after (chosen_on text asked gateway)

-- the text is a page, and what is asked for was printed as JSON, for a gateway of this name
pub record IsJsonShown (text name : List ℕ) (asked : Asked) (before after : SinkState) : Type 0 where
  pub page : StatusPage
  pub is_page : IsPageIn text page
  pub gateway : Gateway
  pub alone : IsAlone name page gateway
  pub printed : Delivers before after (json_on asked gateway)

-- what is asked for was printed of the page that the text is: as it came where nothing is chosen
abbrev pub IsShownOf : Bool → List ℕ → Option (List ℕ) → Option (List ℕ) → Asked → List ℕ → SinkState → SinkState → Type 0
IsShownOf true name state host asked text before after = IsJsonShown text name asked before after
IsShownOf false name None None asked text before after = IsPageShown text before after
IsShownOf false name state host asked text before after = IsChosenShown text asked before after

-- the gateway's page was read, and what `--json`, `--state` and `--host` ask for was printed of it
pub record IsShown (json : Bool) (name : List ℕ) (state host : Option (List ℕ)) (steps : List Step) (before after : SinkState)
    : Type 0 where
  pub first : Next
  pub text : List ℕ
  pub is_text : IsTextOf first text
  pub done : steps ≡ Read first ∷ []
  pub asked : Asked
  pub is_asked : IsAskedFor state host asked
  pub shown : IsShownOf json name state host asked text before after

-- why a text isn't printed, or a part of it
abbrev pub IsShowFault : ControlFault → Type 0
IsShowFault BadPage = Unit {0}
IsShowFault WriteFault = Unit {0}
IsShowFault OutOfMemory = Unit {0}
IsShowFault fault = ⊥

-- why nothing is printed, or a part: what is asked for has a fault, no page comes or none is in the text, or the output
-- can't be written
abbrev pub IsStatusFault : Option (List ℕ) → Option (List ℕ) → ControlFault → Type 0
IsStatusFault state host (NoPage fault) = Unit {0}
IsStatusFault state host BadPage = Unit {0}
IsStatusFault state host WriteFault = Unit {0}
IsStatusFault state host fault = IsQueryFault state host fault
