-- The command of a form at a gateway (`IsOrder`), and why there is none (`IsObjection`). Own rules.
use Rattle.std.specs.Prelude.{◌≡◌, ◌≢◌, ℕ, Bool, true, List, codes, ⊤}
use Rattle.std.specs.Option.{option_map_or}
use Rattle.std.specs.Str.{bytes_eq}
use Rattle.gate_model.specs.declared.record.Moment.{Moment}
use Rattle.gate_model.specs.declared.record.Outcome.TheVariants.{Accepted}
use Rattle.gate_grammar.specs.declared.commands.Command.{Command}
use Rattle.gate_grammar.specs.Canonical.{canonical_line}
use Rattle.gate_grammar.specs.Writability.{IsWritable}
use Rattle.gate_reader.specs.Lines.{HasNoBreak}
use Rattle.status_reading.specs.Rows.{PageView}
use Rattle.page_changes.specs.Foreseen.{outcome_on}
use Rattle.operator_lines.specs.declared.asking.AskFault.TheVariants.{Unsent}
use Rattle.operator_lines.specs.declared.sending.SendFault.TheVariants as send
use Rattle.operator_lines.specs.Sending.{SpellsAlone}
use Rattle.operator_effects.specs.declared.ending.Ending.TheVariants as ending
use Rattle.operator_effects.specs.Messages.{message}
use Rattle.desk_forms.specs.declared.fields.Field.{Field}
use Rattle.desk_forms.specs.Fields.{given}
use Rattle.desk_forms.specs.Sender.{Sender}
use Rattle.desk_forms.specs.Commands.{IsCommandOf}
use Rattle.desk_forms.specs.Faults.{IsFormFault, words_of}
use Rattle.desk_forms.specs.Offers.{IsAllowed}
use Rattle.desk_sending.specs.declared.orders.Objection.{Objection}
use Rattle.desk_sending.specs.declared.orders.Objection.TheVariants.{Form, Refused, Unwritable, OutOfMemory}

-- a form is for the gateway of this name, or for each
abbrev pub is_asked : List ℕ → List Field → Bool
is_asked name fields = option_map_or (λ named. bytes_eq named name) (given (codes "gateway") fields) true

-- the command's line has no LF, and spells the command and no other
pub record IsOneLine (command : Command) : Type 0 where
  pub no_break : HasNoBreak (canonical_line command)
  pub alone : SpellsAlone command

-- the command is the form's on this page now, for what the page shows and by the form's user; the gateway would accept it,
-- and it has one line
pub record IsOrder (page : PageView) (now : Moment) (form : Sender) (command : Command) : Type 0 where
  pub entered : command.entered ≡ now
  pub asked : IsCommandOf page now form command.body
  pub allowed : IsAllowed page form.user command.body
  pub accepted : outcome_on page command.body ≡ Accepted
  pub line : IsOneLine command

-- no line can hold the command, or memory ran out
abbrev pub IsUnwritable : Command → Objection → Type 0
IsUnwritable command (Unwritable body) = (body ≡ command.body) × (¬ IsWritable command)
IsUnwritable command OutOfMemory = ⊤
IsUnwritable command other = ⊥

-- why there is none
abbrev pub IsObjection : PageView → Moment → Sender → Objection → Type 0
IsObjection page now form (Form fault) = IsFormFault page now form fault
IsObjection page now form (Refused body outcome) =
    IsCommandOf page now form body × (outcome_on page body ≡ outcome) × (outcome ≢ Accepted)
IsObjection page now form (Unwritable body) =
    IsCommandOf page now form body × (¬ IsWritable (record { entered = now; body = body }))
IsObjection page now form OutOfMemory = ⊤

-- the words for it
abbrev pub objection_text : Objection → List ℕ
objection_text (Form fault) = words_of fault
objection_text (Refused body outcome) = message body (ending.Refused outcome)
objection_text (Unwritable body) = message body (ending.NoAnswer (Unsent send.Unwritable))
objection_text OutOfMemory = codes "out of memory"
