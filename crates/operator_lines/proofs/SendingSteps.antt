-- Lines that are sent one after another.
use Rattle.std.proofs.Common.{◌≡◌, ℕ, suc, ◌+◌, ◌<◌, ◌≤◌, false, List, [], ◌∷◌, ◌++◌, length, map, drop, get_or, sym, ap, ◌∙◌, refl, arith, append_assoc, append-nil, add-one, drop-cons}
use Rattle.std.specs.List.{AllByRecursion, flat_map, list_any}
use Rattle.std.proofs.lemmas.List.{drop_all}
use Rattle.std.proofs.lemmas.Grind.{common_steps}
use Rattle.gate_grammar.specs.declared.commands.Command.{Command}
use Rattle.gate_grammar.specs.Canonical.{canonical_line}
use Rattle.gate_grammar.specs.Spelling.{is_barred}
use Rattle.gate_reader.specs.Lines.{HasNoBreak, BeginsLine, CutsLines}
use Rattle.operator_lines.specs.Sending.{sent, SpellsAlone}

-- the item of a turn stands first in what is left
pub left_at : {A : Type 0} (items : List A) (index : ℕ) (item : A) → index < length items → item ≡ get_or items index item
    → drop index items ≡ item ∷ drop (index + 1) items
left_at items index item within is =
    rw add-one (drop-cons items index item within ∙ ap (λ first. first ∷ drop (suc index) items) (sym is))

-- a text without a NUL and without an LF has no LF
pub unbroken : (text : List ℕ) → list_any is_barred text ≡ false → HasNoBreak text
unbroken [] clean = tt
unbroken (byte ∷ text) clean = (
  (λ is. grind (arith, common_steps)),
  unbroken text (grind (arith, common_steps)),
)

-- one line and what follows
pub begins : (command : Command) (commands : List Command) → SpellsAlone command
    → BeginsLine (flat_map sent (command ∷ commands)) (canonical_line command) (flat_map sent commands)
begins command commands spelled = record {
  whole = append_assoc (canonical_line command) (10 ∷ []) (flat_map sent commands);
  no_break = unbroken (canonical_line command) spelled.spells.clean;
}

pub cuts : (commands : List Command) → AllByRecursion SpellsAlone commands
    → CutsLines (flat_map sent commands) (map canonical_line commands) []
cuts [] all = refl
cuts (command ∷ commands) all =
    (flat_map sent commands, begins command commands all.0, cuts commands all.1)

-- nothing is left after the last
pub all_sent : (out : List ℕ) (commands : List Command) (index : ℕ) → length commands ≤ index
    → out ++ flat_map sent (drop index commands) ≡ flat_map sent commands → out ≡ flat_map sent commands
all_sent out commands index end is =
    sym (append-nil out) ∙ ap (λ rest. out ++ flat_map sent rest) (sym (drop_all index commands end)) ∙ is

pub all_read : (commands : List Command) (index : ℕ) → length commands ≤ index
    → (AllByRecursion SpellsAlone (drop index commands) → AllByRecursion SpellsAlone commands)
    → AllByRecursion SpellsAlone commands
all_read commands index end reached = reached (rw (drop_all index commands end) tt)
