-- A command for each word, a word that is no number, and a text of three parts.
use Rattle.std.proofs.Common.{◌≡◌, ℕ, ◌+◌, ◌<◌, ◌≤◌, List, [], ◌∷◌, ◌++◌, length, map, drop, get_or, Option, Some, None, true, ap, sym, ◌∙◌, append_assoc, append-nil}
use Rattle.std.specs.Prelude.{if◌then◌else◌, is_none}
use Rattle.std.proofs.lemmas.List.{at_drop_more, drop_all, map-append}
use Rattle.std.proofs.lemmas.List.Folds.{list_any_at}
use Rattle.gate_grammar.specs.Numbers.{number_of}
use Rattle.operator_commands.specs.declared.bodies.RequestFault.TheVariants.{BadId}
use Rattle.operator_effects.specs.declared.commands.PlanFault.{PlanFault}
use Rattle.operator_effects.specs.declared.commands.PlanFault.TheVariants.{Request}
use Rattle.operator_effects.specs.Commands.{ids_fault}

pub one_more : {A B : Type 0} (f : A → Option B) (made : List B) (one : B) (words : List A) (index : ℕ) (default : A)
    → index < length words → f (get_or words index default) ≡ Some one
    → map Some made ++ map f (drop index words) ≡ map f words
    → map Some (made ++ one ∷ []) ++ map f (drop (index + 1) words) ≡ map f words
one_more f made one words index default inside is before =
    ap (λ all. all ++ map f (drop (index + 1) words)) (map-append Some made (one ∷ []))
    ∙ append_assoc (map Some made) (Some one ∷ []) (map f (drop (index + 1) words))
    ∙ ap (λ first. map Some made ++ first ∷ map f (drop (index + 1) words)) (sym is)
    ∙ ap (λ rest. map Some made ++ rest) (sym (at_drop_more (map f) words index default inside))
    ∙ before

pub all_made : {A B : Type 0} (f : A → Option B) (made : List B) (words : List A) (index : ℕ) → length words ≤ index
    → map Some made ++ map f (drop index words) ≡ map f words → map Some made ≡ map f words
all_made f made words index ends before =
    sym (append-nil (map Some made)) ∙ ap (λ left. map Some made ++ map f left) (sym (drop_all index words ends)) ∙ before

pub bad_id : (words : List (List ℕ)) (index : ℕ) (word : List ℕ) (fault : PlanFault) → index < length words
    → word ≡ get_or words index word → number_of word ≡ None → fault ≡ Request BadId → ids_fault words ≡ Some fault
bad_id words index word fault inside is none cause =
    let here : is_none (number_of (get_or words index word)) ≡ true =
    ap (λ one. is_none (number_of one)) (sym is) ∙ ap is_none none in
    ap (λ any. if any then Some (Request BadId) else None) (list_any_at (λ one. is_none (number_of one)) words index word inside here)
    ∙ ap (λ one. Some one) (sym cause)

-- a text that three parts were appended to
pub joined : (out one two three : List ℕ) (first second third : List ℕ) → first ≡ out ++ one → second ≡ first ++ two
    → third ≡ second ++ three → third ≡ out ++ (one ++ (two ++ three))
joined out one two three first second third is_first is_second is_third =
    is_third ∙ ap (λ text. text ++ three) is_second ∙ ap (λ text. (text ++ two) ++ three) is_first
    ∙ append_assoc (out ++ one) two three ∙ append_assoc out one (two ++ three)
