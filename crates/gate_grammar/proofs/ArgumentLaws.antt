-- Arguments: what is read is spelled so, and what is spelled so is read.
use Rattle.std.proofs.Common.{◌≡◌, ℕ, ◌+◌, ◌<◌, false, List, [], ◌∷◌, ◌++◌, length, map, Option, Some, None, Result, Ok, Err, refl, sym, ap, ◌∙◌, subst, arith}
use Rattle.std.proofs.lemmas.List.{append-nil}
use Rattle.gate_grammar.specs.Numbers.{number_of, code_of}
use Rattle.gate_grammar.specs.declared.arguments.ArgumentKind.{ArgumentKind}
use Rattle.gate_grammar.specs.declared.arguments.ArgumentKind.TheVariants as kind
use Rattle.gate_grammar.specs.declared.faults.LineFault.{LineFault}
use Rattle.gate_grammar.specs.Arguments.{ArgumentValue, Name, Number, Code, Text, argument_kind}
use Rattle.gate_grammar.specs.Spelling.{joined, IsSplit, SpellsValue, SpellEach, holds}
use Rattle.gate_grammar.specs.Faults.{Begins}
use Rattle.gate_grammar.specs.Parsing.{◌>>=◌, numeric, values_at, value_at, text_before, text_from}
use Rattle.gate_grammar.proofs.Cuts.{before_from, before_clean, from_begins, before_again, from_again}

-- where two steps find no fault, the first found something
pub bind_ok : {A B : Type 0} (first : Result A LineFault) (next : A → Result B LineFault) (y : B) → (first >>= next) ≡ Ok y → (x : A) × (first ≡ Ok x) × (next x ≡ Ok y)
bind_ok (Ok x) next y is = (x, refl, is)
bind_ok (Err fault) next y is = cc

numeric_ok : {A : Type 0} (make : A → ArgumentValue) (number : ℕ) (found : Option A) (value : ArgumentValue) → numeric make number found ≡ Ok value → (x : A) × (found ≡ Some x) × (make x ≡ value)
numeric_ok make number None value is = cc
numeric_ok make number (Some x) value is = (x, refl, cc)

-- ---- one argument

pub record IsRead (kind : ArgumentKind) (text : List ℕ) (value : ArgumentValue) : Type 0 where
  pub spells : SpellsValue text value
  pub of_kind : argument_kind value ≡ kind

at_value : (kind : ArgumentKind) (text : List ℕ) (value same : ArgumentValue) → value ≡ same → IsRead kind text value → IsRead kind text same
at_value kind text value same is read = let P : ArgumentValue → Type 0 = λ x. IsRead kind text x in subst P is read

ok_value : (value same : ArgumentValue) → ◌≡◌ {A = Result ArgumentValue LineFault} (Ok value) (Ok same) → value ≡ same
ok_value value same is = cc

pub value_read : (k : ArgumentKind) (number : ℕ) (text : List ℕ) (value : ArgumentValue) → value_at k number text ≡ Ok value → IsRead k text value
unfolding value_at
value_read kind.Name number [] value is = cc
value_read kind.Name number (byte ∷ text) value is = at_value kind.Name (byte ∷ text) (Name (byte ∷ text)) value (ok_value _ _ is) (record { spells = (refl, omega arith); of_kind = refl })
value_read kind.Number number text value is = let found = numeric_ok Number number (number_of text) value is in at_value kind.Number text (Number found.0) value found.2 (record { spells = found.1; of_kind = refl })
value_read kind.Code number text value is = let found = numeric_ok Code number (code_of text) value is in at_value kind.Code text (Code found.0) value found.2 (record { spells = found.1; of_kind = refl })
value_read kind.Text number text value is = at_value kind.Text text (Text text) value (ok_value _ _ is) (record { spells = refl; of_kind = refl })

name_again : (number : ℕ) (text name : List ℕ) → text ≡ name → 0 < length name → value_at kind.Name number text ≡ Ok (Name name)
unfolding value_at
name_again number [] [] is some = absurd (omega arith)
name_again number [] (byte ∷ name) is some = cc
name_again number (byte ∷ text) name is some = ap (λ x. Ok (Name x)) is

pub value_again : (number : ℕ) (text : List ℕ) (value : ArgumentValue) → SpellsValue text value → value_at (argument_kind value) number text ≡ Ok value
unfolding value_at
value_again number text (Name name) spells = name_again number text name spells.0 spells.1
value_again number text (Number found) spells = rw spells refl
value_again number text (Code found) spells = rw spells refl
value_again number text (Text whole) spells = ap (λ x. Ok (Text x)) spells

-- ---- all arguments

pub record AreRead (kinds : List ArgumentKind) (rest : List ℕ) (values : List ArgumentValue) : Type 0 where
  pub texts : List (List ℕ)
  pub whole : rest ≡ joined texts
  pub split : IsSplit texts
  pub each : SpellEach texts values
  pub of_kinds : map argument_kind values ≡ kinds

at_values : (kinds : List ArgumentKind) (rest : List ℕ) (values same : List ArgumentValue) → values ≡ same → AreRead kinds rest values → AreRead kinds rest same
at_values kinds rest values same is read = let P : List ArgumentValue → Type 0 = λ x. AreRead kinds rest x in subst P is read

ok_values : (values same : List ArgumentValue) → ◌≡◌ {A = Result (List ArgumentValue) LineFault} (Ok values) (Ok same) → values ≡ same
ok_values values same is = cc

split_cons : (text : List ℕ) (texts : List (List ℕ)) → holds 59 text ≡ false → IsSplit texts → IsSplit (text ∷ texts)
split_cons text [] clean split = tt
split_cons text (next ∷ texts) clean split = (clean, split)

last_read : (kind : ArgumentKind) (byte : ℕ) (text : List ℕ) (value : ArgumentValue) → byte ≡ 59 → IsRead kind text value → AreRead (kind ∷ []) (byte ∷ text) (value ∷ [])
last_read kind byte text value semicolon one = record {
  texts = text ∷ [];
  whole = rw (semicolon, append-nil text) refl;
  split = tt;
  each = (one.spells, tt);
  of_kinds = ap (λ x. x ∷ []) one.of_kind;
}

more_read : (kind following : ArgumentKind) (kinds : List ArgumentKind) (byte : ℕ) (text : List ℕ) (value : ArgumentValue) (values : List ArgumentValue) → byte ≡ 59 → IsRead kind (text_before 59 text) value → AreRead (following ∷ kinds) (text_from 59 text) values → AreRead (kind ∷ following ∷ kinds) (byte ∷ text) (value ∷ values)
more_read kind following kinds byte text value values semicolon one more = record {
  texts = text_before 59 text ∷ more.texts;
  whole = ap (λ x. x ∷ text) semicolon ∙ ap (λ x. 59 ∷ x) (sym (before_from 59 text) ∙ ap (λ x. text_before 59 text ++ x) more.whole);
  split = split_cons (text_before 59 text) more.texts (before_clean 59 text) more.split;
  each = (one.spells, more.each);
  of_kinds = rw (one.of_kind, more.of_kinds) refl;
}

pub values_read : (number : ℕ) (kinds : List ArgumentKind) (rest : List ℕ) (values : List ArgumentValue) → Begins 59 rest → values_at number kinds rest ≡ Ok values → AreRead kinds rest values
unfolding values_at
values_read number [] [] values begins is = at_values [] [] [] values (ok_values _ _ is) (record { texts = []; whole = refl; split = tt; each = tt; of_kinds = refl })
values_read number [] (byte ∷ text) values begins is = cc
values_read number (kind ∷ kinds) [] values begins is = cc
values_read number (kind ∷ []) (byte ∷ text) values begins is =
    let one = bind_ok (value_at kind number text) (λ v. values_at (number + 1) [] [] >>= λ vs. Ok (v ∷ vs)) values is in
    at_values (kind ∷ []) (byte ∷ text) (one.0 ∷ []) values (ok_values _ _ one.2) (last_read kind byte text one.0 begins (value_read kind number text one.0 one.1))
values_read number (kind ∷ next ∷ kinds) (byte ∷ text) values begins is =
    let one = bind_ok (value_at kind number (text_before 59 text)) (λ v. values_at (number + 1) (next ∷ kinds) (text_from 59 text) >>= λ vs. Ok (v ∷ vs)) values is in
    let more = bind_ok (values_at (number + 1) (next ∷ kinds) (text_from 59 text)) (λ vs. Ok (one.0 ∷ vs)) values one.2 in
    at_values (kind ∷ next ∷ kinds) (byte ∷ text) (one.0 ∷ more.0) values (ok_values _ _ more.2) (more_read kind next kinds byte text one.0 more.0 begins (value_read kind number (text_before 59 text) one.0 one.1) (values_read (number + 1) (next ∷ kinds) (text_from 59 text) more.0 (from_begins 59 text) more.1))

pub joined_begins : (texts : List (List ℕ)) → Begins 59 (joined texts)
joined_begins [] = tt
joined_begins (text ∷ texts) = refl

last_again : (number : ℕ) (text : List ℕ) (value : ArgumentValue) → SpellsValue text value → values_at number (argument_kind value ∷ []) (59 ∷ text) ≡ Ok (value ∷ [])
unfolding values_at
last_again number text value spells = rw (value_again number text value spells) refl

more_again : (number : ℕ) (text rest : List ℕ) (value : ArgumentValue) (kind : ArgumentKind) (kinds : List ArgumentKind) (values : List ArgumentValue) → holds 59 text ≡ false → Begins 59 rest → SpellsValue text value → values_at (number + 1) (kind ∷ kinds) rest ≡ Ok values → values_at number (argument_kind value ∷ kind ∷ kinds) (59 ∷ (text ++ rest)) ≡ Ok (value ∷ values)
unfolding values_at
more_again number text rest value kind kinds values clean begins spells more =
    rw (before_again 59 text rest clean begins, from_again 59 text rest clean begins, value_again number text value spells, more) refl

pub values_again : (number : ℕ) (texts : List (List ℕ)) (values : List ArgumentValue) → IsSplit texts → SpellEach texts values → values_at number (map argument_kind values) (joined texts) ≡ Ok values
unfolding values_at
values_again number [] [] split each = refl
values_again number [] (value ∷ values) split each = absurd each
values_again number (text ∷ texts) [] split each = absurd each
values_again number (text ∷ []) (value ∷ []) split each = ap (λ x. values_at number (argument_kind value ∷ []) (59 ∷ x)) (append-nil text) ∙ last_again number text value each.0
values_again number (text ∷ []) (value ∷ next ∷ values) split each = absurd each.1
values_again number (text ∷ next ∷ texts) (value ∷ []) split each = absurd each.1
values_again number (text ∷ next ∷ texts) (value ∷ after ∷ values) split each =
    more_again number text (joined (next ∷ texts)) value (argument_kind after) (map argument_kind values) (after ∷ values) split.0 refl each.0 (values_again (number + 1) (next ∷ texts) (after ∷ values) split.1 each.1)
