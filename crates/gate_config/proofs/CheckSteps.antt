-- Tests in a row, and rows of tests one after another.
use Rattle.std.proofs.Common.{◌≡◌, ℕ, zero, suc, ◌+◌, ◌<◌, List, [], ◌∷◌, ◌++◌, length, take, get_or, map, subst, ap, sym, ◌∙◌, refl, inl, inr, arith}
use Rattle.std.proofs.lemmas.List.{append_assoc, flat_map_more, take_more}
use Rattle.std.specs.List.{flat_map}
use Rattle.gate_config.specs.declared.fault.ConfigFault.{ConfigFault}
use Rattle.gate_config.specs.Check.{Check, AllPass, FirstFails}

pub pass_both : (some more : List Check) → AllPass some → AllPass more → AllPass (some ++ more)
pass_both [] more _ rest = rest
pass_both (check ∷ some) more all rest = (all.0, pass_both some more all.1 rest)

pub pass_parts : (some more : List Check) → AllPass (some ++ more) → AllPass some × AllPass more
pass_parts [] more all = (tt, all)
pass_parts (check ∷ some) more all =
    let parts = pass_parts some more all.1 in ((all.0, parts.0), parts.1)

pub fails_early : (some more : List Check) (fault : ConfigFault) → FirstFails some fault → FirstFails (some ++ more) fault
fails_early [] more fault never = absurd never
fails_early (check ∷ some) more fault fails =
    elim fails [ inl here ↦ inl here | inr later ↦ inr (later.0, fails_early some more fault later.1) ]

pub fails_late : (some more : List Check) (fault : ConfigFault) → AllPass some → FirstFails more fault → FirstFails (some ++ more) fault
fails_late [] more fault _ fails = fails
fails_late (check ∷ some) more fault all fails = inr (all.0, fails_late some more fault all.1 fails)

module _ {X A : Type 0} where
  -- what the elements before this one give, and then its own
  pub gives_more : (f : X → List A) (xs : List X) (i : ℕ) (x : X) → i < length xs → x ≡ get_or xs i x
      → flat_map f (take i xs) ++ f x ≡ flat_map f (take (i + 1) xs)
  gives_more f xs i x within same =
      flat_map_more f [] (take i xs) x
      ∙ ap (flat_map f) (ap (λ y. take i xs ++ y ∷ []) same ∙ sym (take_more xs i x within))

module _ {X A : Type 0} where
  pub lines_more : (f : X → List A) (xs : List X) (i : ℕ) (x : X) (start now next : List A) → i < length xs → x ≡ get_or xs i x
      → now ≡ start ++ flat_map f (take i xs) → next ≡ now ++ f x → next ≡ start ++ flat_map f (take (i + 1) xs)
  lines_more f xs i x start now next within same before after =
      after ∙ ap (λ lines. lines ++ f x) before ∙ append_assoc start _ (f x)
      ∙ ap (λ lines. start ++ lines) (gives_more f xs i x within same)

module _ {X : Type 0} where
  -- the tests of the elements before this one, and its own, are passed
  pub pass_more : (checks : X → List Check) (xs : List X) (i : ℕ) (x : X) → i < length xs → x ≡ get_or xs i x
      → AllPass (flat_map checks (take i xs)) → AllPass (checks x) → AllPass (flat_map checks (take (i + 1) xs))
  pass_more checks xs i x within same before here =
      subst AllPass (gives_more checks xs i x within same) (pass_both _ _ before here)

  -- the tests of the elements before this one are passed, and one of its own is not
  pub fails_at : (checks : X → List Check) (xs : List X) (i : ℕ) (x : X) (fault : ConfigFault) → i < length xs → x ≡ get_or xs i x
      → AllPass (flat_map checks (take i xs)) → FirstFails (checks x) fault → FirstFails (flat_map checks xs) fault
  fails_at checks [] i x fault within _ _ _ = absurd (omega arith)
  fails_at checks (y ∷ ys) zero x fault within same before here =
      fails_early (checks y) _ fault (let P : X → Type 0 = λ z. FirstFails (checks z) fault in subst P same here)
  fails_at checks (y ∷ ys) (suc i) x fault within same before here =
      let parts = pass_parts (checks y) (flat_map checks (take i ys)) before in
      fails_late (checks y) _ fault parts.0 (fails_at checks ys i x fault (omega arith) same parts.1 here)

module _ {X Y A : Type 0} where
  -- a list of what some elements are seen as
  pub flat_map-map : (f : Y → List A) (g : X → Y) (xs : List X) → flat_map f (map g xs) ≡ flat_map (λ x. f (g x)) xs
  flat_map-map f g [] = refl
  flat_map-map f g (x ∷ xs) = ap (λ rest. f (g x) ++ rest) (flat_map-map f g xs)
