-- What holds of each element of a list, once the list is appended to, reversed, mapped or filtered.
use Rattle.std.proofs.Common.{ℕ, zero, suc, Bool, true, false, List, [], ◌∷◌, ◌++◌, map, Option, Some, None, sym, subst}
use Rattle.std.specs.Prelude.{filter, filter_map, slice_get, reverse, option_map, unwrap_or, IfSome, if◌then◌else◌}
use Rattle.std.specs.List.{AllByRecursion, cons_option}
use Rattle.std.specs.Option.{option_to_list, option_and_then}
use Rattle.std.proofs.lemmas.List.{reverse-append}

module _ {A : Type 0} (P : A → Type 0) where
  pub each_append : (front back : List A) → AllByRecursion P front → AllByRecursion P back
      → AllByRecursion P (front ++ back)
  each_append [] back all rest = rest
  each_append (one ∷ front) back all rest = (all.0, each_append front back all.1 rest)

  pub each_reverse : (list : List A) → AllByRecursion P list → AllByRecursion P (reverse list)
  each_reverse [] all = tt
  each_reverse (one ∷ list) all =
      subst (AllByRecursion P) (sym (reverse-append (one ∷ []) list))
      (each_append (reverse list) (one ∷ []) (each_reverse list all.1) (all.0, tt))

  each_kept : (kept : Bool) (one : A) (list : List A) → P one → AllByRecursion P list
      → AllByRecursion P (if kept then one ∷ list else list)
  each_kept true one list here all = (here, all)
  each_kept false one list here all = all

  pub each_filter : (test : A → Bool) (list : List A) → AllByRecursion P list → AllByRecursion P (filter test list)
  each_filter test [] all = tt
  each_filter test (one ∷ list) all = each_kept (test one) one (filter test list) all.0 (each_filter test list all.1)

  pub each_option : (found : Option A) → IfSome found P → AllByRecursion P (option_to_list found)
  each_option None here = tt
  each_option (Some one) here = (here, tt)

  pub each_cons_option : (found : Option A) (list : List A) → IfSome found P → AllByRecursion P list
      → AllByRecursion P (cons_option found list)
  each_cons_option None list here all = all
  each_cons_option (Some one) list here all = (here, all)

  -- the element at an index, if there is one
  pub each_at : (list : List A) (index : ℕ) → AllByRecursion P list → IfSome (slice_get list index) P
  each_at [] index all = tt
  each_at (one ∷ list) zero all = all.0
  each_at (one ∷ list) (suc index) all = each_at list index all.1

  pub each_from_at : (list : List A) → ((index : ℕ) → IfSome (slice_get list index) P) → AllByRecursion P list
  each_from_at [] at = tt
  each_from_at (one ∷ list) at = (at 0, each_from_at list (λ index. at (suc index)))

  pub some_if : (test : Bool) (one : A) → P one → IfSome (if test then Some one else None) P
  some_if true one here = here
  some_if false one here = tt

pub each_weaker : {A : Type 0} (P Q : A → Type 0) → ((one : A) → P one → Q one) → (list : List A)
    → AllByRecursion P list → AllByRecursion Q list
each_weaker P Q step [] all = tt
each_weaker P Q step (one ∷ list) all = (step one all.0, each_weaker P Q step list all.1)

module _ {A B : Type 0} (P : A → Type 0) (Q : B → Type 0) where
  pub each_map : (made : A → B) → ((one : A) → P one → Q (made one)) → (list : List A) → AllByRecursion P list
      → AllByRecursion Q (map made list)
  each_map made step [] all = tt
  each_map made step (one ∷ list) all = (step one all.0, each_map made step list all.1)

  pub each_filter_map : (made : A → Option B) → ((one : A) → P one → IfSome (made one) Q) → (list : List A)
      → AllByRecursion P list → AllByRecursion Q (filter_map made list)
  each_filter_map made step [] all = tt
  each_filter_map made step (one ∷ list) all =
      each_cons_option Q (made one) (filter_map made list) (step one all.0) (each_filter_map made step list all.1)

module _ {A B : Type 0} (P : B → Type 0) (made : A → B) (all : (one : A) → P (made one)) where
  -- what holds of all that is made
  pub every_map : (list : List A) → AllByRecursion P (map made list)
  every_map [] = tt
  every_map (one ∷ list) = (all one, every_map list)

module _ {A B : Type 0} (P : B → Type 0) where
  -- what holds of all that is made, if one was found to make it of
  pub some_made : (making : A → Option B) → ((one : A) → IfSome (making one) P) → (found : Option A) → IfSome (option_and_then making found) P
  some_made making each None = tt
  some_made making each (Some one) = each one

  pub each_made : (making : A → List B) → ((one : A) → AllByRecursion P (making one)) → (found : Option A)
      → AllByRecursion P (unwrap_or (option_map making found) [])
  each_made making each None = tt
  each_made making each (Some one) = each one

module _ {A B : Type 0} (P : A → Type 0) (Q : B → Type 0) where
  -- what holds of all that is made of such a one, if it was found
  pub each_found : (making : A → List B) → ((one : A) → P one → AllByRecursion Q (making one)) → (found : Option A) → IfSome found P
      → AllByRecursion Q (unwrap_or (option_map making found) [])
  each_found making each None here = tt
  each_found making each (Some one) here = each one here
