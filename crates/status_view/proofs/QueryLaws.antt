-- The queries that ask for a page and for the objects of a host are read as what they were written of: `query_read` and
-- `hosts_read`.
use Rattle.std.proofs.Common.{◌≡◌, ℕ, ◌^◌, ◌<◌, ◌≤◌, max, false, List, [], ◌∷◌, Option, Some, None, refl, ap, sym, ◌∙◌, map, inl, inr, filter, All, arith, codes, subst}
use Rattle.std.specs.List.{last_or}
use Rattle.std.specs.Str.{bytes_eq}
use Rattle.std.specs.Str.Lossy.{utf8_lossy}
use Rattle.std.specs.Fmt.{decimal}
use Rattle.std.proofs.lemmas.Bool.{cases_Bool}
use Rattle.std.proofs.lemmas.List.Elements.{All-head, All-tail, All-cons, All-nil, All-weaker, All-from_recursion}
use Rattle.std.proofs.lemmas.Str.Ascii.{IsAscii-from_all}
use Rattle.std.proofs.lemmas.Fmt.{decimal_is_IsNumeral, first_decimal}
use Rattle.std.proofs.lemmas.Str.{utf8_lossy-IsUtf8, IsUtf8-from_ascii}
use Rattle.std.proofs.lemmas.Str.Parse.{without_leading_plus_none}
use Rattle.percent_encoding.proofs.PercentLemmas.{IsByte}
use Rattle.form_urlencoded.specs.Form.{decode, parse, raw_pairs}
use Rattle.form_urlencoded.proofs.FormLemmas.{IsBytePair, round_trip}
use Rattle.status_merge.specs.Asking.{Asked, choice_of, choice_word, mark_of, mark_word, number_of, sort_of, sort_word, text_of, value_of, asked_in, only, sort_asked, page_asked}
use Rattle.status_merge.specs.declared.query.Choice.TheVariants as choice
use Rattle.status_merge.specs.declared.query.Sort.{Sort}
use Rattle.status_merge.proofs.AskingSteps.{number-Ok}
use Rattle.status_view.specs.Links.{hosts_query, text_pairs, page_pairs, page_query}
use Rattle.status_view.specs.inner.Pairs.{IsTextPair}
use Rattle.status_view.proofs.LinkLaws.{value_written, hostname_bytes, hosts_parsed}

abbrev lossy : List ℕ × List ℕ → List ℕ × List ℕ
lossy pair = (utf8_lossy pair.0, utf8_lossy pair.1)

same_texts : (pairs : List (List ℕ × List ℕ)) → All IsTextPair pairs → map lossy pairs ≡ pairs
same_texts [] all = refl
same_texts (pair ∷ pairs) all =
    let first = All-head IsTextPair pair pairs all in
    λ i. (utf8_lossy-IsUtf8 pair.0 first.0.1 i, utf8_lossy-IsUtf8 pair.1 first.1.1 i) ∷ same_texts pairs (All-tail IsTextPair pair pairs all) i

-- the last value of a name among these pairs
abbrev last_of : List ℕ → List (List ℕ × List ℕ) → Option (List ℕ)
last_of name pairs =
    last_or None (map (λ (pair : List ℕ × List ℕ). pair.1) (filter (λ pair. bytes_eq pair.0 name) pairs))

abbrev decoded : List ℕ × List ℕ → List ℕ × List ℕ
decoded pair = (decode pair.0, decode pair.1)

named : (name : List ℕ) (pairs : List (List ℕ × List ℕ))
    → map (λ (pair : List ℕ × List ℕ). text_of pair.1) (filter (λ pair. bytes_eq (text_of pair.0) name) pairs)
    ≡ map (λ (pair : List ℕ × List ℕ). pair.1) (filter (λ pair. bytes_eq pair.0 name) (map lossy (map decoded pairs)))
named name [] = refl
named name (pair ∷ pairs) = elim (cases_Bool (bytes_eq (text_of pair.0) name)) [
  | inl hit ↦ rw hit (ap (λ rest. text_of pair.1 ∷ rest) (named name pairs))
  | inr miss ↦ rw miss (named name pairs)
]

hostname_text : utf8_lossy (codes "hostname") ≡ codes "hostname"
hostname_text =
    utf8_lossy-IsUtf8 (codes "hostname")
    (IsUtf8-from_ascii (codes "hostname") (IsAscii-from_all (codes "hostname") (All-from_recursion (λ byte. byte < 128) (codes "hostname") (
      omega arith,
      (omega arith, (omega arith, (omega arith, (omega arith, (omega arith, (omega arith, (omega arith, tt))))))),
    ))))

-- the first pair is that of the exact name of a host, and of no other name
others : (name host : List ℕ) (pairs : List (List ℕ × List ℕ)) → bytes_eq (codes "hostname") name ≡ false
    → last_of name (lossy (codes "hostname", host) ∷ pairs) ≡ last_of name pairs
others name host pairs other =
    ap (λ (first : List ℕ). last_of name ((first, utf8_lossy host) ∷ pairs)) hostname_text ∙ rw other refl

-- so of a query that was written of that and some other pairs, another name has their last value
written : (name query host : List ℕ) (pairs : List (List ℕ × List ℕ)) → bytes_eq (codes "hostname") name ≡ false
    → parse query ≡ (codes "hostname", host) ∷ pairs → All IsTextPair pairs
    → value_of name (raw_pairs query) ≡ last_of name pairs
written name query host pairs other same all =
    ap (last_or None) (named name (raw_pairs query))
    ∙ ap (λ (known : List (List ℕ × List ℕ)). last_of name (map lossy known)) same
    ∙ others name host (map lossy pairs) other
    ∙ ap (last_of name) (same_texts pairs all)

pub valued : (name text value : List ℕ) → text ≡ value → IsTextPair (name, text) → IsTextPair (name, value)
valued name text value same is = subst (λ (value : List ℕ). IsTextPair (name, value)) same is

-- a number that is written in decimal is read as itself
number_read : (number : ℕ) → 1 ≤ number → number < 2 ^ 32 → number_of (decimal number) ≡ Some number
number_read number least small =
    let text = decimal number in
    let first = first_decimal number least (omega (arith, small)) in
    let bare = without_leading_plus_none text (λ plus. omega (arith, first, plus)) in
    let is = decimal_is_IsNumeral number (omega (arith, small)) in
    sym (number-Ok text number (rw (bare, is.1) ((is.0, small), refl)))

pub query_read : (asked : Asked) (refresh : ℕ) (sort : Sort) (page : ℕ) → All IsTextPair (text_pairs asked refresh sort page)
    → All IsByte asked.hostname
    → choice_of (choice_word asked.choice) ≡ asked.choice
    → mark_of (mark_word asked.acknowledged) ≡ asked.acknowledged → mark_of (mark_word asked.downtime) ≡ asked.downtime
    → sort_of (sort_word sort) ≡ sort
    → 1 ≤ page → page < 2 ^ 32
    → (asked_in (raw_pairs (page_query asked refresh sort page)) ≡ asked)
    × (sort_asked (raw_pairs (page_query asked refresh sort page)) ≡ sort)
    × (page_asked (raw_pairs (page_query asked refresh sort page)) ≡ page)
unfolding page_query
query_read asked refresh sort page texts bytes choice acknowledged downtime order least small =
    let query = page_query asked refresh sort page in
    let host = asked.hostname in
    let pairs = text_pairs asked refresh sort page in
    let same : parse query ≡ (codes "hostname", host) ∷ pairs =
    round_trip ((codes "hostname", host) ∷ pairs)
    (All-cons IsBytePair (codes "hostname", host) pairs (hostname_bytes, bytes)
    (All-weaker IsTextPair IsBytePair (λ pair are. (are.0.0, are.1.0)) pairs texts)) in
    let most : max 1 page ≡ page = omega (arith, least) in (
      rw (
        written (codes "state") query host pairs refl same texts,
        written (codes "host") query host pairs refl same texts,
        written (codes "service") query host pairs refl same texts,
        written (codes "output") query host pairs refl same texts,
        value_written (codes "hostname") query ((codes "hostname", host) ∷ pairs) same,
        written (codes "gateway") query host pairs refl same texts,
        written (codes "acknowledged") query host pairs refl same texts,
        written (codes "downtime") query host pairs refl same texts,
        choice,
        acknowledged,
        downtime,
      ) refl,
      rw (written (codes "sort") query host pairs refl same texts, order) refl,
      rw (written (codes "page") query host pairs refl same texts, number_read page least small, most) refl,
    )

-- the query of the link to a host's objects asks for those of this host, and for no other
pub hosts_read : (host : List ℕ) → All IsByte host
    → asked_in (raw_pairs (hosts_query host)) ≡ record (only choice.All) { hostname = host }
hosts_read host bytes =
    let query = hosts_query host in
    let same = hosts_parsed host bytes in
    let none = All-nil IsTextPair in
    rw (
      written (codes "state") query host [] refl same none,
      written (codes "host") query host [] refl same none,
      written (codes "service") query host [] refl same none,
      written (codes "output") query host [] refl same none,
      value_written (codes "hostname") query ((codes "hostname", host) ∷ []) same,
      written (codes "gateway") query host [] refl same none,
      written (codes "acknowledged") query host [] refl same none,
      written (codes "downtime") query host [] refl same none,
    ) refl
