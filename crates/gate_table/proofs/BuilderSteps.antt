-- What a builder keeps of the lines before a line decides that line's fault, and it keeps the same with that line added.
use Rattle.std.proofs.Common.{◌≡◌, ℕ, ◌+◌, ◌<◌, ◌≤◌, Bool, true, false, cond, not, ◌&&◌, List, [], ◌∷◌, ◌++◌, length, take, map, get_or, set, Option, Some, None, is_some, is_none, refl, sym, ap, subst, ◌∙◌, inl, inr, arith, zero-add, add-zero, add-one, if◌then◌else◌}
use Rattle.std.specs.Prelude.{IfSome, slice_get, count_by, nat_le, nat_lt, ◌==◌}
use Rattle.std.specs.List.{position_from, list_all, list_any}
use Rattle.std.specs.Str.{bytes_eq}
use Rattle.std.specs.Cmp.Lexicographic.{bytes_decides}
use Rattle.std.proofs.lemmas.Bool.{and_parts, and_from, and_right, cases_Bool, cond-true, cond-false, true≢false, le-ltb, lt-ltb}
use Rattle.std.proofs.lemmas.List.{map-append, length-append, length-map, length-take, get_or_append_left, append-nil}
use Rattle.std.proofs.Common.{get_or-set_same, get_or-set_other}
use Rattle.std.proofs.Math.ListN.{length-set}
use Rattle.std.proofs.lemmas.Option.{slice_get-get_or}
use Rattle.std.proofs.lemmas.List.Sums.{sum_by-append}
use Rattle.std.proofs.Math.Seq.{get_or-append_seam, take-suc}
use Rattle.gate_model.specs.declared.object.ObjectLine.{ObjectLine}
use Rattle.gate_table.specs.declared.table.TableFault.TheVariants.{BadName, NoSuchHost, DuplicateHost, DuplicateService, TooMany}
use Rattle.gate_table.specs.Names.{is_name, is_padded, is_barred}
use Rattle.gate_table.specs.inner.Keys.{key_of, line_key, is_short, is_short_service, is_short_line}
use Rattle.gate_model.specs.Table.{is_same_service, is_line_of, place_of, has_object, is_host_line, is_service_line_of}
use Rattle.gate_table.specs.Faults.{is_service_name, is_named, host_fault, service_fault, line_fault, line_fault_at, fault_at}
use Rattle.std.specs.Map.{keys_of, values_of}
use Rattle.gate_table.specs.declared.table_builder.TableBuilder.{TableBuilder}
use Rattle.gate_table.specs.inner.NamedObjects.{AreKeysAndServices, service_places, row_at, row_of}
use Rattle.gate_table.specs.inner.TableBuilder.{TracksLines}
use Rattle.gate_model.proofs.Lists.{position_from-within, position_from-found, position_from-more, position_from-push, none, some_is}
use Rattle.gate_table.proofs.KeySteps.{place_of-key, line_decides}
use Rattle.gate_table.proofs.ServicePlaces.{places-push, services-counted}

-- ---- names

name_short : (most : ℕ) (name : List ℕ) → is_name most name ≡ true → nat_le (length name) most ≡ true
name_short most name e =
    let front = and_parts (not (length name == 0) && nat_le (length name) most && not (is_padded name)) (not (list_any is_barred name)) e in
    let middle = and_parts (not (length name == 0) && nat_le (length name) most) (not (is_padded name)) front.0 in
    (and_parts (not (length name == 0)) (nat_le (length name) most) middle.0).1

service_short : (service : Option (List ℕ)) → is_service_name service ≡ true → is_short_service service ≡ true
service_short None e = refl
service_short (Some name) e = name_short 127 name e

-- what may be a name is short
pub named_short : (line : ObjectLine) → is_named line ≡ true → is_short_line line ≡ true
named_short line e =
    let parts = and_parts (is_name 63 line.host) (is_service_name line.service) e in
    and_from (nat_le (length line.host) 63) (is_short_service line.service) (name_short 63 line.host parts.0) (service_short line.service parts.1)

-- ---- one line more

count_by-push : (test : ObjectLine → Bool) (before : List ObjectLine) (line : ObjectLine) → count_by test (before ++ line ∷ []) ≡ count_by test before + cond (test line) 1 0
count_by-push test before line = sum_by-append (λ (x : ObjectLine). cond (test x) 1 0) before (line ∷ []) ∙ ap (λ (n : ℕ). count_by test before + n) (zero-add (cond (test line) 1 0))

list_all-push : (test : ObjectLine → Bool) (before : List ObjectLine) (line : ObjectLine) → list_all test before ≡ true → test line ≡ true → list_all test (before ++ line ∷ []) ≡ true
list_all-push test [] line all here = and_from (test line) true here refl
list_all-push test (x ∷ before) line all here =
    let parts = and_parts (test x) (list_all test before) all in
    and_from (test x) (list_all test (before ++ line ∷ [])) parts.0 (list_all-push test before line parts.1 here)

-- the lines up to one, and that one
pub take-line : (lines : List ObjectLine) (i : ℕ) (line : ObjectLine) → i < length lines → line ≡ get_or lines i line → take (i + 1) lines ≡ take i lines ++ line ∷ []
take-line lines i line lt there = rw (add-one, take-suc lines i line lt) (ap (λ (x : ObjectLine). take i lines ++ x ∷ []) (sym there))

-- the line at an index
pub line_there : (lines : List ObjectLine) (i : ℕ) (line : ObjectLine) → i < length lines → line ≡ get_or lines i line → slice_get lines i ≡ Some line
line_there lines i line lt there = slice_get-get_or lines i line lt ∙ ap (λ (l : ObjectLine). Some l) (sym there)

fault_at-there : (lines : List ObjectLine) (i : ℕ) (line : ObjectLine) → i < length lines → line ≡ get_or lines i line → fault_at lines i ≡ line_fault (take i lines) (i + 1) line
fault_at-there lines i line lt there = ap (line_fault_at lines i) (line_there lines i line lt there)

-- a line whose names can be none is faulty
pub bad_name : (lines : List ObjectLine) (i : ℕ) (line : ObjectLine) → i < length lines → line ≡ get_or lines i line → is_named line ≡ false → fault_at lines i ≡ Some (BadName (i + 1))
bad_name lines i line lt there bad = fault_at-there lines i line lt there ∙ rw bad refl

pub length-before : (lines : List ObjectLine) (i : ℕ) → i < length lines → length (take i lines) ≡ i
length-before lines i lt = omega (arith, length-take i lines)

none_is_some : (p : ℕ) → none {A = ℕ} ≡ Some p → ⊥
none_is_some p e = cc

and_yes : (b : Bool) → (b && true) ≡ b
and_yes true = refl
and_yes false = refl

-- ---- which fault

-- the names may be names, and the line is a host's
pub record IsHostLine (lines : List ObjectLine) (i : ℕ) (line : ObjectLine) : Type 0 where
  pub within : i < length lines
  pub there : line ≡ get_or lines i line
  pub named : is_named line ≡ true
  pub service_is : line.service ≡ None

-- the names may be names, and the line is that of a service
pub record IsServiceLine (lines : List ObjectLine) (i : ℕ) (line : ObjectLine) (service : List ℕ) : Type 0 where
  pub within : i < length lines
  pub there : line ≡ get_or lines i line
  pub named : is_named line ≡ true
  pub service_is : line.service ≡ Some service

-- a host's line, from what `add_host` requires
pub host_line : (lines : List ObjectLine) (i : ℕ) (line : ObjectLine) → i < length lines → line ≡ get_or lines i line → IfSome (slice_get lines i) (λ l. (is_named l ≡ true) × (l.service ≡ None)) → IsHostLine lines i line
host_line lines i line lt there h =
    let f = subst (λ (o : Option ObjectLine). IfSome o (λ l. (is_named l ≡ true) × (l.service ≡ None))) (line_there lines i line lt there) h in
    record { within = lt; there = there; named = f.0; service_is = f.1 }

-- a service's line, from what `add_service` requires
pub service_line : (lines : List ObjectLine) (i : ℕ) (line : ObjectLine) (service : List ℕ) → i < length lines → line ≡ get_or lines i line → IfSome (slice_get lines i) (λ l. (is_named l ≡ true) × (l.service ≡ Some service)) → IsServiceLine lines i line service
service_line lines i line service lt there h =
    let f = subst (λ (o : Option ObjectLine). IfSome o (λ l. (is_named l ≡ true) × (l.service ≡ Some service))) (line_there lines i line lt there) h in
    record { within = lt; there = there; named = f.0; service_is = f.1 }

host_fault-there : (lines : List ObjectLine) (i : ℕ) (line : ObjectLine) → IsHostLine lines i line → fault_at lines i ≡ host_fault (take i lines) (i + 1) line
host_fault-there lines i line is =
    fault_at-there lines i line is.within is.there
    ∙ cond-false (not (is_named line)) (Some (BadName (i + 1))) (if is_host_line line then host_fault (take i lines) (i + 1) line else service_fault (take i lines) (i + 1) line) (ap not is.named)
    ∙ cond-true (is_host_line line) (host_fault (take i lines) (i + 1) line) (service_fault (take i lines) (i + 1) line) (ap is_none is.service_is)

service_fault-there : (lines : List ObjectLine) (i : ℕ) (line : ObjectLine) (service : List ℕ) → IsServiceLine lines i line service → fault_at lines i ≡ service_fault (take i lines) (i + 1) line
service_fault-there lines i line service is =
    fault_at-there lines i line is.within is.there
    ∙ cond-false (not (is_named line)) (Some (BadName (i + 1))) (if is_host_line line then host_fault (take i lines) (i + 1) line else service_fault (take i lines) (i + 1) line) (ap not is.named)
    ∙ cond-false (is_host_line line) (host_fault (take i lines) (i + 1) line) (service_fault (take i lines) (i + 1) line) (ap is_none is.service_is)

-- the builder of the lines before this one
module _ (lines : List ObjectLine) (i : ℕ) (line : ObjectLine) (builder : TableBuilder) (tracks : TracksLines (take i lines) builder) where
  abbrev keys : List (List ℕ)
  keys = keys_of builder.objects

  abbrev rows : List (List ℕ)
  rows = values_of builder.objects

  -- a key has the place of its names
  pub place-key : (service : Option (List ℕ)) (key : List ℕ) → is_short line.host service ≡ true → key ≡ key_of line.host service → position_from (bytes_eq key) 0 keys ≡ place_of (take i lines) line.host service
  place-key service key short e = ap (λ (k : List ℕ). position_from (bytes_eq k) 0 keys) e ∙ place_of-key line.host service (take i lines) keys tracks.are_objects.keys_are short tracks.are_objects.short

  pub duplicate_host : IsHostLine lines i line → is_some (place_of (take i lines) line.host None) ≡ true → fault_at lines i ≡ Some (DuplicateHost (i + 1))
  duplicate_host is taken =
      host_fault-there lines i line is
      ∙ cond-true (has_object (take i lines) line.host None) (Some (DuplicateHost (i + 1))) (if nat_lt (count_by is_host_line (take i lines)) 1024 then None else Some (TooMany (i + 1))) taken

  host_fault-new : IsHostLine lines i line → place_of (take i lines) line.host None ≡ None → fault_at lines i ≡ (if nat_lt builder.hosts 1024 then None else Some (TooMany (i + 1)))
  host_fault-new is free =
      host_fault-there lines i line is
      ∙ cond-false (has_object (take i lines) line.host None) (Some (DuplicateHost (i + 1))) (if nat_lt (count_by is_host_line (take i lines)) 1024 then None else Some (TooMany (i + 1))) (ap is_some free)
      ∙ ap (λ (n : ℕ). if nat_lt n 1024 then None else Some (TooMany (i + 1))) (sym tracks.hosts_are)

  pub too_many_hosts : IsHostLine lines i line → place_of (take i lines) line.host None ≡ None → 1024 ≤ builder.hosts → fault_at lines i ≡ Some (TooMany (i + 1))
  too_many_hosts is free many = host_fault-new is free ∙ cond-false (nat_lt builder.hosts 1024) None (Some (TooMany (i + 1))) (le-ltb builder.hosts 1024 many)

  pub faultless_host : IsHostLine lines i line → place_of (take i lines) line.host None ≡ None → builder.hosts < 1024 → fault_at lines i ≡ None
  faultless_host is free few = host_fault-new is free ∙ cond-true (nat_lt builder.hosts 1024) None (Some (TooMany (i + 1))) (lt-ltb builder.hosts 1024 few)

  -- a line's place is the number of lines before it
  pushed : (host : List ℕ) → i < length lines → service_places host 0 (take i lines ++ line ∷ []) ≡ service_places host 0 (take i lines) ++ cond (is_service_line_of host line) (i ∷ []) []
  pushed host within =
      places-push host 0 (take i lines) line
      ∙ ap (λ n. service_places host 0 (take i lines) ++ cond (is_service_line_of host line) (n ∷ []) []) (let here : 0 + length (take i lines) ≡ i = omega (arith, length-before lines i within) in here)

  new_host-places : (host : List ℕ) → i < length lines → line.service ≡ None → service_places host 0 (take i lines ++ line ∷ []) ≡ service_places host 0 (take i lines)
  new_host-places host within e =
      pushed host within
      ∙ ap (λ (b : Bool). service_places host 0 (take i lines) ++ cond b (i ∷ []) []) (and_right (bytes_eq line.host host) (is_some line.service) (ap is_some e))
      ∙ append-nil (service_places host 0 (take i lines))

  new_host-row : (host : List ℕ) (found : Option ℕ) → place_of (take i lines) host None ≡ found → row_of (rows ++ [] ∷ []) (place_of (take i lines ++ line ∷ []) host None) ≡ row_of rows found
  new_host-row host (Some p) e =
      let within = position_from-within (is_line_of host None) 0 (take i lines) p e in
      ap (row_of (rows ++ [] ∷ [])) (position_from-more (is_line_of host None) 0 (take i lines) (line ∷ []) p e)
      ∙ get_or_append_left rows ([] ∷ []) [] p (omega (arith, tracks.are_objects.one_each))
  new_host-row host None e = elim (cases_Bool (is_line_of host None line)) [
    | inl passes ↦
        ap (row_of (rows ++ [] ∷ [])) (position_from-push (is_line_of host None) 0 (take i lines) line e ∙ cond-true (is_line_of host None line) (Some (0 + length (take i lines))) None passes ∙ ap (λ (n : ℕ). Some n) (zero-add (length (take i lines)) ∙ sym tracks.are_objects.one_each))
        ∙ get_or-append_seam rows [] [] []
    | inr fails ↦
        ap (row_of (rows ++ [] ∷ [])) (position_from-push (is_line_of host None) 0 (take i lines) line e ∙ cond-false (is_line_of host None line) (Some (0 + length (take i lines))) None fails)
  ]

  length-more : length (rows ++ [] ∷ []) ≡ length (take i lines ++ line ∷ [])
  length-more = simp length-append (omega (arith, tracks.are_objects.one_each))

  keys-more : (service : Option (List ℕ)) (key : List ℕ) → key ≡ key_of line.host service → line.service ≡ service → keys ++ key ∷ [] ≡ map line_key (take i lines ++ line ∷ [])
  keys-more service key k e =
      ap (λ (ks : List (List ℕ)). ks ++ key ∷ []) tracks.are_objects.keys_are
      ∙ ap (λ (x : List ℕ). map line_key (take i lines) ++ x ∷ []) (k ∙ ap (key_of line.host) (sym e))
      ∙ sym (map-append line_key (take i lines) (line ∷ []))

  -- a new host is kept beside the lines before it
  pub tracks_host : (key : List ℕ) (new : TableBuilder) → IsHostLine lines i line → key ≡ key_of line.host None → new.objects ≡ builder.objects ++ (key, []) ∷ [] → new.hosts ≡ builder.hosts + 1 → TracksLines (take (i + 1) lines) new
  tracks_host key new is k objects hosts =
      rw (take-line lines i line is.within is.there)
      (record {
        are_objects = subst (λ all. AreKeysAndServices (take i lines ++ line ∷ []) (keys_of all) (values_of all)) (sym objects)
            (rw (map-append (λ (one : List ℕ × List ℕ). one.0) builder.objects ((key, []) ∷ []), map-append (λ (one : List ℕ × List ℕ). one.1) builder.objects ((key, []) ∷ []))
            (record {
              keys_are = keys-more None key k is.service_is;
              short = list_all-push is_short_line (take i lines) line tracks.are_objects.short (named_short line is.named);
              one_each = length-more;
              services_are = λ host. new_host-row host (place_of (take i lines) host None) refl ∙ tracks.are_objects.services_are host ∙ sym (new_host-places host is.within is.service_is);
            }));
        hosts_are = hosts ∙ ap (λ (n : ℕ). n + 1) tracks.hosts_are ∙ sym (count_by-push is_host_line (take i lines) line ∙ ap (λ (b : Bool). count_by is_host_line (take i lines) + cond b 1 0) (ap is_none is.service_is));
      })

  -- ---- a service

  pub no_such_host : (service : List ℕ) → IsServiceLine lines i line service → place_of (take i lines) line.host None ≡ None → fault_at lines i ≡ Some (NoSuchHost (i + 1))
  no_such_host service is none =
      service_fault-there lines i line service is
      ∙ cond-true (not (has_object (take i lines) line.host None)) (Some (NoSuchHost (i + 1)))
      (if has_object (take i lines) line.host line.service then Some (DuplicateService (i + 1)) else (if nat_lt (count_by (is_service_line_of line.host) (take i lines)) 1024 then None else Some (TooMany (i + 1))))
      (ap (λ (o : Option ℕ). not (is_some o)) none)

  service_fault-known : (service : List ℕ) (p : ℕ) → IsServiceLine lines i line service → place_of (take i lines) line.host None ≡ Some p
      → fault_at lines i ≡ (if is_some (place_of (take i lines) line.host (Some service)) then Some (DuplicateService (i + 1)) else (if nat_lt (length (row_at rows p)) 1024 then None else Some (TooMany (i + 1))))
  service_fault-known service p is known =
      service_fault-there lines i line service is
      ∙ cond-false (not (has_object (take i lines) line.host None)) (Some (NoSuchHost (i + 1)))
      (if has_object (take i lines) line.host line.service then Some (DuplicateService (i + 1)) else (if nat_lt (count_by (is_service_line_of line.host) (take i lines)) 1024 then None else Some (TooMany (i + 1))))
      (ap (λ (o : Option ℕ). not (is_some o)) known)
      ∙ ap (λ (s : Option (List ℕ)). if has_object (take i lines) line.host s then Some (DuplicateService (i + 1)) else (if nat_lt (count_by (is_service_line_of line.host) (take i lines)) 1024 then None else Some (TooMany (i + 1)))) is.service_is
      ∙ ap (λ (n : ℕ). if has_object (take i lines) line.host (Some service) then Some (DuplicateService (i + 1)) else (if nat_lt n 1024 then None else Some (TooMany (i + 1)))) (sym (services-counted (take i lines) builder.objects tracks.are_objects line.host (Some p) known))

  pub duplicate_service : (service : List ℕ) (p : ℕ) → IsServiceLine lines i line service → place_of (take i lines) line.host None ≡ Some p → is_some (place_of (take i lines) line.host (Some service)) ≡ true → fault_at lines i ≡ Some (DuplicateService (i + 1))
  duplicate_service service p is known taken =
      service_fault-known service p is known
      ∙ cond-true (is_some (place_of (take i lines) line.host (Some service))) (Some (DuplicateService (i + 1))) (if nat_lt (length (row_at rows p)) 1024 then None else Some (TooMany (i + 1))) taken

  pub too_many_services : (service : List ℕ) (p : ℕ) → IsServiceLine lines i line service → place_of (take i lines) line.host None ≡ Some p → place_of (take i lines) line.host (Some service) ≡ None → 1024 ≤ length (row_at rows p) → fault_at lines i ≡ Some (TooMany (i + 1))
  too_many_services service p is known free many =
      service_fault-known service p is known
      ∙ cond-false (is_some (place_of (take i lines) line.host (Some service))) (Some (DuplicateService (i + 1))) (if nat_lt (length (row_at rows p)) 1024 then None else Some (TooMany (i + 1))) (ap is_some free)
      ∙ cond-false (nat_lt (length (row_at rows p)) 1024) None (Some (TooMany (i + 1))) (le-ltb (length (row_at rows p)) 1024 many)

  pub faultless_service : (service : List ℕ) (p : ℕ) → IsServiceLine lines i line service → place_of (take i lines) line.host None ≡ Some p → place_of (take i lines) line.host (Some service) ≡ None → length (row_at rows p) < 1024 → fault_at lines i ≡ None
  faultless_service service p is known free few =
      service_fault-known service p is known
      ∙ cond-false (is_some (place_of (take i lines) line.host (Some service))) (Some (DuplicateService (i + 1))) (if nat_lt (length (row_at rows p)) 1024 then None else Some (TooMany (i + 1))) (ap is_some free)
      ∙ cond-true (nat_lt (length (row_at rows p)) 1024) None (Some (TooMany (i + 1))) (lt-ltb (length (row_at rows p)) 1024 few)

  -- the place of a host that is known lies among the objects
  pub place-within : (host : List ℕ) (p : ℕ) → place_of (take i lines) host None ≡ Some p → p < length rows
  place-within host p e = let within = position_from-within (is_line_of host None) 0 (take i lines) p e in omega (arith, tracks.are_objects.one_each)

  service_place : (service host : List ℕ) (found : Option ℕ) → line.service ≡ Some service → place_of (take i lines) host None ≡ found → place_of (take i lines ++ line ∷ []) host None ≡ found
  service_place service host (Some q) is e = position_from-more (is_line_of host None) 0 (take i lines) (line ∷ []) q e
  service_place service host None is e =
      position_from-push (is_line_of host None) 0 (take i lines) line e
      ∙ cond-false (is_line_of host None line) (Some (0 + length (take i lines))) None (and_right (bytes_eq line.host host) (is_same_service line.service None) (ap (λ (s : Option (List ℕ)). is_same_service s None) is))

  new_service-places : (service host : List ℕ) → i < length lines → line.service ≡ Some service → service_places host 0 (take i lines ++ line ∷ []) ≡ service_places host 0 (take i lines) ++ cond (bytes_eq line.host host) (i ∷ []) []
  new_service-places service host within is =
      pushed host within
      ∙ ap (λ (b : Bool). service_places host 0 (take i lines) ++ cond b (i ∷ []) []) (ap (λ (s : Option (List ℕ)). bytes_eq line.host host && is_some s) is ∙ and_yes (bytes_eq line.host host))

  -- hosts of one place have one name
  one_name : (host : List ℕ) (p : ℕ) → place_of (take i lines) line.host None ≡ Some p → place_of (take i lines) host None ≡ Some p → line.host ≡ host
  one_name host p known e =
      let x = position_from-found (is_line_of line.host None) (take i lines) p known in
      let y = position_from-found (is_line_of host None) (take i lines) p e in
      let same : x.0 ≡ y.0 = some_is x.0 y.0 (sym x.1 ∙ y.1) in
      sym ((line_decides line.host None x.0).0 x.2).0 ∙ ap (λ (l : ObjectLine). l.host) same ∙ ((line_decides host None y.0).0 y.2).0

  new_service-row : (host : List ℕ) (p n : ℕ) (found : Option ℕ) → place_of (take i lines) line.host None ≡ Some p → place_of (take i lines) host None ≡ found
      → row_of (set (rows ++ [] ∷ []) p (row_at rows p ++ n ∷ [])) found ≡ row_of rows found ++ cond (bytes_eq line.host host) (n ∷ []) []
  new_service-row host p n (Some q) known e =
      let lp = place-within line.host p known in
      let lq = place-within host q e in
      let kept = get_or_append_left rows ([] ∷ []) [] in
      let long : p < length (rows ++ [] ∷ []) = omega (arith, length-append rows ([] ∷ [])) in
      elim (cases_Bool (bytes_eq line.host host)) [
        | inl same ↦
            let name : line.host ≡ host = (bytes_decides line.host host).0 same in
            let at_p : p ≡ q = some_is p q (sym known ∙ ap (λ (h : List ℕ). place_of (take i lines) h None) name ∙ e) in
            ap (row_at (set (rows ++ [] ∷ []) p (row_at rows p ++ n ∷ []))) (sym at_p)
            ∙ get_or-set_same (rows ++ [] ∷ []) p (row_at rows p ++ n ∷ []) [] long
            ∙ ap (λ (k : ℕ). row_at rows k ++ n ∷ []) at_p
            ∙ ap (λ (b : Bool). row_at rows q ++ cond b (n ∷ []) []) (sym same)
        | inr differs ↦
            let apart : q ≡ p → ⊥ = λ q_is. true≢false (sym ((bytes_decides line.host host).1 (one_name host p known (e ∙ ap (λ (k : ℕ). Some k) q_is))) ∙ differs) in
            get_or-set_other (rows ++ [] ∷ []) p q (row_at rows p ++ n ∷ []) [] apart
            ∙ kept q lq
            ∙ sym (append-nil (row_at rows q))
            ∙ ap (λ (b : Bool). row_at rows q ++ cond b (n ∷ []) []) (sym differs)
      ]
  new_service-row host p n None known e = elim (cases_Bool (bytes_eq line.host host)) [
    | inl same ↦ absurd (none_is_some p (sym e ∙ ap (λ (h : List ℕ). place_of (take i lines) h None) (sym ((bytes_decides line.host host).0 same)) ∙ known))
    | inr differs ↦ ap (λ (b : Bool). [] ++ cond b (n ∷ []) []) (sym differs)
  ]

  -- the next object's place is that of the line
  next_place : i < length lines → length builder.objects ≡ i
  next_place within = omega (arith, length-map builder.objects (λ (one : List ℕ × List ℕ). one.1), tracks.are_objects.one_each, length-before lines i within)

  -- a new service is kept beside the lines before it, and listed at its host
  pub tracks_service : (service key : List ℕ) (p : ℕ) (new : TableBuilder) → IsServiceLine lines i line service → place_of (take i lines) line.host None ≡ Some p → key ≡ key_of line.host (Some service)
      → keys_of new.objects ≡ keys ++ key ∷ [] → values_of new.objects ≡ set (rows ++ [] ∷ []) p (row_at rows p ++ length builder.objects ∷ []) → new.hosts ≡ builder.hosts → TracksLines (take (i + 1) lines) new
  tracks_service service key p new is known k more_keys more_rows hosts =
      let listed : values_of new.objects ≡ set (rows ++ [] ∷ []) p (row_at rows p ++ i ∷ []) =
      more_rows ∙ ap (λ (n : ℕ). set (rows ++ [] ∷ []) p (row_at rows p ++ n ∷ [])) (next_place is.within) in
      rw (take-line lines i line is.within is.there)
      (record {
        are_objects = rw (more_keys, listed)
            (record {
              keys_are = keys-more (Some service) key k is.service_is;
              short = list_all-push is_short_line (take i lines) line tracks.are_objects.short (named_short line is.named);
              one_each = length-set (rows ++ [] ∷ []) p (row_at rows p ++ i ∷ []) ∙ length-more;
              services_are = λ host.
                  ap (row_of (set (rows ++ [] ∷ []) p (row_at rows p ++ i ∷ []))) (service_place service host (place_of (take i lines) host None) is.service_is refl)
                  ∙ new_service-row host p i (place_of (take i lines) host None) known refl
                  ∙ ap (λ (before : List ℕ). before ++ cond (bytes_eq line.host host) (i ∷ []) []) (tracks.are_objects.services_are host)
                  ∙ sym (new_service-places service host is.within is.service_is);
            });
        hosts_are = hosts ∙ tracks.hosts_are ∙ sym (count_by-push is_host_line (take i lines) line ∙ ap (λ (b : Bool). count_by is_host_line (take i lines) + cond b 1 0) (ap is_none is.service_is) ∙ add-zero (count_by is_host_line (take i lines)));
      })
