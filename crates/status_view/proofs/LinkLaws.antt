-- The queries of links are read as the names that they were written of.
use Rattle.std.proofs.Common.{◌≡◌, ℕ, suc, length, List, [], ◌∷◌, ◌++◌, None, unwrap_or, refl, ap, sym, ◌∙◌, append_assoc, arith, map, inl, inr, filter, All, codes}
use Rattle.std.specs.List.{last_or}
use Rattle.std.specs.Str.{bytes_eq}
use Rattle.std.proofs.lemmas.Bool.{cases_Bool, cond-true, lt-ltb}
use Rattle.std.proofs.lemmas.List.Elements.{All-nil, All-cons, All-from_recursion}
use Rattle.percent_encoding.proofs.PercentLemmas.{IsByte}
use Rattle.form_urlencoded.specs.Form.{decode, parse, raw_pairs, append_pair, extend_pairs, separator, serialize_pair, byte_serialize}
use Rattle.form_urlencoded.proofs.FormLemmas.{IsBytePair, round_trip}
use Rattle.status_merge.specs.Values.{value_in}
use Rattle.status_merge.proofs.ValueLaws.{values}
use Rattle.status_view.specs.Links.{object_query, object_query_at, hosts_query}

-- ---- what a link names

-- the values of a name among decoded pairs
abbrev pub named : List ℕ → List (List ℕ × List ℕ) → List (List ℕ)
named name pairs = map (λ (pair : List ℕ × List ℕ). pair.1) (filter (λ pair. bytes_eq pair.0 name) pairs)

decoded_first : (name : List ℕ) (pairs : List (List ℕ × List ℕ))
    → values name pairs ≡ named name (map (λ (pair : List ℕ × List ℕ). (decode pair.0, decode pair.1)) pairs)
decoded_first name [] = refl
decoded_first name (pair ∷ pairs) = elim (cases_Bool (bytes_eq (decode pair.0) name)) [
  | inl hit ↦ rw hit (ap (λ rest. decode pair.1 ∷ rest) (decoded_first name pairs))
  | inr miss ↦ rw miss (decoded_first name pairs)
]

-- what a query names that was written of these pairs
pub value_written : (name query : List ℕ) (pairs : List (List ℕ × List ℕ)) → parse query ≡ pairs
    → value_in name (raw_pairs query) ≡ unwrap_or (last_or None (named name pairs)) []
value_written name query pairs same =
    ap (λ (values : List (List ℕ)). unwrap_or (last_or None values) [])
    (decoded_first name (raw_pairs query) ∙ ap (named name) same)

abbrev both : List ℕ → List ℕ → List (List ℕ × List ℕ)
both host service = (codes "host", host) ∷ (codes "service", service) ∷ []

joined : (b : ℕ) (rest : List ℕ) → separator (b ∷ rest) ≡ 38 ∷ []
joined b rest = cond-true _ _ _ (lt-ltb 0 (suc (length rest)) (omega arith))

written : (host service : List ℕ) → extend_pairs [] (both host service) ≡ object_query host service
unfolding object_query byte_serialize
written host service =
    let first = append_pair [] (codes "host") host in
    let second = serialize_pair (codes "service", service) in
    ap (λ (middle : List ℕ). (first ++ middle) ++ second) (joined 104 (111 ∷ 115 ∷ 116 ∷ 61 ∷ byte_serialize host))
    ∙ append_assoc first (38 ∷ []) second
    ∙ sym (append_assoc first (codes "&service=") (byte_serialize service))

host_bytes : All IsByte (codes "host")
host_bytes =
    All-from_recursion IsByte (codes "host") (omega arith, (omega arith, (omega arith, (omega arith, tt))))

service_bytes : All IsByte (codes "service")
service_bytes =
    All-from_recursion IsByte (codes "service") (
      omega arith,
      (omega arith, (omega arith, (omega arith, (omega arith, (omega arith, (omega arith, tt)))))),
    )

read : (host service : List ℕ) → All IsByte host → All IsByte service
    → parse (object_query host service) ≡ both host service
read host service first second =
    ap parse (sym (written host service))
    ∙ round_trip (both host service)
    (All-cons IsBytePair (codes "host", host) ((codes "service", service) ∷ []) (host_bytes, first)
    (All-cons IsBytePair (codes "service", service) [] (service_bytes, second) (All-nil IsBytePair)))

-- the query of a link names its object
pub link_read : (host service : List ℕ) → All IsByte host → All IsByte service
    → (value_in (codes "host") (raw_pairs (object_query host service)) ≡ host)
    × (value_in (codes "service") (raw_pairs (object_query host service)) ≡ service)
link_read host service first second =
    let query = object_query host service in
    let pairs = read host service first second in
    (value_written (codes "host") query (both host service) pairs, value_written (codes "service") query (both host service) pairs)

-- ---- with a gateway

abbrev three : List ℕ → List ℕ → List ℕ → List (List ℕ × List ℕ)
three host service gateway =
    (codes "host", host) ∷ (codes "service", service) ∷ (codes "gateway", gateway) ∷ []

written_at : (host service gateway : List ℕ)
    → extend_pairs [] (three host service gateway) ≡ object_query_at host service gateway
unfolding object_query object_query_at byte_serialize
written_at host service gateway =
    let last = serialize_pair (codes "gateway", gateway) in
    ap (λ (form : List ℕ). form ++ separator form ++ last) (written host service)
    ∙ ap (λ (middle : List ℕ). (object_query host service ++ middle) ++ last)
    (joined 104 (111 ∷ 115 ∷ 116 ∷ 61 ∷ (byte_serialize host ++ codes "&service=" ++ byte_serialize service)))
    ∙ append_assoc (object_query host service) (38 ∷ []) last
    ∙ sym (append_assoc (object_query host service) (codes "&gateway=") (byte_serialize gateway))

gateway_bytes : All IsByte (codes "gateway")
gateway_bytes =
    All-from_recursion IsByte (codes "gateway") (
      omega arith,
      (omega arith, (omega arith, (omega arith, (omega arith, (omega arith, (omega arith, tt)))))),
    )

-- the query of a link names its object and its gateway
pub link_read_at : (host service gateway : List ℕ) → All IsByte host → All IsByte service → All IsByte gateway
    → (value_in (codes "host") (raw_pairs (object_query_at host service gateway)) ≡ host)
    × (value_in (codes "service") (raw_pairs (object_query_at host service gateway)) ≡ service)
    × (value_in (codes "gateway") (raw_pairs (object_query_at host service gateway)) ≡ gateway)
link_read_at host service gateway first second third =
    let query = object_query_at host service gateway in
    let pairs = three host service gateway in
    let same : parse query ≡ pairs =
    ap parse (sym (written_at host service gateway))
    ∙ round_trip pairs
    (All-cons IsBytePair (codes "host", host) ((codes "service", service) ∷ (codes "gateway", gateway) ∷ []) (host_bytes, first)
    (All-cons IsBytePair (codes "service", service) ((codes "gateway", gateway) ∷ []) (service_bytes, second)
    (All-cons IsBytePair (codes "gateway", gateway) [] (gateway_bytes, third) (All-nil IsBytePair)))) in (
      value_written (codes "host") query pairs same,
      value_written (codes "service") query pairs same,
      value_written (codes "gateway") query pairs same,
    )

-- ---- the exact name of a host

pub hostname_bytes : All IsByte (codes "hostname")
hostname_bytes =
    All-from_recursion IsByte (codes "hostname") (
      omega arith,
      (omega arith, (omega arith, (omega arith, (omega arith, (omega arith, (omega arith, (omega arith, tt))))))),
    )

hosts_written : (host : List ℕ) → extend_pairs [] ((codes "hostname", host) ∷ []) ≡ hosts_query host
unfolding hosts_query byte_serialize
hosts_written host = refl

pub hosts_parsed : (host : List ℕ) → All IsByte host → parse (hosts_query host) ≡ (codes "hostname", host) ∷ []
hosts_parsed host bytes =
    ap parse (sym (hosts_written host))
    ∙ round_trip ((codes "hostname", host) ∷ [])
    (All-cons IsBytePair (codes "hostname", host) [] (hostname_bytes, bytes) (All-nil IsBytePair))
