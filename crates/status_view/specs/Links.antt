-- The links to the page of one object (`object_link`), also for one gateway (`object_link_at`), and to the list of the
-- objects of one host (`hosts_link`). The query that asks for a page of the list in an order: `page_query`. Own rules, but
-- for the form of the queries (URL Standard, section 5).
use Rattle.std.specs.Prelude.{ℕ, List, [], ◌∷◌, ◌++◌, codes}
use Rattle.std.specs.Fmt.{decimal}
use Rattle.form_urlencoded.specs.Form.{byte_serialize, extend_pairs}
use Rattle.status_merge.specs.declared.query.Sort.{Sort}
use Rattle.status_merge.specs.Asking.{Asked, choice_word, mark_word, sort_word}

-- the query: the names of a host and of a service, which a host has empty
unfoldable pub object_query : List ℕ → List ℕ → List ℕ
object_query host service =
    codes "host=" ++ byte_serialize host ++ codes "&service=" ++ byte_serialize service

-- the path and the query
unfoldable pub object_link : List ℕ → List ℕ → List ℕ
object_link host service = codes "/object?" ++ object_query host service

-- the query for the gateway of a name alone
unfoldable pub object_query_at : List ℕ → List ℕ → List ℕ → List ℕ
object_query_at host service gateway =
    object_query host service ++ codes "&gateway=" ++ byte_serialize gateway

unfoldable pub object_link_at : List ℕ → List ℕ → List ℕ → List ℕ
object_link_at host service gateway = codes "/object?" ++ object_query_at host service gateway

-- the query for the objects of the host of an exact name
unfoldable pub hosts_query : List ℕ → List ℕ
hosts_query host = codes "hostname=" ++ byte_serialize host

unfoldable pub hosts_link : List ℕ → List ℕ
hosts_link host = codes "/?" ++ hosts_query host

-- what the query that asks for a page of these objects in this order, and again after these seconds, names and values
-- beside the exact name of the host
abbrev pub text_pairs : Asked → ℕ → Sort → ℕ → List (List ℕ × List ℕ)
text_pairs asked refresh sort page =
    (codes "state", choice_word asked.choice)
    ∷ (codes "host", asked.host)
    ∷ (codes "service", asked.service)
    ∷ (codes "output", asked.output)
    ∷ (codes "gateway", asked.gateway)
    ∷ (codes "acknowledged", mark_word asked.acknowledged)
    ∷ (codes "downtime", mark_word asked.downtime)
    ∷ (codes "sort", sort_word sort)
    ∷ (codes "refresh", decimal refresh)
    ∷ (codes "page", decimal page)
    ∷ []

-- with that
abbrev pub page_pairs : Asked → ℕ → Sort → ℕ → List (List ℕ × List ℕ)
page_pairs asked refresh sort page = (codes "hostname", asked.hostname) ∷ text_pairs asked refresh sort page

unfoldable pub page_query : Asked → ℕ → Sort → ℕ → List ℕ
page_query asked refresh sort page = extend_pairs [] (page_pairs asked refresh sort page)
