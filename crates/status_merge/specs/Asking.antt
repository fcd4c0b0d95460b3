-- What the query of a URL asks for, of its pairs of names and values: which objects (`asked_in`), in which order
-- (`sort_asked`), which page of them (`page_asked`), and when a browser asks again (`refresh_asked`). Own rules.
use Rattle.std.specs.Prelude.{ℕ, ◌^◌, Bool, true, false, ◌==◌, ◌&&◌, nat_lt, min, max, if◌then◌else◌, List, [], length, map, filter, Option, Some, None, unwrap_or, codes, string_bytes}
use Rattle.std.specs.List.{last_or}
use Rattle.std.specs.Option.{option_map_or}
use Rattle.std.specs.Str.{bytes_eq, str_eq_ignore_ascii_case, all_ascii_digits}
use Rattle.std.specs.Str.Lossy.{utf8_lossy}
use Rattle.std.specs.Str.Parse.{digits_value, without_leading_plus}
use Rattle.form_urlencoded.specs.Form.{decode}
use Rattle.gate_model.specs.declared.state.State.{State}
use Rattle.gate_model.specs.declared.state.State.TheVariants.{Pending, Ok, Warning, Critical, Unknown, Up, Down, Unreachable}
use Rattle.status_merge.specs.Values.{value_in}
use Rattle.status_merge.specs.declared.query.Query.{Query}
use Rattle.status_merge.specs.declared.query.Choice.{Choice}
use Rattle.status_merge.specs.declared.query.Choice.TheVariants.{All, Problems, Unhandled, Stale, In}
use Rattle.status_merge.specs.declared.query.Sort.{Sort}
use Rattle.status_merge.specs.declared.query.Sort.TheVariants.{Worst, Host, Since, Last}

-- ---- words

-- the word of a state
abbrev pub state_word : State → List ℕ
state_word Pending = codes "pending"
state_word Ok = codes "ok"
state_word Warning = codes "warning"
state_word Critical = codes "critical"
state_word Unknown = codes "unknown"
state_word Up = codes "up"
state_word Down = codes "down"
state_word Unreachable = codes "unreachable"

-- the word of a choice
abbrev pub choice_word : Choice → List ℕ
choice_word All = codes "all"
choice_word Problems = codes "problems"
choice_word Unhandled = codes "unhandled"
choice_word Stale = codes "stale"
choice_word (In state) = state_word state

-- the state of a word, in any case
abbrev pub state_of : List ℕ → Option State
state_of word =
    if str_eq_ignore_ascii_case word (codes "pending") then Some Pending
    else if str_eq_ignore_ascii_case word (codes "ok") then Some Ok
    else if str_eq_ignore_ascii_case word (codes "warning") then Some Warning
    else if str_eq_ignore_ascii_case word (codes "critical") then Some Critical
    else if str_eq_ignore_ascii_case word (codes "unknown") then Some Unknown
    else if str_eq_ignore_ascii_case word (codes "up") then Some Up
    else if str_eq_ignore_ascii_case word (codes "down") then Some Down
    else if str_eq_ignore_ascii_case word (codes "unreachable") then Some Unreachable
    else None

-- the choice of a word that names no state
abbrev pub choice_without : List ℕ → Choice
choice_without word =
    if str_eq_ignore_ascii_case word (codes "problems") then Problems
    else if str_eq_ignore_ascii_case word (codes "unhandled") then Unhandled
    else if str_eq_ignore_ascii_case word (codes "stale") then Stale
    else All

-- the choice of a word, in any case; another word restricts nothing
abbrev pub choice_of : List ℕ → Choice
choice_of word = elim (state_of word) [ Some state ↦ In state | None ↦ choice_without word ]

-- what a word asks of a mark: `yes` or `no`, in any case; another word restricts nothing
abbrev pub mark_of : List ℕ → Option Bool
mark_of word =
    if str_eq_ignore_ascii_case word (codes "yes") then Some true
    else if str_eq_ignore_ascii_case word (codes "no") then Some false
    else None

-- the word of what is asked of a mark
abbrev pub mark_word : Option Bool → List ℕ
mark_word None = codes "any"
mark_word (Some true) = codes "yes"
mark_word (Some false) = codes "no"

-- the word of an order
abbrev pub sort_word : Sort → List ℕ
sort_word Worst = codes "worst"
sort_word Host = codes "host"
sort_word Since = codes "since"
sort_word Last = codes "last"

-- the order of a word, in any case; another word asks for that by rank
abbrev pub sort_of : List ℕ → Sort
sort_of word =
    if str_eq_ignore_ascii_case word (codes "host") then Host
    else if str_eq_ignore_ascii_case word (codes "since") then Since
    else if str_eq_ignore_ascii_case word (codes "last") then Last
    else Worst

-- ---- numbers

-- whether these are digits that write a number of 32 bits
abbrev pub are_digits : List ℕ → Bool
are_digits digits = nat_lt 0 (length digits) && (all_ascii_digits digits && nat_lt (digits_value 10 digits) (2 ^ 32))

-- the number of 32 bits that a text writes, which may begin with a plus
abbrev pub number_of : List ℕ → Option ℕ
number_of text =
    if are_digits (without_leading_plus text) then Some (digits_value 10 (without_leading_plus text)) else None

-- 0, or 2 to 3600
abbrev pub in_range : ℕ → ℕ
in_range seconds = if seconds == 0 then 0 else max 2 (min seconds 3600)

-- the seconds of a text; one that writes no number is the default
abbrev pub refresh_of : ℕ → List ℕ → ℕ
refresh_of default text = option_map_or in_range (number_of text) default

-- the number of a page, from 1; a text that writes no number is the first page
abbrev pub page_of : List ℕ → ℕ
page_of text = option_map_or (max 1) (number_of text) 1

-- ---- a query

-- the text of an encoded name or value; what is no UTF-8 is U+FFFD
abbrev pub text_of : List ℕ → List ℕ
text_of bytes = utf8_lossy (decode bytes)

-- the value of the last of these encoded pairs that has this name
abbrev pub value_of : List ℕ → List (List ℕ × List ℕ) → Option (List ℕ)
value_of name pairs =
    last_or None
    (map (λ (pair : List ℕ × List ℕ). text_of pair.1) (filter (λ pair. bytes_eq (text_of pair.0) name) pairs))

-- the text of this name; empty where it is missing
abbrev pub text_asked : List ℕ → List (List ℕ × List ℕ) → List ℕ
text_asked name pairs = unwrap_or (value_of name pairs) []

-- which objects are asked for: by their state; by texts that the names of the host and of the service, and the output,
-- contain; by the exact names of the host, with any bytes, and of the gateway; and by their marks
pub record Asked : Type 0 where
  pub choice : Choice
  pub host : List ℕ
  pub service : List ℕ
  pub output : List ℕ
  pub hostname : List ℕ
  pub gateway : List ℕ
  pub acknowledged : Option Bool
  pub downtime : Option Bool

-- those that a query asks for
abbrev pub asked_in : List (List ℕ × List ℕ) → Asked
asked_in pairs = record {
  choice = option_map_or choice_of (value_of (codes "state") pairs) All;
  host = text_asked (codes "host") pairs;
  service = text_asked (codes "service") pairs;
  output = text_asked (codes "output") pairs;
  hostname = value_in (codes "hostname") pairs;
  gateway = text_asked (codes "gateway") pairs;
  acknowledged = option_map_or mark_of (value_of (codes "acknowledged") pairs) None;
  downtime = option_map_or mark_of (value_of (codes "downtime") pairs) None;
}

-- the order, the number of the page, and the seconds, each with its default
abbrev pub sort_asked : List (List ℕ × List ℕ) → Sort
sort_asked pairs = option_map_or sort_of (value_of (codes "sort") pairs) Worst

abbrev pub page_asked : List (List ℕ × List ℕ) → ℕ
page_asked pairs = option_map_or page_of (value_of (codes "page") pairs) 1

abbrev pub refresh_asked : ℕ → List (List ℕ × List ℕ) → ℕ
refresh_asked default pairs = option_map_or (refresh_of default) (value_of (codes "refresh") pairs) default

-- whether the word asks for the form
abbrev pub is_open : List ℕ → Bool
is_open word = str_eq_ignore_ascii_case word (codes "open")

-- whether the page is to have the form
abbrev pub form_asked : List (List ℕ × List ℕ) → Bool
form_asked pairs = option_map_or is_open (value_of (codes "filters") pairs) false

-- those that a query that was read asks for
abbrev pub asked_by : Query → Asked
asked_by query = record {
  choice = query.choice;
  host = string_bytes query.host;
  service = string_bytes query.service;
  output = string_bytes query.output;
  hostname = query.hostname.items;
  gateway = string_bytes query.gateway;
  acknowledged = query.acknowledged;
  downtime = query.downtime;
}

-- the same with this choice
abbrev pub with_choice : Choice → Asked → Asked
with_choice choice asked = record asked { choice = choice }

-- those of a choice alone
abbrev pub only : Choice → Asked
only choice = record {
  choice = choice;
  host = [];
  service = [];
  output = [];
  hostname = [];
  gateway = [];
  acknowledged = None;
  downtime = None;
}
