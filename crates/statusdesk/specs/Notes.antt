-- What the page of an object says of a user's orders: `AreOwn`, what the outboxes of the gateways show of them beside the
-- pages that are kept. Own rules.
use Rattle.std.specs.Prelude.{◌≡◌, ℕ, Bool, List, [], ◌∷◌, ◌++◌, map, find}
use Rattle.std.specs.List.{list_all}
use Rattle.std.specs.Option.{option_map_or}
use Rattle.std.specs.Str.{bytes_eq}
use Rattle.status_memory.specs.declared.memory.Kept.{Kept}
use Rattle.page_watching.specs.declared.places.Place.{Place}
use Rattle.page_watching.specs.declared.watching.Seen.{Seen}
use Rattle.page_watching.specs.Watching.{Shared}
use Rattle.desk_view.specs.declared.page.Note.{Note}
use Rattle.desk_outbox.specs.declared.showing.Asked.{Asked}
use Rattle.desk_outbox.specs.declared.showing.Shown.{Shown}
use Rattle.desk_outbox.specs.Outbox.{OutboxView}
use Rattle.desk_outbox.specs.Showing.{shown_in}
use Rattle.statusdesk.specs.declared.notes.Said.{Said}

-- an order at a gateway, whether what is said of it stays so, and whether it failed
pub record SaidView : Type 0 where
  pub gateway : List ℕ
  pub text : List ℕ
  pub is_settled : Bool
  pub is_alarm : Bool

abbrev pub said_view : Said → SaidView
said_view said = record {
  gateway = said.gateway.now;
  text = said.text;
  is_settled = said.is_settled;
  is_alarm = said.is_alarm;
}

abbrev pub said_at : List ℕ → Shown → SaidView
said_at gateway shown = record {
  gateway = gateway;
  text = shown.text;
  is_settled = shown.is_settled;
  is_alarm = shown.is_alarm;
}

-- when the page that is kept of a gateway was fetched, in seconds since 1970; 0 where none is
abbrev pub kept_at : Seen → ℕ
kept_at seen = option_map_or (λ (kept : Kept Shared). kept.moment) seen.memory.last 0

-- the same of the gateway of this name
abbrev pub fetched_at : List ℕ → List Seen → ℕ
fetched_at name seen = option_map_or kept_at (find (λ (one : Seen). bytes_eq one.place.name.now name) seen) 0

-- some outbox shows these of the orders that are asked for, beside a page that was fetched at this moment
abbrev pub IsOwnAt : Asked → ℕ → List Shown → Type 0
IsOwnAt asked fetched shown =
    (outbox : OutboxView) × (shown ≡ shown_in (record asked { fetched = fetched }) outbox)

-- these are said of the orders that are asked for, at each of these gateways, in their order, beside what is kept of them
abbrev pub AreOwn : Asked → List Seen → List Place → List SaidView → Type 0
AreOwn asked seen [] said = said ≡ []
AreOwn asked seen (place ∷ places) said =
    (first : List Shown) × (rest : List SaidView) × IsOwnAt asked (fetched_at place.name.now seen) first
    × AreOwn asked seen places rest
    × (said ≡ map (said_at place.name.now) first ++ rest)

-- all of it stays so
abbrev pub are_settled : List SaidView → Bool
are_settled said = list_all (λ (one : SaidView). one.is_settled) said

-- ---- as notes of a page

abbrev pub note_of : SaidView → List ℕ × List ℕ × Bool
note_of said = (said.gateway, said.text, said.is_alarm)

abbrev pub note_view : Note → List ℕ × List ℕ × Bool
note_view note = (note.gateway.now, note.text.now, note.is_alarm)
