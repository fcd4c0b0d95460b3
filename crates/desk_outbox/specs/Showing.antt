-- What a user sees of their orders for an object, or for each: `shown_in`. Own rules: the words, and that what came of an order is shown
-- for 600 seconds.
use Rattle.std.specs.Prelude.{ℕ, ◌+◌, Bool, true, false, not, nat_lt, nat_le, ◌==◌, ◌&&◌, ◌||◌, List, [], ◌∷◌, ◌++◌, length, map, filter, Option, Some, None, codes, if◌then◌else◌}
use Rattle.std.specs.Option.{option_to_list}
use Rattle.std.specs.Str.{bytes_eq}
use Rattle.desk_outbox.specs.declared.labels.Label.{Label}
use Rattle.desk_outbox.specs.declared.outbox.Settled.{Settled}
use Rattle.desk_outbox.specs.declared.showing.Asked.{Asked}
use Rattle.desk_outbox.specs.declared.showing.Shown.{Shown}
use Rattle.desk_outbox.specs.Labels.{LabelledView}
use Rattle.desk_outbox.specs.Outbox.{OutboxView}

-- the moment is this one, or each is asked for
abbrev pub is_at : Option ℕ → ℕ → Bool
is_at None at = true
is_at (Some asked) at = at == asked

-- the object is this one, or each is asked for
abbrev pub is_for : Asked → Label → Bool
is_for asked label =
    asked.is_each || (bytes_eq label.host asked.host.now && bytes_eq label.service asked.service.now)

-- the order is of this user, for this object, and of this moment
abbrev pub is_of : Asked → Label → Bool
is_of asked label =
    is_at asked.at label.at && bytes_eq label.user asked.user.now && is_for asked label

-- a blank (32) and the service, or nothing for a host
abbrev pub service_part : List ℕ → List ℕ
service_part service = if length service == 0 then [] else 32 ∷ service

-- what is shown of an order begins with its object's names where each object is asked for
abbrev pub names_in : Bool → Label → List ℕ
names_in is_each label = if is_each then label.host ++ service_part label.service ++ codes ": " else []

-- ---- an order that is not sent yet

abbrev pub unsent : Asked → Label → Shown
unsent asked label = record {
  text = names_in asked.is_each label ++ codes "being sent";
  is_settled = false;
  is_alarm = false;
}

-- the labels of those that are not
abbrev pub labels_unsent : OutboxView → List Label
labels_unsent outbox = option_to_list outbox.under_way ++ map (λ (order : LabelledView). order.label) outbox.waiting

-- ---- what came of an order

-- it was settled less than ten minutes ago
abbrev pub is_recent : ℕ → Settled → Bool
is_recent now settled = nat_lt now (settled.moment + 600)

-- the command is queued, and the page was fetched no later
abbrev pub is_before : ℕ → Settled → Bool
is_before fetched settled = settled.is_queued && nat_le fetched settled.moment

abbrev pub ending : Bool → List ℕ
ending is_before = if is_before then codes "; this page may be from before it" else []

-- what is shown of it
abbrev pub shown_settled : Asked → Settled → Shown
shown_settled asked settled = record {
  text = names_in asked.is_each settled.label ++ settled.text ++ ending (is_before asked.fetched settled);
  is_settled = not (is_before asked.fetched settled);
  is_alarm = not settled.is_queued;
}

-- those to show
abbrev pub is_asked : Asked → Settled → Bool
is_asked asked settled = is_recent asked.clock settled && is_of asked settled.label

-- ---- all

-- what came of the user's orders, and then those that are not sent yet
abbrev pub shown_in : Asked → OutboxView → List Shown
shown_in asked outbox =
    map (shown_settled asked) (filter (is_asked asked) outbox.settled)
    ++ map (unsent asked) (filter (is_of asked) (labels_unsent outbox))
