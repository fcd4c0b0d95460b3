-- What a book shows.
use Rattle.std.proofs.Common.{◌≡◌, ℕ, Bool, Option, ◌+◌, ◌<◌, false, List, [], ◌∷◌, ◌++◌, map, reverse, length, get_or, sym, ap, ◌∙◌, arith, refl}
use Rattle.std.specs.Prelude.{None}
use Rattle.std.proofs.lemmas.List.{length-map, length-reverse, reverse-append}
use Rattle.gate_model.specs.declared.record.Moment.{Moment}
use Rattle.gate_model.specs.declared.object.ObjectId.{ObjectId}
use Rattle.gate_model.specs.declared.downtime.Plan.{Plan}
use Rattle.gate_model.specs.declared.downtime.Entry.{Entry}
use Rattle.gate_model.specs.declared.downtime.DowntimeEvent.{DowntimeEvent}
use Rattle.gate_model.specs.declared.downtime.DowntimeEvent.TheVariants.{Schedule, Delete, Transition}
use Rattle.gate_model.proofs.DowntimeSteps.{entries_of-schedule, entries_of-delete, entries_of-transition}
use Rattle.gate_model.specs.Record.{later}
use Rattle.gate_model.specs.Downtime.{entries_of, is_chained, is_live_in, is_live, begin_in, begin_of, depth_in, depth_of, scheduled_in, transition_of, was_deleted}
use Rattle.gate_downtime.specs.declared.row.Row.{Row}
use Rattle.gate_downtime.specs.Book.{DowntimeView, fresh, after_transition, after_deletion, without, next_gone_of, is_live_now}
use Rattle.gate_downtime.specs.Standing.{IsStanding}
use Rattle.gate_downtime.specs.inner.Rows.{row_entries, Counted, Consistent, Marked, SameButMarks}
use Rattle.gate_downtime.specs.inner.Walk.{entry_list}
use Rattle.gate_downtime.proofs.Cached.{depth-is, entries-push}
use Rattle.gate_downtime.proofs.Unmarked.{entries-same}

map-append : {X Y : Type 0} (f : X → Y) (xs ys : List X) → map f (xs ++ ys) ≡ map f xs ++ map f ys
map-append f [] ys = refl
map-append f (x ∷ xs) ys = ap (λ r. f x ∷ r) (map-append f xs ys)

pub reverse-map : {X Y : Type 0} (f : X → Y) (xs : List X) → reverse (map f xs) ≡ map f (reverse xs)
reverse-map f [] = refl
reverse-map f (x ∷ xs) =
    reverse-append (f x ∷ []) (map f xs) ∙ ap (λ r. r ++ f x ∷ []) (reverse-map f xs) ∙ sym (map-append f (reverse xs) (x ∷ [])) ∙ sym (ap (map f) (reverse-append (x ∷ []) xs))

pub depth-stands : (book : DowntimeView) (rows : List Row) (depths : List ℕ) (first-id p n : ℕ) → book.entries ≡ row_entries rows → Consistent first-id rows → Marked book.moment.0 rows → Counted rows depths → p < length depths → n ≡ get_or depths p 0
    → (first : ℕ) (h : List DowntimeEvent) (t : Moment) → IsStanding first book h t
    → n ≡ depth_of first h t p
depth-stands book rows depths first-id p n entries con marked counted lt is first h t st =
    is ∙ counted p lt ∙ depth-is first-id book.moment.0 p rows con marked ∙ ap (λ es. depth_in es book.moment.0 p) (sym entries ∙ st.entries_are) ∙ ap (λ (k : Moment). depth_in (entries_of first h) k.0 p) st.moment_is

pub advance-stands : (book book' : DowntimeView) (moment : Moment) → book'.entries ≡ book.entries → book'.moment ≡ later book.moment moment → book'.first_id ≡ book.first_id
    → (first : ℕ) (h : List DowntimeEvent) (t : Moment) → IsStanding first book h t → IsStanding first book' h (later t moment)
advance-stands book book' moment entries now first-id first h t st = record {
  entries_are = entries ∙ st.entries_are;
  moment_is = now ∙ ap (λ k. later k moment) st.moment_is;
  first_id_is = first-id ∙ st.first_id_is;
}

pub transition-stands : (book book' : DowntimeView) (place : ℕ) → book'.entries ≡ map (after_transition book.moment place) book.entries → book'.moment ≡ book.moment → book'.first_id ≡ book.first_id
    → (first : ℕ) (h : List DowntimeEvent) (t : Moment) → IsStanding first book h t → IsStanding first book' (Transition t place ∷ h) t
transition-stands book book' place entries now first-id first h t st = record {
  entries_are = entries ∙ ap (λ m. map (after_transition m place) book.entries) st.moment_is ∙ ap (map (after_transition t place)) st.entries_are ∙ sym (entries_of-transition first t place h);
  moment_is = now ∙ st.moment_is;
  first_id_is = first-id ∙ st.first_id_is;
}

pub schedule-stands : (book book' : DowntimeView) (object : ObjectId) (plan : Plan) → book'.entries ≡ fresh book object plan ∷ book.entries → book'.moment ≡ book.moment → book'.first_id ≡ book.first_id
    → (first : ℕ) (h : List DowntimeEvent) (t : Moment) → IsStanding first book h t → IsStanding first book' (Schedule t object plan ∷ h) t
schedule-stands book book' object plan entries now first-id first h t st = record {
  entries_are =
      entries
      ∙ ap (λ i. (let e : Entry = record { scheduled = record { id = i; object = object; plan = plan; moment = book.moment }; transition = None; deleted = false } in e) ∷ book.entries) number
      ∙ ap (λ i. (let e : Entry = record { scheduled = record { id = first + length (scheduled_in first h); object = object; plan = plan; moment = i }; transition = None; deleted = false } in e) ∷ book.entries) st.moment_is
      ∙ ap (λ es. (let e : Entry = record { scheduled = record { id = first + length (scheduled_in first h); object = object; plan = plan; moment = t }; transition = None; deleted = false } in e) ∷ es) st.entries_are
      ∙ sym (entries_of-schedule first t object plan h);
  moment_is = now ∙ st.moment_is;
  first_id_is = first-id ∙ st.first_id_is;
}
  where
    count : length book.entries ≡ length (scheduled_in first h)
    count =
        ap length st.entries_are
        ∙ length-map (scheduled_in first h) (λ s. let e : Entry = record { scheduled = s; transition = transition_of h first s; deleted = was_deleted h first s.id } in e)

    number : book.first_id + length book.entries ≡ first + length (scheduled_in first h)
    number = omega (arith, st.first_id_is, count)

-- the entries of the rows after a transition, the newest first
pub turned-entries : (m : Moment) (place : ℕ) (rows rows' : List Row) → entry_list rows' ≡ map (after_transition m place) (entry_list rows) → row_entries rows' ≡ map (after_transition m place) (row_entries rows)
turned-entries m place rows rows' is = ap reverse is ∙ reverse-map (after_transition m place) (entry_list rows)

pub length-entries : (rows : List Row) → length (row_entries rows) ≡ length rows
length-entries rows = length-reverse (entry_list rows) ∙ length-map rows (λ (r : Row). r.entry)

-- the entries of the rows with a fresh one
pub fresh-entries : (book : DowntimeView) (rows rows' : List Row) (row : Row) (id : ℕ) (object : ObjectId) (plan : Plan) → book.entries ≡ row_entries rows → SameButMarks (rows ++ row ∷ []) rows'
    → row.entry ≡ record { scheduled = record { id = id; object = object; plan = plan; moment = book.moment }; transition = None; deleted = false } → id ≡ book.first_id + length rows
    → row_entries rows' ≡ fresh book object plan ∷ book.entries
fresh-entries book rows rows' row id object plan entries same entry is =
    entries-same (rows ++ row ∷ []) rows' same ∙ entries-push rows row
    ∙ ap (λ e. e ∷ row_entries rows) (entry ∙ ap (λ i. let e : Entry = record { scheduled = record { id = i; object = object; plan = plan; moment = book.moment }; transition = None; deleted = false } in e) number)
    ∙ ap (λ es. fresh book object plan ∷ es) (sym entries)
  where
    number : id ≡ book.first_id + length book.entries
    number = omega (arith, is, ap length entries, length-entries rows)

pub cancel-stands : (book book' : DowntimeView) (id : ℕ) → book'.entries ≡ without id book → book'.moment ≡ book.moment → book'.first_id ≡ book.first_id
    → (first : ℕ) (h : List DowntimeEvent) (t : Moment) → IsStanding first book h t → IsStanding first book' (Delete t id ∷ h) t
cancel-stands book book' id entries now first-id first h t st = record {
  entries_are =
      entries ∙ ap (λ (m : Moment). map (after_deletion (is_chained (is_live_in book.entries m.0) book.entries id)) book.entries) st.moment_is
      ∙ ap (λ es. map (after_deletion (is_chained (is_live_in es t.0) es id)) es) st.entries_are ∙ sym (entries_of-delete first t id h);
  moment_is = now ∙ st.moment_is;
  first_id_is = first-id ∙ st.first_id_is;
}

pub live-stands : (book : DowntimeView) (id : ℕ) (b : Bool) → b ≡ is_live_now book id
    → (first : ℕ) (h : List DowntimeEvent) (t : Moment) → IsStanding first book h t → b ≡ is_live first h t id
live-stands book id b is first h t st = is ∙ ap (λ es. is_live_in es book.moment.0 id) st.entries_are ∙ ap (λ (m : Moment). is_live_in (entries_of first h) m.0 id) st.moment_is

pub deleted-entries : (book : DowntimeView) (es : List Entry) (x id : ℕ) → x ≡ id → es ≡ map (after_deletion (is_chained (is_live_in book.entries book.moment.0) book.entries x)) book.entries → es ≡ without id book
deleted-entries book es x id same is = is ∙ ap (λ i. without i book) same

pub begin-stands : (book : DowntimeView) (id : ℕ) (o : Option ℕ) → o ≡ begin_in book.entries id
    → (first : ℕ) (h : List DowntimeEvent) (t : Moment) → IsStanding first book h t → o ≡ begin_of first h id
begin-stands book id o is first h t st = is ∙ ap (λ es. begin_in es id) st.entries_are

pub gone-stands : (book : DowntimeView) (o : Option ℕ) → o ≡ next_gone_of book.entries book.moment book.returned
    → (first : ℕ) (h : List DowntimeEvent) (t : Moment) → IsStanding first book h t → o ≡ next_gone_of (entries_of first h) t book.returned
gone-stands book o is first h t st = is ∙ ap (λ es. next_gone_of es book.moment book.returned) st.entries_are ∙ ap (λ m. next_gone_of (entries_of first h) m book.returned) st.moment_is
