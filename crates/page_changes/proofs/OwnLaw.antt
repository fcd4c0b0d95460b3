-- A comment or a downtime entry that a page shows of a command is that of no other command.
use Rattle.std.proofs.Common.{◌≡◌, ℕ, ◌+◌, ◌<◌, ◌==◌, Bool, true, false, List, [], ◌∷◌, ◌++◌, map, Option, Some, None, option_map, inl, inr, refl, sym, ap, subst, ◌∙◌, arith, append-nil, append_assoc}
use Rattle.std.specs.Prelude.{Result, Ok, Err, IfOk, find, nat_lt, is_none, if◌then◌else◌}
use Rattle.std.specs.List.{enumerate_from}
use Rattle.std.specs.Str.{bytes_eq}
use Rattle.std.proofs.lemmas.Bool.{and_parts, cases_Bool, eqb-true, eq-eqb, ne_eqb, ltb-true}
use Rattle.std.proofs.lemmas.Slice.Eq.{bytes_eq-Decides}
use Rattle.gate_model.specs.declared.object.ObjectLine.{ObjectLine}
use Rattle.gate_model.specs.declared.state.State.{State}
use Rattle.gate_model.specs.declared.submission.Body.{Body}
use Rattle.gate_model.specs.declared.act.Span.{Span}
use Rattle.gate_model.specs.declared.act.Deed.{Deed}
use Rattle.gate_model.specs.declared.act.Deed.TheVariants as deeds
use Rattle.gate_model.specs.declared.act.Act.{Act}
use Rattle.gate_model.specs.declared.act.Act.TheVariants as acts
use Rattle.gate_model.specs.Act.{act_of, words_of, output_of}
use Rattle.gate_model.specs.Escaping.{escaped}
use Rattle.status_reading.specs.declared.row_faults.RowFault.{RowFault}
use Rattle.status_reading.specs.declared.row_faults.RowFault.TheVariants.{NoSuchObject, WrongOrder}
use Rattle.status_reading.specs.declared.rows.ShownSource.{ShownSource}
use Rattle.status_reading.specs.declared.rows.ShownSource.TheVariants as source
use Rattle.status_reading.specs.Rows.{ObjectView, CommentView, DowntimeView, PageView}
use Rattle.status_reading.specs.RowFaults.{NamedView, comment_names, downtime_names, place_on, active_at, object_fault, id_faults, table_of, first_from, IsSound}
use Rattle.status_reading.proofs.IdSteps.{Ascend}
use Rattle.page_changes.specs.declared.names.Names.{Names}
use Rattle.page_changes.specs.declared.effects.Written.{Written}
use Rattle.page_changes.specs.declared.effects.Made.{Made}
use Rattle.page_changes.specs.declared.effects.Made.TheVariants.{Comment, Downtime}
use Rattle.page_changes.specs.declared.effects.Effect.{Effect}
use Rattle.page_changes.specs.Names.{shown_names, has_names, row_with}
use Rattle.page_changes.specs.Effects.{is_same, is_from, is_made, last_comment, last_entry, shown_words, has_words, is_comment, has_span, is_entry_of, Mark, OfComment, OfEntry, new_with, mark_of_deed, mark_of_act, mark_of, shown_if, shown_by, acknowledged_by, effect_of_deed, effect_of_act, effect_of, made_in, id_of_made}

-- ---- a row among those with ids that ascend

skip : (line : ℕ) (one other : List (Option RowFault)) → first_from line (one ++ other) ≡ None → (next : ℕ) × (first_from next other ≡ None)
skip line [] other is = (line, is)
skip line (None ∷ one) other is = skip (line + 1) one other is
skip line (Some fault ∷ one) other is = cc

first_row : (none above : Bool) (line : ℕ) (rest : List (Option RowFault))
    → first_from line ((if none then Some NoSuchObject else (if above then None else Some WrongOrder)) ∷ rest) ≡ None
    → (above ≡ true) × (first_from (line + 1) rest ≡ None)
first_row true above line rest is = cc
first_row false true line rest is = (refl, is)
first_row false false line rest is = cc

module _ {A : Type 0} (names : A → NamedView) where
  abbrev id : A → ℕ
  id one = (names one).id

  rise : (table : List ObjectLine) (line last : ℕ) (rows : List A) (rest : List (Option RowFault))
      → first_from line (id_faults table last (map names rows) ++ rest) ≡ None → Ascend id last rows
  rise table line last [] rest is = tt
  rise table line last (row ∷ rows) rest is =
      let here = first_row (is_none (place_on table (names row).host (names row).service)) (nat_lt last (id row)) line _ is in
      (ltb-true last (id row) here.0, rise table (line + 1) (id row) rows rest here.1)

  -- what is found passes, has an id above this one, and is the one of its id
  found : (test : A → Bool) (last : ℕ) (rows : List A) (one : A) → Ascend id last rows → find test rows ≡ Some one
      → (test one ≡ true) × (last < id one) × (find (λ other. id other == id one) rows ≡ Some one)
  found test last [] one all is = cc
  found test last (first ∷ rows) one all is = elim (cases_Bool (test first)) [
    | inl passes ↦
        let here : Some first ≡ Some one = rw passes at is in
        let same : first ≡ one = cc in
        subst (λ other. (test other ≡ true) × (last < id other) × (find (λ more. id more == id other) (first ∷ rows) ≡ Some other)) same
        (passes, all.0, ap (λ (equal : Bool). if equal then Some first else find (λ more. id more == id first) rows) (eq-eqb (id first) (id first) refl))
    | inr fails ↦
        let later = found test (id first) rows one all.1 (rw fails at is) in (
          later.0,
          omega (arith, all.0, later.1),
          ap (λ (equal : Bool). if equal then Some first else find (λ more. id more == id one) rows)
              (ne_eqb (id first) (id one) (λ same. omega (arith, same, later.1))) ∙ later.2,
        )
  ]

  mapped : (one : Option A) (number : ℕ) → option_map id one ≡ Some number → (row : A) × (one ≡ Some row) × (id row ≡ number)
  mapped None number is = cc
  mapped (Some row) number is = (row, refl, cc)

  -- two that are found and have one id are one
  same_row : (test other : A → Bool) (last : ℕ) (rows : List A) (number : ℕ) → Ascend id last rows
      → option_map id (find test rows) ≡ Some number → option_map id (find other rows) ≡ Some number
      → (row : A) × (test row ≡ true) × (other row ≡ true)
  same_row test other last rows number all is more =
      let one = mapped (find test rows) number is in
      let two = mapped (find other rows) number more in
      let first = found test last rows one.0 all one.1 in
      let second = found other last rows two.0 all two.1 in
      let both : Some one.0 ≡ Some two.0 =
      sym first.2 ∙ ap (λ (number : ℕ). find (λ other. id other == number) rows) (one.2 ∙ sym two.2) ∙ second.2 in
      let same : one.0 ≡ two.0 = cc in
      (one.0, first.0, subst (λ row. other row ≡ true) (sym same) second.0)

-- ---- the mark that a row has

abbrev names_with : List ℕ → List ℕ → Names
names_with host service = record { host = host; service = service }

with_fields : (names : Names) (host service : List ℕ) → bytes_eq host names.host ≡ true → bytes_eq service names.service ≡ true
    → names ≡ names_with host service
with_fields names host service one other =
    ap (λ (field : List ℕ). names_with field names.service) (sym ((bytes_eq-Decides host names.host).0 one))
    ∙ ap (names_with host) (sym ((bytes_eq-Decides service names.service).0 other))

same_names : (names : Names) (host service : List ℕ) → has_names names host service ≡ true → names ≡ names_with host service
same_names names host service is = let one = and_parts _ _ is in with_fields names host service one.0 one.1

abbrev words_with : List ℕ → List ℕ → Option Written
words_with author text = Some (record { author = author; text = text })

same_words : (words : Option Written) (author text : List ℕ) → has_words words author text ≡ true → words ≡ words_with author text
same_words None author text is = cc
same_words (Some words) author text is =
    let one = and_parts _ _ is in
    ap (λ (field : List ℕ). words_with field words.text) (sym ((bytes_eq-Decides author words.author).0 one.0))
    ∙ ap (words_with author) (sym ((bytes_eq-Decides text words.text).0 one.1))

same : (one other : Bool) → is_same one other ≡ true → one ≡ other
same true true is = refl
same true false is = cc
same false true is = cc
same false false is = refl

abbrev from_acknowledgement : ShownSource → Bool
from_acknowledgement source.User = false
from_acknowledgement source.Acknowledgement = true
from_acknowledgement source.Downtime = false

same_source : (acknowledgement : Bool) (from : ShownSource) → is_from acknowledgement from ≡ true → acknowledgement ≡ from_acknowledgement from
same_source true source.User is = cc
same_source false source.User is = refl
same_source true source.Acknowledgement is = refl
same_source false source.Acknowledgement is = cc
same_source acknowledgement source.Downtime is = cc

abbrev span_with : ℕ → ℕ → Bool → ℕ → ℕ → Span
span_with starts ends fixed trigger lasts =
    record { starts = record { 0 = starts }; ends = record { 0 = ends }; fixed = fixed; trigger = trigger; lasts = lasts }

same_span : (span : Span) (row : DowntimeView) → has_span span row ≡ true → span ≡ span_with row.start row.end row.fixed row.trigger row.duration
same_span span row is =
    let four = and_parts _ _ is in
    let three = and_parts _ _ four.0 in
    let two = and_parts _ _ three.0 in
    let one = and_parts _ _ two.0 in
    sym (rw (
      eqb-true row.start span.starts.0 one.0,
      eqb-true row.end span.ends.0 one.1,
      sym (same span.fixed row.fixed two.1),
      eqb-true row.trigger span.trigger three.1,
      eqb-true row.duration span.lasts four.1,
    ) refl)

abbrev comment_mark : CommentView → Mark
comment_mark row =
    OfComment (names_with row.host row.service) (from_acknowledgement row.source) row.persistent (words_with row.author row.text)

abbrev entry_mark : DowntimeView → Mark
entry_mark row =
    OfEntry (names_with row.host row.service) (span_with row.start row.end row.fixed row.trigger row.duration) (words_with row.author row.text)

of_comment : (last : ℕ) (names : Names) (acknowledgement persistent : Bool) (words : Option Written) (row : CommentView)
    → is_comment last names acknowledgement persistent words row ≡ true → OfComment names acknowledgement persistent words ≡ comment_mark row
of_comment last names acknowledgement persistent words row is =
    let four = and_parts _ _ is in
    let three = and_parts _ _ four.0 in
    let two = and_parts _ _ three.0 in
    ap (λ (those : Names). OfComment those acknowledgement persistent words) (same_names names row.host row.service (and_parts _ _ two.0).1)
    ∙ ap (λ (from : Bool). OfComment (names_with row.host row.service) from persistent words) (same_source acknowledgement row.source two.1)
    ∙ ap (λ (kept : Bool). OfComment (names_with row.host row.service) (from_acknowledgement row.source) kept words) (same persistent row.persistent three.1)
    ∙ ap (OfComment (names_with row.host row.service) (from_acknowledgement row.source) row.persistent) (same_words words row.author row.text four.1)

of_entry : (last : ℕ) (names : Names) (span : Span) (words : Option Written) (row : DowntimeView)
    → is_entry_of last names.host names.service span words row ≡ true → OfEntry names span words ≡ entry_mark row
of_entry last names span words row is =
    let four = and_parts _ _ is in
    let three = and_parts _ _ four.0 in
    let two = and_parts _ _ three.0 in
    let one = and_parts _ _ two.0 in
    rw (with_fields names row.host row.service one.1 two.1, same_span span row three.1, same_words words row.author row.text four.1) refl

-- ---- what is made has the command's mark

with_id : (from : ℕ → Made) → ((id : ℕ) → id_of_made (from id) ≡ id) → (found : Option ℕ) (made : Made) → option_map from found ≡ Some made
    → found ≡ Some (id_of_made made)
with_id from same None made is = cc
with_id from same (Some id) made is =
    let made_is : from id ≡ made = cc in ap (λ (one : ℕ). Some one) (sym (same id) ∙ ap id_of_made made_is)

never : {P : Type 0} (comment entry : Option ℕ) (made : Made) → option_map Comment comment ≡ Some made → option_map Downtime entry ≡ Some made → P
never None entry made is more = cc
never (Some id) None made is more = cc
never (Some id) (Some other) made is more = let same : Some (Comment id) ≡ Some (Downtime other) = is ∙ sym more in cc

module _ (before after : PageView) where
  abbrev found_with : Option Mark → Option Made
  found_with None = None
  found_with (Some mark) = new_with before after mark

  made_by : (state : Option State) (made : Option Made) → made_in (shown_by state made) ≡ made
  made_by state None = refl
  made_by state (Some made) = refl

  none_made : (shown : Bool) → made_in (shown_if shown) ≡ None
  none_made true = refl
  none_made false = refl

  acknowledged : (sticky : Bool) (mark : Mark) (made : Made) (row : Option ObjectView)
      → made_in (acknowledged_by sticky (new_with before after mark) row) ≡ Some made → new_with before after mark ≡ Some made
  acknowledged sticky mark made None is = cc
  acknowledged sticky mark made (Some row) is = elim (cases_Bool (is_made sticky row.acknowledgement)) [
    | inl sticks ↦ sym (made_by (Some row.state) (new_with before after mark)) ∙ rw sticks at is
    | inr fails ↦ let never : None ≡ Some made = rw fails at is in cc
  ]

  deed_marked : (names : Names) (words : Option Written) (output : Option (List ℕ)) (made : Made) (deed : Deed)
      → made_in (effect_of_deed before after names words output deed) ≡ Some made → found_with (mark_of_deed names words deed) ≡ Some made
  deed_marked names words output made (deeds.AddComment persistent) is = sym (made_by None _) ∙ is
  deed_marked names words output made (deeds.Acknowledge sticky persistent) is =
      acknowledged sticky (OfComment names true persistent words) made (row_with names after.objects) is
  deed_marked names words output made (deeds.Schedule span) is = sym (made_by None _) ∙ is
  deed_marked names words output made (deeds.Passive on) is = is
  deed_marked names words output made _ is = sym (none_made _) ∙ is

  act_marked : (words : Option Written) (output : Option (List ℕ)) (made : Made) (act : Act)
      → made_in (effect_of_act before after words output act) ≡ Some made → found_with (mark_of_act words act) ≡ Some made
  act_marked words output made (acts.On host service deed) is = deed_marked (shown_names host service) words output made deed is
  act_marked words output made _ is = sym (none_made _) ∙ is

module _ (after : PageView) (sound : IsSound after) where
  abbrev object_faults : List (Option RowFault)
  object_faults =
      map (λ (one : ℕ × ObjectView). object_fault (active_at (table_of after) after.downtimes one.0) one.1) (enumerate_from 0 after.objects)

  abbrev comment_faults : List (Option RowFault)
  comment_faults = id_faults (table_of after) 0 (map comment_names after.comments)

  abbrev entry_faults : List (Option RowFault)
  entry_faults = id_faults (table_of after) 0 (map downtime_names after.downtimes)

  comments_rise : Ascend (λ row. (comment_names row).id) 0 after.comments
  comments_rise =
      let rest = skip 2 object_faults (comment_faults ++ entry_faults)
      (subst (λ (faults : List (Option RowFault)). first_from 2 faults ≡ None) (append_assoc object_faults comment_faults entry_faults) sound.rows) in
      rise comment_names (table_of after) rest.0 0 after.comments entry_faults rest.1

  entries_rise : Ascend (λ row. (downtime_names row).id) 0 after.downtimes
  entries_rise =
      let rest = skip 2 (object_faults ++ comment_faults) entry_faults sound.rows in
      rise downtime_names (table_of after) rest.0 0 after.downtimes []
      (subst (λ (faults : List (Option RowFault)). first_from rest.0 faults ≡ None) (sym (append-nil entry_faults)) rest.1)

  one_mark : (before earlier : PageView) (one other : Mark) (made : Made) → new_with before after one ≡ Some made
      → new_with earlier after other ≡ Some made → one ≡ other
  one_mark before earlier (OfComment names acknowledgement persistent words) (OfComment others acknowledged kept spoken) made is more =
      let last = last_comment before in
      let first = last_comment earlier in
      let row = same_row comment_names (is_comment last names acknowledgement persistent words) (is_comment first others acknowledged kept spoken)
      0 after.comments (id_of_made made) comments_rise (with_id Comment (λ id. refl) _ made is) (with_id Comment (λ id. refl) _ made more) in
      of_comment last names acknowledgement persistent words row.0 row.1 ∙ sym (of_comment first others acknowledged kept spoken row.0 row.2)
  one_mark before earlier (OfEntry names span words) (OfEntry others window spoken) made is more =
      let last = last_entry before in
      let first = last_entry earlier in
      let row = same_row downtime_names (is_entry_of last names.host names.service span words) (is_entry_of first others.host others.service window spoken)
      0 after.downtimes (id_of_made made) entries_rise (with_id Downtime (λ id. refl) _ made is) (with_id Downtime (λ id. refl) _ made more) in
      of_entry last names span words row.0 row.1 ∙ sym (of_entry first others window spoken row.0 row.2)
  one_mark before earlier (OfComment names acknowledgement persistent words) (OfEntry others span spoken) made is more = never _ _ made is more
  one_mark before earlier (OfEntry names span words) (OfComment others acknowledged kept spoken) made is more = never _ _ made more is

  same_mark : (before earlier : PageView) (one other : Option Mark) (made : Made) → found_with before after one ≡ Some made
      → found_with earlier after other ≡ Some made → one ≡ other
  same_mark before earlier None other made is more = cc
  same_mark before earlier (Some one) None made is more = cc
  same_mark before earlier (Some one) (Some other) made is more = ap (λ (mark : Mark). Some mark) (one_mark before earlier one other made is more)

pub is_own : {E : Type 0} (before earlier after : PageView) (body other : Body) (made : Made) (result : Result (Option Effect) E)
    → IfOk result (λ effect. effect ≡ effect_of body before after) → IsSound after → made_in (effect_of other earlier after) ≡ Some made
    → IfOk result (λ effect. made_in effect ≡ Some made → mark_of body ≡ mark_of other)
is_own before earlier after body other made (Err fault) found sound is = tt
is_own before earlier after body other made (Ok effect) found sound is =
    let marked : (page : PageView) (one : Body) → made_in (effect_of one page after) ≡ Some made → found_with page after (mark_of one) ≡ Some made =
    λ page one. act_marked page after (shown_words (words_of one)) (option_map escaped (output_of one)) made (act_of one) in
    λ more.
    same_mark after sound before earlier (mark_of body) (mark_of other) made (marked before body (ap made_in (sym found) ∙ more)) (marked earlier other is)
