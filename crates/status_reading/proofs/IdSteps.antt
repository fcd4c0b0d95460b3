-- Ids that ascend: of comments, of downtime entries, and of a list that is filtered or mapped.
use Rattle.std.proofs.Common.{◌≡◌, ℕ, ◌+◌, ◌<◌, ◌≤◌, Bool, true, false, cond, List, [], ◌∷◌, ◌++◌, map, filter, length, reverse, Option, Some, None, refl, sym, ap, subst, ◌∙◌, arith}
use Rattle.std.specs.Prelude.{nat_lt, is_none, if◌then◌else◌}
use Rattle.std.specs.List.{AllByRecursion, list_any}
use Rattle.std.proofs.lemmas.Bool.{lt-ltb}
use Rattle.std.proofs.lemmas.List.{reverse-append}
use Rattle.std.proofs.lemmas.List.Sums.{sum_by-cons}
use Rattle.gate_model.specs.declared.object.ObjectLine.{ObjectLine}
use Rattle.gate_model.specs.declared.comments.Comment.{Comment}
use Rattle.gate_model.specs.declared.comments.CommentEvent.{CommentEvent}
use Rattle.gate_model.specs.declared.comments.CommentEvent.TheVariants.{Add, Delete, DeleteAll, Clear, Gone}
use Rattle.gate_model.specs.declared.downtime.Scheduled.{Scheduled}
use Rattle.gate_model.specs.declared.downtime.DowntimeEvent.{DowntimeEvent}
use Rattle.gate_model.specs.declared.downtime.DowntimeEvent.TheVariants as downtime
use Rattle.gate_model.specs.Comments.{number_made, is_addition, removes, comment_made, comments_left}
use Rattle.gate_model.specs.Downtime.{scheduled_in}
use Rattle.status_reading.specs.declared.row_faults.RowFault.TheVariants.{NoSuchObject, WrongOrder}
use Rattle.status_reading.specs.RowFaults.{NamedView, place_on, id_faults}
use Rattle.status_reading.proofs.EachSteps.{each_reverse}
use Rattle.status_reading.proofs.EventSteps.{ids_below}

-- ---- lists with ids

module _ {A : Type 0} (id_of : A → ℕ) where
  -- the ids ascend, the first from above this one
  abbrev pub Ascend : ℕ → List A → Type 0
  Ascend last [] = Unit {0}
  Ascend last (one ∷ list) = (last < id_of one) × Ascend (id_of one) list

  pub ascend_lower : (low last : ℕ) (list : List A) → low ≤ last → Ascend last list → Ascend low list
  ascend_lower low last [] less all = tt
  ascend_lower low last (one ∷ list) less all = (omega (arith, less, all.0), all.1)

  pub ascend_more : (last : ℕ) (list : List A) (one : A) → Ascend last list → AllByRecursion (λ other. id_of other < id_of one) list
      → last < id_of one → Ascend last (list ++ one ∷ [])
  ascend_more last [] one all below above = (above, tt)
  ascend_more last (first ∷ list) one all below above = (all.0, ascend_more (id_of first) list one all.1 below.1 below.0)

  ascend_kept : (kept : Bool) (last : ℕ) (one : A) (list : List A) → last < id_of one → Ascend (id_of one) list
      → Ascend last (if kept then one ∷ list else list)
  ascend_kept true last one list above all = (above, all)
  ascend_kept false last one list above all = ascend_lower last (id_of one) list (omega (arith, above)) all

  pub ascend_filter : (test : A → Bool) (last : ℕ) (list : List A) → Ascend last list → Ascend last (filter test list)
  ascend_filter test last [] all = tt
  ascend_filter test last (one ∷ list) all =
      ascend_kept (test one) last one (filter test list) all.0 (ascend_filter test (id_of one) list all.1)

pub ascend_map : {A B : Type 0} (id_of : A → ℕ) (other_of : B → ℕ) (made : A → B) → ((one : A) → other_of (made one) ≡ id_of one)
    → (last : ℕ) (list : List A) → Ascend id_of last list → Ascend other_of last (map made list)
ascend_map id_of other_of made same last [] all = tt
ascend_map id_of other_of made same last (one ∷ list) all = (
  omega (arith, all.0, same one),
  subst (λ id. Ascend other_of id (map made list)) (sym (same one)) (ascend_map id_of other_of made same (id_of one) list all.1),
)

-- ---- comments

made_cons : (event : CommentEvent) (history : List CommentEvent)
    → number_made (event ∷ history) ≡ cond (is_addition event) 1 0 + number_made history
made_cons event history = sum_by-cons (λ (one : CommentEvent). cond (is_addition one) 1 0) event history

kept_last : (removed : Bool) (last : ℕ) (list : List Comment) (one : Comment) → Ascend (λ (other : Comment). other.id) last list
    → AllByRecursion (λ (other : Comment). other.id < one.id) list → last < one.id
    → Ascend (λ (other : Comment). other.id) last (list ++ (if removed then [] else one ∷ []))
kept_last true last list one all below above = subst (Ascend (λ (other : Comment). other.id) last) (sym (append_none list)) all
  where
    append_none : (list : List Comment) → list ++ [] ≡ list
    append_none [] = refl
    append_none (first ∷ list) = ap (λ rest. first ∷ rest) (append_none list)
kept_last false last list one all below above = ascend_more (λ (other : Comment). other.id) last list one all below above

-- ids of comments ascend, from the first one on
pub comments_ascend : (first last : ℕ) (later history : List CommentEvent) → last < first
    → Ascend (λ (one : Comment). one.id) last (comments_left first later history)
comments_ascend first last later [] above = tt
comments_ascend first last later (Add object source persistent log_index ∷ before) above =
    let comment = comment_made first before object source persistent log_index in
    let more = Add object source persistent log_index ∷ later in
    kept_last (list_any (λ event. removes event comment) later) last (comments_left first more before) comment
    (comments_ascend first last more before above)
    (ids_below first more before (first + number_made before) (omega arith))
    (omega (arith, above))
comments_ascend first last later (Delete id ∷ before) above = comments_ascend first last (Delete id ∷ later) before above
comments_ascend first last later (DeleteAll place ∷ before) above = comments_ascend first last (DeleteAll place ∷ later) before above
comments_ascend first last later (Clear place ∷ before) above = comments_ascend first last (Clear place ∷ later) before above
comments_ascend first last later (Gone id ∷ before) above = comments_ascend first last (Gone id ∷ later) before above

-- ---- downtime entries

scheduled_below : (events : List DowntimeEvent) (most : ℕ) → 1 + length (scheduled_in 1 events) ≤ most
    → AllByRecursion (λ (one : Scheduled). one.id < most) (scheduled_in 1 events)
scheduled_below [] most few = tt
scheduled_below (downtime.Schedule moment object plan ∷ before) most few =
    (omega (arith, few), scheduled_below before most (omega (arith, few)))
scheduled_below (downtime.Delete moment id ∷ before) most few = scheduled_below before most few
scheduled_below (downtime.Transition moment place ∷ before) most few = scheduled_below before most few

-- ids of entries ascend, the oldest first
pub scheduled_ascend : (events : List DowntimeEvent) → Ascend (λ (one : Scheduled). one.id) 0 (reverse (scheduled_in 1 events))
scheduled_ascend [] = tt
scheduled_ascend (downtime.Schedule moment object plan ∷ before) =
    let older = scheduled_in 1 before in
    let one : Scheduled = record { id = 1 + length older; object = object; plan = plan; moment = moment } in
    subst (Ascend (λ (other : Scheduled). other.id) 0) (sym (reverse-append (one ∷ []) older))
    (ascend_more (λ (other : Scheduled). other.id) 0 (reverse older) one (scheduled_ascend before)
    (each_reverse (λ (other : Scheduled). other.id < 1 + length older) older (scheduled_below before (1 + length older) (omega arith)))
    (omega arith))
scheduled_ascend (downtime.Delete moment id ∷ before) = scheduled_ascend before
scheduled_ascend (downtime.Transition moment place ∷ before) = scheduled_ascend before

-- ---- rows with ids

-- the object of these names stands at a place
pub record IsOnTable (table : List ObjectLine) (row : NamedView) : Type 0 where
  pub place : ℕ
  pub found : place_on table row.host row.service ≡ Some place

pub ids_sound : (table : List ObjectLine) (last : ℕ) (rows : List NamedView) → Ascend (λ (row : NamedView). row.id) last rows
    → AllByRecursion (IsOnTable table) rows → AllByRecursion (λ fault. fault ≡ None) (id_faults table last rows)
ids_sound table last [] ascend all = tt
ids_sound table last (row ∷ rows) ascend all = (
  ap (λ (found : Option ℕ). if is_none found then Some NoSuchObject else (if nat_lt last row.id then None else Some WrongOrder)) all.0.found
      ∙ ap (λ (above : Bool). if above then None else Some WrongOrder) (lt-ltb last row.id ascend.0),
  ids_sound table row.id rows ascend.1 all.1,
)
