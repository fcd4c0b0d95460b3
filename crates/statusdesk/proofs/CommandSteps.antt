-- What became of a form at a gateway.
use Rattle.std.proofs.Common.{◌≡◌, ℕ, ◌+◌, ◌<◌, ◌≤◌, Bool, true, false, if◌then◌else◌, List, [], ◌∷◌, ◌++◌, length, map, get_or, drop, inl, inr, refl, sym, subst, append_assoc, append-nil}
use Rattle.std.proofs.lemmas.Bool.{cases_Bool}
use Rattle.std.proofs.lemmas.List.{drop_more, drop_all}
use Rattle.gate_model.specs.declared.record.Moment.{Moment}
use Rattle.status_reading.specs.Rows.{PageView}
use Rattle.http_server.specs.declared.response.Response.{Response}
use Rattle.page_watching.specs.declared.watching.Seen.{Seen}
use Rattle.page_watching.specs.Watching.{seen_place}
use Rattle.desk_forms.specs.declared.requests.FormFault.TheVariants as fault
use Rattle.desk_forms.specs.Sender.{Sender}
use Rattle.desk_forms.proofs.FaultSteps.{no_object_lacks, no_entry_lacks}
use Rattle.desk_sending.specs.declared.orders.Objection.{Objection}
use Rattle.desk_sending.specs.declared.orders.Objection.TheVariants as objection
use Rattle.desk_sending.specs.Orders.{is_asked, IsObjection}
use Rattle.desk_outbox.specs.Labels.{LabelledView, IsLabelledOf}
use Rattle.statusdesk.specs.declared.commanding.Done.{Done}
use Rattle.statusdesk.specs.declared.commanding.Done.TheVariants.{NotAsked, Objected, Untaken, Taken}
use Rattle.statusdesk.specs.Posted.{PostedView}
use Rattle.statusdesk.specs.Kept.{IsKeptOf}
use Rattle.statusdesk.specs.Taking.{posted_in}
use Rattle.statusdesk.specs.Objects.{DeskView}
use Rattle.statusdesk.specs.Commanding.{is_elsewhere, IsElsewhere, IsDone, AreDone, first_code, Reports, IsCommanded}
use Rattle.statusdesk.specs.inner.Carrying.{IsPosted, objected}

-- ---- a page that doesn't show what a form names

module _ (page : PageView) (now : Moment) (form : Sender) where
  elsewhere : (why : Objection) → IsObjection page now form why → is_elsewhere why ≡ true → IsElsewhere page form
  elsewhere (objection.Form fault.NoObject) is away = inl (no_object_lacks page now form is)
  elsewhere (objection.Form fault.NoEntry) is away = inr (no_entry_lacks page now form is)
  elsewhere (objection.Form fault.NoAction) is away = cc
  elsewhere (objection.Form fault.NoText) is away = cc
  elsewhere (objection.Form fault.NoMarks) is away = cc
  elsewhere (objection.Form fault.TooManyMarks) is away = cc
  elsewhere (objection.Form (fault.Request cause)) is away = cc
  elsewhere (objection.Form fault.OutOfMemory) is away = cc
  elsewhere (objection.Refused body outcome) is away = cc
  elsewhere (objection.Unwritable body) is away = cc
  elsewhere objection.OutOfMemory is away = cc

module _ (clock : ℕ) (form : Sender) (seen : Seen) (page : PageView)
    (asked : is_asked seen.place.name.now form.fields ≡ true) (kept : IsKeptOf seen page) where
  -- a page objects to a form
  pub objected_done : (why : Objection) → IsObjection page (record { 0 = clock }) form why
      → IsDone clock form seen (objected why)
  objected_done why is = elim (cases_Bool (is_elsewhere why)) [
    | inl away ↦
        subst (λ (is_there : Bool). IsDone clock form seen (if is_there then NotAsked else Objected why)) (sym away)
        (inr (inr (page, kept, elsewhere page (record { 0 = clock }) form why is away)))
    | inr here ↦
        subst (λ (is_there : Bool). IsDone clock form seen (if is_there then NotAsked else Objected why)) (sym here)
        (asked, (here, inr (page, kept, is)))
  ]

  -- its order was put into an outbox
  pub posted_done : (order : LabelledView) (done : Done) → IsLabelledOf page (record { 0 = clock }) form order
      → IsPosted seen.place.name.now order done → IsDone clock form seen done
  posted_done order NotAsked is posted = absurd posted
  posted_done order (Objected why) is posted =
      (asked, (subst (λ (why : Objection). is_elsewhere why ≡ false) (sym posted) refl, inl posted))
  posted_done order (Untaken cause) is posted =
      (order, record { asked = asked; page = page; kept = kept; labelled = is })
  posted_done order (Taken other) is posted =
      subst (λ (one : PostedView). IsDone clock form seen (Taken one)) (sym posted)
      (refl, record { asked = asked; page = page; kept = kept; labelled = is })

-- ---- each gateway

pub done_step : (clock : ℕ) (form : Sender) (gateways : List Seen) (index : ℕ) (seen : Seen) (all more : List Done) (done : Done)
    → index < length gateways → seen ≡ get_or gateways index seen → IsDone clock form seen done
    → ((rest : List Done) → AreDone clock form (drop index gateways) rest → AreDone clock form gateways (all ++ rest))
    → AreDone clock form (drop (index + 1) gateways) more → AreDone clock form gateways ((all ++ done ∷ []) ++ more)
done_step clock form gateways index seen all more done inside read is so_far rest =
    subst (λ (whole : List Done). AreDone clock form gateways whole) (sym (append_assoc all (done ∷ []) more))
    (so_far (done ∷ more)
    (subst (λ (left : List Seen). AreDone clock form left (done ∷ more)) (sym (drop_more gateways index seen inside))
    (subst (λ (at : Seen). IsDone clock form at done) read is, rest)))

pub done_all : (clock : ℕ) (form : Sender) (gateways : List Seen) (index : ℕ) (all : List Done) → length gateways ≤ index
    → ((rest : List Done) → AreDone clock form (drop index gateways) rest → AreDone clock form gateways (all ++ rest))
    → AreDone clock form gateways all
done_all clock form gateways index all over so_far =
    subst (λ (whole : List Done). AreDone clock form gateways whole) (append-nil all)
    (so_far [] (subst (λ (left : List Seen). AreDone clock form left []) (sym (drop_all index gateways over)) tt))

-- the form was carried out at the gateways
pub commanded : (desk : DeskView) (clock : ℕ) (form : Sender) (seen : List Seen) (all : List Done) (taken : List PostedView)
    (response : Response)
    → map seen_place seen ≡ desk.places → AreDone clock form seen all → taken ≡ posted_in all
    → Reports desk clock form seen all (first_code all) response → IsCommanded desk clock form taken response
commanded desk clock form seen all taken response at each these reported =
    record { seen = seen; all = all; at = at; each = each; taken_are = these; reported = reported }
