-- What became of a form for each of its marks.
use Rattle.std.proofs.Common.{◌≡◌, inl, ℕ, Result, ◌+◌, ◌<◌, ◌≤◌, List, [], ◌∷◌, ◌++◌, length, map, get_or, drop, sym, subst, append_assoc, append-nil, zero, suc, refl, arith}
use Rattle.std.proofs.lemmas.List.{drop_more, drop_all}
use Rattle.std.specs.Borrow.{Bor}
use Rattle.http.specs.declared.request.Request.{Request}
use Rattle.http_server.specs.declared.response.Response.{Response}
use Rattle.page_watching.specs.declared.watching.Seen.{Seen}
use Rattle.page_watching.specs.Watching.{seen_place}
use Rattle.desk_forms.specs.declared.admitting.AdmitFault.{AdmitFault}
use Rattle.desk_forms.specs.Sender.{Sender}
use Rattle.desk_forms.specs.Marks.{marks_of, sender_for}
use Rattle.statusdesk.specs.declared.commanding.Done.{Done}
use Rattle.statusdesk.specs.Posted.{PostedView}
use Rattle.statusdesk.specs.Taking.{all_posted}
use Rattle.statusdesk.specs.Objects.{DeskView}
use Rattle.statusdesk.specs.Commanding.{AreDone, IsTested}
use Rattle.statusdesk.specs.Said.{said_of_marks}
use Rattle.statusdesk.specs.Marking.{AreMarked, AreCarriedOut, ReportsMarks, IsMarked, marks_code, query_of, IsMarksAnswerTo, IsCommandsAnswer}

-- the texts of these marks
abbrev pub texts_in : List (Bor (List ℕ)) → List (List ℕ)
texts_in marks = map (λ (mark : Bor (List ℕ)). mark.now) marks

-- what stands in a list doesn't depend on what would stand beyond it
pub same_read : {X : Type 0} (list : List X) (index : ℕ) (one other : X) → index < length list → get_or list index one ≡ get_or list index other
same_read [] index one other inside = absurd (omega (arith, inside))
same_read (x ∷ list) zero one other inside = refl
same_read (x ∷ list) (suc index) one other inside = same_read list index one other (omega (arith, inside))

module _ (clock : ℕ) (form : Sender) (seen : List Seen) (marks : List (Bor (List ℕ))) where
  -- what these are of the marks from this index on makes all of them what they are of the marks
  abbrev pub IsLeft : ℕ → List (List Done) → Type 0
  IsLeft index all =
      (rest : List (List Done)) → AreMarked clock form seen (texts_in (drop index marks)) rest
      → AreMarked clock form seen (texts_in marks) (all ++ rest)

  pub mark_step : (index : ℕ) (mark : Bor (List ℕ)) (all : List (List Done)) (done : List Done)
      → index < length marks → mark ≡ get_or marks index mark → AreDone clock (sender_for mark.now form) seen done
      → IsLeft index all → IsLeft (index + 1) (all ++ done ∷ [])
  mark_step index mark all done inside read is so_far = λ more rest.
      subst (λ (whole : List (List Done)). AreMarked clock form seen (texts_in marks) whole) (sym (append_assoc all (done ∷ []) more))
      (so_far (done ∷ more)
      (subst (λ (left : List (Bor (List ℕ))). AreMarked clock form seen (texts_in left) (done ∷ more)) (sym (drop_more marks index mark inside))
      (subst (λ (one : Bor (List ℕ)). AreDone clock (sender_for one.now form) seen done) read is, rest)))

  pub mark_all : (index : ℕ) (all : List (List Done)) → length marks ≤ index → IsLeft index all
      → AreMarked clock form seen (texts_in marks) all
  mark_all index all over so_far =
      subst (λ (whole : List (List Done)). AreMarked clock form seen (texts_in marks) whole) (append-nil all)
      (so_far [] (subst (λ (left : List (Bor (List ℕ))). AreMarked clock form seen (texts_in left) []) (sym (drop_all index marks over)) tt))

-- the form was carried out for the marks that it has
pub marked : (desk : DeskView) (clock : ℕ) (form : Sender) (seen : List Seen) (query : List ℕ) (marks : List (List ℕ)) (all : List (List Done))
    (taken : List PostedView) (response : Response)
    → map seen_place seen ≡ desk.places → marks ≡ marks_of form.fields → AreMarked clock form seen marks all → taken ≡ all_posted all
    → ReportsMarks desk clock seen form.user query (said_of_marks seen marks all) (marks_code all) response
    → IsMarked desk clock form query taken response
marked desk clock form seen query marks all taken response at are each these reported =
    let carried : AreCarriedOut desk clock form seen query taken response = record {
      all = all;
      each = subst (λ (marks : List (List ℕ)). AreMarked clock form seen marks all) are each;
      taken_are = these;
      reported = subst
          (λ (marks : List (List ℕ)). ReportsMarks desk clock seen form.user query (said_of_marks seen marks all) (marks_code all) response)
          are reported;
    } in
    (seen, at, inl carried)

-- what is answered to a tested request, by the query that it has
pub answered : (desk : DeskView) (clock : ℕ) (request : Request (List ℕ)) (query : List ℕ) (tested : Result Sender AdmitFault)
    (taken : List PostedView) (response : Response)
    → query ≡ query_of request → IsTested desk.guard clock request tested → IsMarksAnswerTo desk clock query tested taken response
    → IsCommandsAnswer desk clock request taken response
answered desk clock request query tested taken response asked test is =
    (tested, test, subst (λ (query : List ℕ). IsMarksAnswerTo desk clock query tested taken response) asked is)
