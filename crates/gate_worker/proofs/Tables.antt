-- The table of a worker's connections agrees with the pieces that were served.
use Rattle.std.proofs.Common.{◌≡◌, ℕ, zero, suc, ◌+◌, ◌<◌, Bool, true, false, List, [], ◌∷◌, ◌++◌, length, get_or, set, refl, sym, ap, ◌∙◌, arith}
use Rattle.std.specs.Prelude.{◌==◌, if◌then◌else◌}
use Rattle.std.proofs.lemmas.Bool.{eqb-true, eqb-false}
use Rattle.std.proofs.lemmas.List.{get_or-set_same, get_or-set_other}
use Rattle.std.specs.List.{list_any}
use Rattle.gate_reader.specs.declared.report.Answer.{Answer}
use Rattle.gate_reader.specs.declared.report.Answer.TheVariants.{Queued, Full, Spent, Closing, Stale, EmptyHost, Bad, Down}
use Rattle.gate_worker.specs.inner.Serving.{is_queued}
use Rattle.gate_reader.specs.declared.report.SessionLimits.{SessionLimits}
use Rattle.gate_worker.specs.Work.{ServedPiece, limits_of, left_after, has_queued, was_counted, counted_after, count_of, counted_connections}
use Rattle.gate_worker.specs.inner.Progress.{progress, whole, progress_at, progress_before, progress_after, IsAsBefore, left_after_all, counted_after_all, AgreesWith}
use Rattle.gate_worker.specs.declared.progress.Progress.{Progress}
use Rattle.gate_worker.specs.declared.progress.ProgressTable.{ProgressTable}

-- ---- answers

pub any_queued : (answers : List Answer) → list_any is_queued answers ≡ has_queued answers
any_queued [] = refl
any_queued (Queued number ∷ answers) = refl
any_queued (Full ∷ answers) = any_queued answers
any_queued (Spent ∷ answers) = any_queued answers
any_queued (Closing moment ∷ answers) = any_queued answers
any_queued (Stale ∷ answers) = any_queued answers
any_queued (EmptyHost ∷ answers) = any_queued answers
any_queued (Bad cause ∷ answers) = any_queued answers
any_queued (Down moment ∷ answers) = any_queued answers

-- ---- one piece more

pub left_next : (left : ℕ → SessionLimits) (pieces : List ServedPiece) (piece : ServedPiece) (place : ℕ)
    → left_after_all left (pieces ++ piece ∷ []) place ≡ left_after (left_after_all left pieces) piece place
left_next left [] piece place = refl
left_next left (first ∷ pieces) piece place = left_next (left_after left first) pieces piece place

counted_next : (counted : ℕ → Bool) (pieces : List ServedPiece) (piece : ServedPiece) (place : ℕ)
    → counted_after_all counted (pieces ++ piece ∷ []) place ≡ counted_after (counted_after_all counted pieces) piece place
counted_next counted [] piece place = refl
counted_next counted (first ∷ pieces) piece place = counted_next (counted_after counted first) pieces piece place

connections_next : (counted : ℕ → Bool) (pieces : List ServedPiece) (piece : ServedPiece)
    → counted_connections counted (pieces ++ piece ∷ [])
    ≡ counted_connections counted pieces + count_of (was_counted (counted_after_all counted pieces) piece) (has_queued piece.report.answers)
connections_next counted [] piece = omega arith
connections_next counted (first ∷ pieces) piece =
    let rest = connections_next (counted_after counted first) pieces piece in
    omega arith

-- ---- the table

pub agrees_none : (session : SessionLimits) (table : ProgressTable) → table.session ≡ session → table.entries.items ≡ [] → table.counted ≡ 0
    → AgreesWith session table []
agrees_none session table same none counted = record {
  session_is = same;
  entries_are = λ place. ap (λ (l : List Progress). progress_at table.session l place) none ∙ ap whole same;
  counted_is = counted;
}

-- a table that says the same
pub agrees_same : (session : SessionLimits) (old new : ProgressTable) (pieces : List ServedPiece) → IsAsBefore old new
    → AgreesWith session old pieces → AgreesWith session new pieces
agrees_same session old new pieces same a = record {
  session_is = same.session ∙ a.session_is;
  entries_are = λ place. same.entries place ∙ a.entries_are place;
  counted_is = same.counted ∙ a.counted_is;
}

-- a table that is longer, by an entry of which nothing was served
at_push : {X : Type 0} (entries : List X) (default : X) (place : ℕ) → get_or (entries ++ default ∷ []) place default ≡ get_or entries place default
at_push [] default zero = refl
at_push [] default (suc place) = refl
at_push (entry ∷ entries) default zero = refl
at_push (entry ∷ entries) default (suc place) = at_push entries default place

pub as_before_longer : (old middle new : ProgressTable) → IsAsBefore old middle → new.session ≡ middle.session → new.counted ≡ middle.counted
    → new.entries.items ≡ middle.entries.items ++ whole middle.session ∷ [] → IsAsBefore old new
as_before_longer old middle new b session counted entries = record {
  session = session ∙ b.session;
  counted = counted ∙ b.counted;
  entries = λ place. ap (λ (s : SessionLimits). progress_at s new.entries.items place) session
      ∙ ap (λ (l : List Progress). progress_at middle.session l place) entries
      ∙ at_push middle.entries.items (whole middle.session) place ∙ b.entries place;
}

pub as_before_same : (table : ProgressTable) → IsAsBefore table table
as_before_same table = record { session = refl; counted = refl; entries = λ place. refl }

pub as_before_on : (old middle new : ProgressTable) → IsAsBefore old middle → IsAsBefore middle new → IsAsBefore old new
as_before_on old middle new b c = record {
  session = c.session ∙ b.session;
  counted = c.counted ∙ b.counted;
  entries = λ place. c.entries place ∙ b.entries place;
}

-- what it says of a connection before a piece
before_of : (is_first : Bool) (session whole_session left : SessionLimits) (counted : Bool) (entries : List Progress) (place : ℕ)
    → whole_session ≡ session → progress_at whole_session entries place ≡ progress left counted
    → progress_before whole_session entries is_first place ≡ progress (if is_first then session else left) (if is_first then false else counted)
before_of true session whole_session left counted entries place same entry = ap whole same
before_of false session whole_session left counted entries place same entry = entry

pub before_piece : (session : SessionLimits) (table : ProgressTable) (pieces : List ServedPiece) (piece : ServedPiece) (before : Progress)
    → AgreesWith session table pieces → before ≡ progress_before table.session table.entries.items piece.is_first piece.place
    → before ≡ progress (limits_of session (left_after_all (λ other. session) pieces) piece) (was_counted (counted_after_all (λ other. false) pieces) piece)
before_piece session table pieces piece before a is =
    is ∙ before_of piece.is_first session table.session _ _ table.entries.items piece.place a.session_is (a.entries_are piece.place)

entry_set : (here : Bool) (entries : List Progress) (place other : ℕ) (entry default : Progress) → (other == place) ≡ here → place < length entries
    → get_or (set entries place entry) other default ≡ (if here then entry else get_or entries other default)
entry_set true entries place other entry default e in' =
    let same : other ≡ place = eqb-true other place e in
    ap (λ (n : ℕ). get_or (set entries place entry) n default) same ∙ get_or-set_same entries place entry default in'
entry_set false entries place other entry default e in' = get_or-set_other entries place other entry default (eqb-false other place e)

progress_if : (here : Bool) (entry : Progress) (left other_left : SessionLimits) (counted other_counted : Bool) → entry ≡ progress left counted
    → (if here then entry else progress other_left other_counted) ≡ progress (if here then left else other_left) (if here then counted else other_counted)
progress_if true entry left other_left counted other_counted e = e
progress_if false entry left other_left counted other_counted e = refl

-- the table after a piece
pub agrees_next : (session : SessionLimits) (old new : ProgressTable) (pieces : List ServedPiece) (piece : ServedPiece) (before : Progress) (queued : Bool)
    → AgreesWith session old pieces → before ≡ progress_before old.session old.entries.items piece.is_first piece.place
    → queued ≡ has_queued piece.report.answers → piece.place < length old.entries.items
    → new.entries.items ≡ set old.entries.items piece.place (progress_after before piece.left queued)
    → new.session ≡ old.session → new.counted ≡ old.counted + count_of before.is_counted queued
    → AgreesWith session new (pieces ++ piece ∷ [])
agrees_next session old new pieces piece before queued a is had in' entries same counted =
    let left = left_after_all (λ (other : ℕ). session) pieces in
    let were = counted_after_all (λ (other : ℕ). false) pieces in
    let b = before_piece session old pieces piece before a is in
    let was : before.is_counted ≡ was_counted were piece = ap (λ (p : Progress). p.is_counted) b in
    let entry : progress_after before piece.left queued ≡ progress piece.left (if was_counted were piece then true else has_queued piece.report.answers) =
    ap (λ (c : Bool). progress piece.left (if c then true else queued)) was ∙ ap (λ (q : Bool). progress piece.left (if was_counted were piece then true else q)) had in
    record {
      session_is = same ∙ a.session_is;
      entries_are = λ place.
          ap (λ (l : List Progress). progress_at new.session l place) entries
          ∙ ap (λ (s : SessionLimits). progress_at s (set old.entries.items piece.place (progress_after before piece.left queued)) place) same
          ∙ entry_set (place == piece.place) old.entries.items piece.place place (progress_after before piece.left queued) (whole old.session) refl in'
          ∙ ap (λ (p : Progress). if place == piece.place then progress_after before piece.left queued else p) (a.entries_are place)
          ∙ progress_if (place == piece.place) (progress_after before piece.left queued) piece.left (left place) _ (were place) entry
          ∙ ap (λ (s : SessionLimits). progress s (counted_after were piece place)) (sym (left_next (λ (other : ℕ). session) pieces piece place))
          ∙ ap (λ (c : Bool). progress (left_after_all (λ (other : ℕ). session) (pieces ++ piece ∷ []) place) c) (sym (counted_next (λ (other : ℕ). false) pieces piece place));
      counted_is = counted ∙ ap (λ (n : ℕ). n + count_of before.is_counted queued) a.counted_is
          ∙ ap (λ (c : Bool). counted_connections (λ (other : ℕ). false) pieces + count_of c queued) was
          ∙ ap (λ (q : Bool). counted_connections (λ (other : ℕ). false) pieces + count_of (was_counted were piece) q) had
          ∙ sym (connections_next (λ (other : ℕ). false) pieces piece);
    }
