-- Which rows of a kept page another page doesn't show again: `missing_objects`, `missing_comments`, `missing_downtimes`;
-- and that it shows all of them: `IsShownAgain`. Own rule.
use Rattle.std.specs.Prelude.{◌≡◌, ◌⊎◌, ℕ, ◌+◌, Bool, true, List, [], ◌∷◌, Option, Some, None, if◌then◌else◌}
use Rattle.status_reading.specs.declared.page.StatusPage.{StatusPage}
use Rattle.page_return.specs.declared.comparing.Missing.{Missing}
use Rattle.page_return.specs.Again.{is_same_object, is_same_comment, is_same_downtime}

-- what stands after the first row that is the same as this one
abbrev pub after_same : {A : Type 0} → (A → A → Bool) → A → List A → Option (List A)
after_same same row [] = None
after_same same row (one ∷ others) = if same row one then Some others else after_same same row others

-- the indexes of the kept rows, of which the first has this one, that no row after those before it is the same as
abbrev pub missing_from : {A : Type 0} → (A → A → Bool) → ℕ → List A → List A → List ℕ
missing_from same index [] shown = []
missing_from same index (row ∷ rows) shown = elim (after_same same row shown) [
  | None ↦ index ∷ missing_from same (index + 1) rows shown
  | Some rest ↦ missing_from same (index + 1) rows rest
]

-- the indexes of the objects that are missing
abbrev pub missing_objects : StatusPage → StatusPage → List ℕ
missing_objects kept shown = missing_from is_same_object 0 kept.objects.items shown.objects.items

-- those of the comments
abbrev pub missing_comments : StatusPage → StatusPage → List ℕ
missing_comments kept shown = missing_from is_same_comment 0 kept.comments.items shown.comments.items

-- those of the downtime entries
abbrev pub missing_downtimes : StatusPage → StatusPage → List ℕ
missing_downtimes kept shown = missing_from is_same_downtime 0 kept.downtimes.items shown.downtimes.items

-- none is missing
pub record IsNone (found : Missing) : Type 0 where
  pub objects : found.objects.items ≡ []
  pub comments : found.comments.items ≡ []
  pub downtimes : found.downtimes.items ≡ []

-- each kept row is the same as one of the shown rows, and these stand in the order of the kept ones
abbrev pub AreAmong : {A : Type 0} → (A → A → Bool) → List A → List A → Type 0
AreAmong same [] shown = Unit {0}
AreAmong same (row ∷ rows) [] = ⊥
AreAmong same (row ∷ rows) (one ∷ others) =
    ((same row one ≡ true) × AreAmong same rows others) ⊎ AreAmong same (row ∷ rows) others

-- the page shows each kept row again, in the order of the kept page
pub record IsShownAgain (kept shown : StatusPage) : Type 0 where
  pub objects : AreAmong is_same_object kept.objects.items shown.objects.items
  pub comments : AreAmong is_same_comment kept.comments.items shown.comments.items
  pub downtimes : AreAmong is_same_downtime kept.downtimes.items shown.downtimes.items
