-- For proofs and private functions alone: the arguments of the functions that write gauges.
use Rattle.std.specs.Prelude.{ℕ, List, map, length, is_some}
use Rattle.std.specs.Borrow.{Bor}
use Rattle.std.specs.Int.{from_bool}
use Rattle.status_reading.specs.declared.page.StatusPage.{StatusPage}
use Rattle.status_export.specs.declared.metrics.PageNumber.{PageNumber}
use Rattle.status_export.specs.declared.metrics.PageNumber.TheVariants as number
use Rattle.status_export.specs.Gauges.{Sample}

-- the names and values that these references point to
abbrev pub labels_of : List (Bor (List ℕ) × Bor (List ℕ)) → List (List ℕ × List ℕ)
labels_of labels = map (λ (label : Bor (List ℕ) × Bor (List ℕ)). (label.0.now, label.1.now)) labels

-- a sample with these labels
abbrev pub sample_of : List (Bor (List ℕ) × Bor (List ℕ)) → ℕ → Sample
sample_of labels number = record { labels = labels_of labels; number = number }

-- a number of a page
abbrev pub page_number : PageNumber → StatusPage → ℕ
page_number number.Moment page = page.moment
page_number number.Closing page = from_bool (is_some page.closing)
page_number number.Objects page = length page.objects.items
page_number number.Comments page = length page.comments.items
page_number number.Downtimes page = length page.downtimes.items
