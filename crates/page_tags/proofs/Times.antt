-- Spans and moments keep the tokenizer's place.
use Rattle.std.proofs.Common.{◌≡◌, ℕ, false, ◌/◌, ◌%◌, List, Some, refl}
use Rattle.std.specs.Prelude.{codes}
use Rattle.std.specs.List.{list_any}
use Rattle.html_text.specs.Escaping.{is_markup}
use Rattle.status_view.specs.Calendar.{month_of, day_of}
use Rattle.status_view.specs.Times.{span_nodes, two_digits, date_nodes, clock_nodes, instant_nodes, time_nodes}
use Rattle.page_tags.specs.Tags.{Place, InText, InDouble}
use Rattle.page_tags.proofs.Placing.{run, plain, joined, run_if, same}

pub span : (place : Place) (seconds : ℕ) → run place (span_nodes seconds) ≡ Some place
unfolding span_nodes
span place seconds = simp (run_if, same, plain place (codes " s") refl, plain place (codes " min") refl, plain place (codes " h") refl, plain place (codes " d") refl)

two : (place : Place) (number : ℕ) → run place (two_digits number) ≡ Some place
unfolding two_digits
two place number = simp (run_if, same, plain place (codes "0") refl)

date : (place : Place) (day : ℕ) → run place (date_nodes day) ≡ Some place
unfolding date_nodes
date place day = simp (joined, two place (month_of day), plain place (codes "-") refl, two place (day_of day))

clock : (place : Place) (second : ℕ) → run place (clock_nodes second) ≡ Some place
unfolding clock_nodes
clock place second = simp (joined, two place (second / 3600), two place (second / 60 % 60), two place (second % 60), plain place (codes ":") refl, plain place (codes "Z") refl)

pub instant : (place : Place) (between : List ℕ) (moment : ℕ) → list_any is_markup between ≡ false → run place (instant_nodes between moment) ≡ Some place
unfolding instant_nodes
instant place between moment is = simp (joined, date place (moment / 86400), plain place between is, clock place (moment % 86400))

pub time : (moment : ℕ) → run InText (time_nodes moment) ≡ Some InText
unfolding time_nodes
time moment = simp (joined, instant InDouble (codes " ") moment refl, instant InText (codes " ") moment refl)
