-- The numbers that reports answer with Queued, and the numbers of items. Own rule: the items of each client are
-- numbered from 1.
use Rattle.std.specs.Prelude.{ℕ, zero, suc, List, [], ◌∷◌, ◌++◌, map}
use Rattle.gate_model.specs.declared.submission.Numbered.{Numbered}
use Rattle.gate_reader.specs.declared.report.Answer.{Answer}
use Rattle.gate_reader.specs.declared.report.Answer.TheVariants.{Queued}
use Rattle.gate_reader.specs.declared.report.Report.{Report}

-- the item's number, if the answer is Queued
abbrev pub number_in : Answer → List ℕ
number_in (Queued number) = number ∷ []
number_in _ = []

-- the numbers that are answered with Queued, in order
abbrev pub queued_numbers : List Answer → List ℕ
queued_numbers [] = []
queued_numbers (answer ∷ answers) = number_in answer ++ queued_numbers answers

-- the numbers that reports answer with Queued, in order
abbrev pub reported_numbers : List Report → List ℕ
reported_numbers [] = []
reported_numbers (report ∷ reports) = queued_numbers report.answers ++ reported_numbers reports

-- the items' numbers, in order
abbrev pub item_numbers : List Numbered → List ℕ
item_numbers items = map (λ item. item.number) items

-- so many numbers after this one, in order
abbrev pub numbers_after : ℕ → ℕ → List ℕ
numbers_after number zero = []
numbers_after number (suc count) = suc number ∷ numbers_after (suc number) count
