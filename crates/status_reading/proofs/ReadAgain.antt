-- The text of a page that was read is read as that page again: `read_again`.
use Rattle.std.proofs.Common.{◌≡◌, ℕ, Bool, true, false, List, Option, Some, None, is_none, Result, Ok, Err, refl, sym, ap, ◌∙◌, subst}
use Rattle.std.specs.Prelude.{MatchResult}
use Rattle.std.specs.Coded.{Coded-set, coded_bool}
use Rattle.std.proofs.Math.Logic.{∥∥₁_elim}
use Rattle.std.proofs.Props.{props}
use Rattle.gate_table.specs.Faults.{fault_at}
use Rattle.status_reading.specs.declared.page.StatusPage.{StatusPage}
use Rattle.status_reading.specs.declared.page.ReadFault.{ReadFault}
use Rattle.status_reading.specs.declared.page.ReadFault.TheVariants.{NoStatus, BadLine, BadRow, OutOfMemory}
use Rattle.status_reading.specs.Rows.{PageView, page_view}
use Rattle.status_reading.specs.RowFaults.{table_of, first_from, row_faults, IsSound}
use Rattle.status_reading.specs.Faults.{IsFaultOf}
use Rattle.status_reading.specs.Text.{IsTextOf, IsRead}
use Rattle.status_reading.specs.inner.Reading.{IsPageOf}
use Rattle.status_reading.proofs.SamePages.{same_page, faultless}

-- ---- facts as tests, which have one proof

none_is : {A : Type 0} (found : Option A) → is_none found ≡ true → found ≡ None
none_is None is = refl
none_is (Some one) is = cc

abbrev is_memory : ReadFault → Bool
is_memory OutOfMemory = true
is_memory fault = false

memory_is : (fault : ReadFault) → is_memory fault ≡ true → fault ≡ OutOfMemory
memory_is NoStatus is = cc
memory_is (BadLine number) is = cc
memory_is (BadRow line why) is = cc
memory_is OutOfMemory is = refl

-- ---- the page

module _ (text : List ℕ) (read : ∥ IsRead text ∥₁) where
  sound_again : (found : PageView) → IsPageOf text found → IsSound found
  sound_again found of =
      let known : IsRead text → IsSound found =
      λ known. subst IsSound (same_page known.0 found known.1.readable of.readable (sym known.1.written ∙ of.whole)) known.1.sound in
      record {
        table = record {
          few = ∥∥₁_elim read (search props) (λ page. (known page).table.few);
          each = λ i. none_is (fault_at (table_of found) i)
              (∥∥₁_elim read (Coded-set coded_bool _ _) (λ page. ap is_none ((known page).table.each i)));
        };
        rows = none_is (first_from 2 (row_faults (table_of found) found))
            (∥∥₁_elim read (Coded-set coded_bool _ _) (λ page. ap is_none (known page).rows));
      }

  pub read_again : (result : Result StatusPage ReadFault)
      → MatchResult result (λ page. IsPageOf text (page_view page)) (IsFaultOf text)
      → MatchResult result (λ page. IsTextOf text (page_view page)) (λ fault. fault ≡ OutOfMemory)
  read_again (Ok found) of =
      record { written = of.whole; readable = of.readable; sound = sound_again (page_view found) of }
  read_again (Err fault) of =
      memory_is fault
      (∥∥₁_elim read (Coded-set coded_bool _ _)
      (λ known. ap is_memory (faultless text fault known.0 of known.1.readable known.1.sound known.1.written)))
