-- A page that is read line by line.
use Rattle.std.proofs.Common.{◌≡◌, ℕ, ◌+◌, ◌<◌, false, List, [], ◌∷◌, ◌++◌, length, refl, sym, ap, subst, ◌∙◌, arith, append-nil, append_assoc}
use Rattle.std.specs.Prelude.{codes}
use Rattle.std.specs.List.{flat_map, AllByRecursion}
use Rattle.std.specs.Fmt.{decimal}
use Rattle.std.proofs.lemmas.Grind.{flat_map-append}
use Rattle.std.proofs.lemmas.List.{append_cancel_left, length-append}
use Rattle.gate_grammar.specs.Canonical.{body_text}
use Rattle.gate_grammar.specs.Spelling.{holds}
use Rattle.status_reading.specs.Readable.{Fits}
use Rattle.status_reading.proofs.CutSteps.{never_holds, same_cut, none_together}
use Rattle.status_reading.proofs.FaultSteps.{number_in_line}
use Rattle.status_reading.proofs.BoardFields.{text_in_line}
use Rattle.status_reading.proofs.SameRows.{same_number}
use Rattle.log_reading.specs.declared.logged.Logged.{Logged}
use Rattle.log_reading.specs.declared.logged.Logged.TheVariants.{Accepted, Refused}
use Rattle.log_reading.specs.Log.{logged_line, logged_text, IsReadable, AreReadable}
use Rattle.log_reading.specs.Faults.{first_line, GoesOn, IsExtraLine}
use Rattle.log_reading.specs.inner.Lines.{view_of, content}
use Rattle.log_reading.proofs.LineSteps.{whole_of, content_in_line, stamp_fits}

-- ---- the first line

first_in_line : (count : ℕ) → Fits count → holds 10 (codes "log " ++ decimal count) ≡ false
first_in_line count fits = none_together 10 (codes "log ") (decimal count) refl (number_in_line count fits)

pub first_parts : (text line rest : List ℕ) → text ≡ line ++ 10 ∷ rest → holds 10 line ≡ false → (count : ℕ) (after : List ℕ) → Fits count
    → text ≡ first_line count ++ after → (line ≡ codes "log " ++ decimal count) × (rest ≡ after)
first_parts text line rest is clean count after fits same =
    same_cut 10 line rest (codes "log " ++ decimal count) after clean (first_in_line count fits)
    (sym is ∙ same ∙ append_assoc (codes "log " ++ decimal count) (10 ∷ []) after)

pub same_field : (line one other : List ℕ) → line ≡ codes "log " ++ one → line ≡ codes "log " ++ other → one ≡ other
same_field line one other is same = append_cancel_left (codes "log ") one other (sym is ∙ same)

pub first_whole : (text line rest field : List ℕ) (count : ℕ) → text ≡ line ++ 10 ∷ rest → line ≡ codes "log " ++ field → field ≡ decimal count
    → text ≡ first_line count ++ rest
first_whole text line rest field count is same number =
    is ∙ ap (λ front. front ++ 10 ∷ rest) (same ∙ ap (λ digits. codes "log " ++ digits) number)
    ∙ sym (append_assoc (codes "log " ++ decimal count) (10 ∷ []) rest)

-- ---- the line of a record

-- it holds one LF, at its end
command_in_line : (one : Logged) → holds 10 (view_of one).command ≡ false
command_in_line (Accepted applied) = text_in_line (body_text applied.item.body)
command_in_line (Refused one) = text_in_line one.command

one_in_line : (one : Logged) → IsReadable one → holds 10 (content (view_of one)) ≡ false
one_in_line one readable = content_in_line (view_of one) (stamp_fits one readable) (command_in_line one)

-- the line that was cut off is that of the first record
pub same_line : (one : Logged) (rest line after more : List ℕ) → IsReadable one → rest ≡ line ++ 10 ∷ after → holds 10 line ≡ false
    → rest ≡ logged_line one ++ more → (line ++ codes "\n" ≡ logged_line one) × (after ≡ more)
same_line one rest line after more readable whole clean is =
    let both = same_cut 10 line after (content (view_of one)) more clean (one_in_line one readable)
    (sym whole ∙ is ∙ ap (λ front. front ++ more) (whole_of one) ∙ append_assoc (content (view_of one)) (codes "\n") more)
    in
    (ap (λ front. front ++ codes "\n") both.0 ∙ sym (whole_of one), both.1)

-- a text without LF begins with no record's line
pub no_line : (one : Logged) (rest more : List ℕ) → rest ≡ logged_line one ++ more → holds 10 rest ≡ false → ⊥
no_line one rest more is clean =
    never_holds 10 (content (view_of one)) more rest
    (is ∙ ap (λ front. front ++ more) (whole_of one) ∙ append_assoc (content (view_of one)) (codes "\n") more) clean

-- ---- the records that were read so far, and the text that is left

-- of all records these are read, and the text is the lines of the others
pub record IsLeft (log : List Logged) (rest : List ℕ) (count : ℕ) (all : List Logged) : Type 0 where
  pub more : List Logged
  pub split : all ≡ log ++ more
  pub left : rest ≡ flat_map logged_line more
  pub each : AllByRecursion IsReadable more
  pub total : length all ≡ count

pub record IsSoFar (text : List ℕ) (count : ℕ) (log : List Logged) (rest : List ℕ) : Type 0 where
  pub so : GoesOn text count log rest
  pub all_left : (all : List Logged) → AreReadable all → text ≡ logged_text all → IsLeft log rest count all

pub none_so_far : (text : List ℕ) (count : ℕ) (rest : List ℕ) → Fits count → text ≡ first_line count ++ rest → IsSoFar text count [] rest
none_so_far text count rest fits is = record {
  so = record { fits = fits; whole = is ∙ ap (λ front. front ++ rest) (sym (append-nil (first_line count))) };
  all_left = λ all readable same.
      let both = first_parts text (codes "log " ++ decimal count) rest (is ∙ append_assoc (codes "log " ++ decimal count) (10 ∷ []) rest)
      (first_in_line count fits) (length all) (flat_map logged_line all) readable.few same
      in
      record {
        more = all;
        split = refl;
        left = both.1;
        each = readable.each;
        total = same_number (length all) count readable.few fits (sym (append_cancel_left (codes "log ") (decimal count) (decimal (length all)) both.0));
      };
}

-- ---- one more line

more_left : (log : List Logged) (rest line after : List ℕ) (count : ℕ) (all : List Logged) (one : Logged) (left : IsLeft log rest count all)
    → rest ≡ line ++ 10 ∷ after → holds 10 line ≡ false
    → ((other : Logged) → IsReadable other → line ++ codes "\n" ≡ logged_line other → one ≡ other)
    → length log < count → (more : List Logged) → left.more ≡ more → IsLeft (log ++ one ∷ []) after count all
more_left log rest line after count all one left whole clean only wanted [] is =
    absurd (omega (arith, left.total, ap length left.split, length-append log left.more, ap length is))
more_left log rest line after count all one left whole clean only wanted (first ∷ more) is =
    let each : AllByRecursion IsReadable (first ∷ more) = subst (AllByRecursion IsReadable) is left.each in
    let both = same_line first rest line after (flat_map logged_line more) each.0 whole clean (left.left ∙ ap (flat_map logged_line) is) in
    let same : one ≡ first = only first each.0 both.0 in
    record {
      more = more;
      split =
          left.split ∙ ap (λ list. log ++ list) is ∙ ap (λ (head : Logged). log ++ head ∷ more) (sym same)
          ∙ sym (append_assoc log (one ∷ []) more);
      left = both.1;
      each = each.1;
      total = left.total;
    }

pub one_so_far : (text : List ℕ) (count : ℕ) (log : List Logged) (rest line after : List ℕ) (one : Logged) → IsSoFar text count log rest
    → rest ≡ line ++ 10 ∷ after → holds 10 line ≡ false → line ++ codes "\n" ≡ logged_line one
    → ((other : Logged) → IsReadable other → line ++ codes "\n" ≡ logged_line other → one ≡ other)
    → length log < count → IsSoFar text count (log ++ one ∷ []) after
one_so_far text count log rest line after one far whole clean written only wanted =
    let lines = flat_map logged_line log in
    let added : flat_map logged_line (log ++ one ∷ []) ≡ lines ++ logged_line one =
    flat_map-append logged_line log (one ∷ []) ∙ ap (λ text. lines ++ text) (append-nil (logged_line one))
    in
    record {
      so = record {
        fits = far.so.fits;
        whole =
            far.so.whole
            ∙ ap (λ back. first_line count ++ lines ++ back) (whole ∙ sym (append_assoc line (codes "\n") after) ∙ ap (λ front. front ++ after) written)
            ∙ sym (append_assoc (first_line count ++ lines) (logged_line one) after)
            ∙ ap (λ front. front ++ after) (append_assoc (first_line count) lines (logged_line one))
            ∙ ap (λ back. first_line count ++ back ++ after) (sym added);
      };
      all_left = λ all readable same.
          let left = far.all_left all readable same in
          more_left log rest line after count all one left whole clean only wanted left.more refl;
    }

-- ---- where reading stops

cut_left : (log : List Logged) (rest : List ℕ) (count : ℕ) (all : List Logged) (left : IsLeft log rest count all) → holds 10 rest ≡ false
    → length log < count → (more : List Logged) → left.more ≡ more → ⊥
cut_left log rest count all left clean wanted [] is = omega (arith, left.total, ap length left.split, length-append log left.more, ap length is)
cut_left log rest count all left clean wanted (first ∷ more) is =
    no_line first rest (flat_map logged_line more) (left.left ∙ ap (flat_map logged_line) is) clean

pub none_cut_off : (text : List ℕ) (count : ℕ) (log : List Logged) (rest : List ℕ) → IsSoFar text count log rest → holds 10 rest ≡ false
    → length log < count → (all : List Logged) → AreReadable all → text ≡ logged_text all → ⊥
none_cut_off text count log rest far clean wanted all readable same =
    let left = far.all_left all readable same in cut_left log rest count all left clean wanted left.more refl

bad_left : (log : List Logged) (rest line after : List ℕ) (count : ℕ) (all : List Logged) (left : IsLeft log rest count all)
    → rest ≡ line ++ 10 ∷ after → holds 10 line ≡ false → ((other : Logged) → IsReadable other → line ++ codes "\n" ≡ logged_line other → ⊥)
    → length log < count → (more : List Logged) → left.more ≡ more → ⊥
bad_left log rest line after count all left whole clean none wanted [] is =
    omega (arith, left.total, ap length left.split, length-append log left.more, ap length is)
bad_left log rest line after count all left whole clean none wanted (first ∷ more) is =
    let each : AllByRecursion IsReadable (first ∷ more) = subst (AllByRecursion IsReadable) is left.each in
    none first each.0 (same_line first rest line after (flat_map logged_line more) each.0 whole clean (left.left ∙ ap (flat_map logged_line) is)).0

pub none_bad : (text : List ℕ) (count : ℕ) (log : List Logged) (rest line after : List ℕ) → IsSoFar text count log rest
    → rest ≡ line ++ 10 ∷ after → holds 10 line ≡ false → ((other : Logged) → IsReadable other → line ++ codes "\n" ≡ logged_line other → ⊥)
    → length log < count → (all : List Logged) → AreReadable all → text ≡ logged_text all → ⊥
none_bad text count log rest line after far whole clean none wanted all readable same =
    let left = far.all_left all readable same in bad_left log rest line after count all left whole clean none wanted left.more refl

all_left_none : (log : List Logged) (rest : List ℕ) (count : ℕ) (all : List Logged) (left : IsLeft log rest count all) → length log ≡ count
    → (more : List Logged) → left.more ≡ more → (log ≡ all) × (rest ≡ [])
all_left_none log rest count all left counted [] is =
    (sym (left.split ∙ ap (λ list. log ++ list) is ∙ append-nil log), left.left ∙ ap (flat_map logged_line) is)
all_left_none log rest count all left counted (first ∷ more) is =
    absurd (omega (arith, left.total, ap length left.split, length-append log left.more, ap length is))

-- all records were read
pub all_read : (text : List ℕ) (count : ℕ) (log : List Logged) (rest : List ℕ) → IsSoFar text count log rest → length log ≡ count
    → (all : List Logged) → AreReadable all → text ≡ logged_text all → (log ≡ all) × (rest ≡ [])
all_read text count log rest far counted all readable same =
    let left = far.all_left all readable same in all_left_none log rest count all left counted left.more refl

pub whole_read : (text : List ℕ) (count : ℕ) (log : List Logged) (rest : List ℕ) → IsSoFar text count log rest → length log ≡ count → length rest ≡ 0
    → text ≡ logged_text log
whole_read text count log [] far counted none =
    far.so.whole ∙ append-nil (first_line count ++ flat_map logged_line log)
    ∙ ap (λ number. first_line number ++ flat_map logged_line log) (sym counted)
whole_read text count log (byte ∷ rest) far counted none = absurd (omega arith)

-- a text goes on after them
pub none_extra : (text : List ℕ) (count : ℕ) (log : List Logged) (rest : List ℕ) → IsSoFar text count log rest → length log ≡ count → 0 < length rest
    → (all : List Logged) → AreReadable all → text ≡ logged_text all → ⊥
none_extra text count log rest far counted some all readable same =
    omega (arith, some, ap length (all_read text count log rest far counted all readable same).1)

pub extra_line : (text : List ℕ) (count : ℕ) (log : List Logged) (rest : List ℕ) → IsSoFar text count log rest → length log ≡ count → 0 < length rest
    → (number : ℕ) → number ≡ length log + 2 → IsExtraLine text number
extra_line text count log rest far counted some number after = record {
  before = log;
  rest = rest;
  so_far = subst (λ (total : ℕ). GoesOn text total log rest) (sym counted) far.so;
  some = some;
  after = after;
}
