-- The fields of a line, cut one after another.
use Rattle.std.proofs.Common.{◌≡◌, ℕ, ◌==◌, ◌||◌, ◌<◌, ◌⊎◌, inl, inr, Bool, true, false, Decides, List, [], ◌∷◌, ◌++◌, Option, Some, None, Result, refl, sym, ap, ◌∙◌, arith, append_assoc}
use Rattle.std.specs.Prelude.{codes}
use Rattle.std.specs.Fmt.{decimal}
use Rattle.std.proofs.lemmas.Bool.{true≢false}
use Rattle.std.proofs.lemmas.List.{append_cancel_right}
use Rattle.gate_model.specs.declared.record.Moment.{Moment}
use Rattle.gate_model.specs.declared.record.Record.{Record}
use Rattle.gate_model.specs.declared.submission.Body.{Body}
use Rattle.gate_model.specs.Record.{is_accepted}
use Rattle.status_reading.specs.Plain.{plain_bytes}
use Rattle.gate_model.specs.declared.record.Outcome.{Outcome}
use Rattle.gate_model.specs.declared.record.Outcome.TheVariants.{Accepted, NoSuchHost, NoSuchService, PassiveDisabled, NoServices, NoSuchComment, NoSuchDowntime, WrongKind, NoProblem, NotAcknowledged, BadWindow, WindowPast, NoSuchTrigger}
use Rattle.gate_model.specs.Escaping.{escaped}
use Rattle.gate_grammar.specs.Canonical.{body_text}
use Rattle.gate_grammar.specs.Spelling.{holds}
use Rattle.gate_grammar.proofs.Numerals.{decimal_digits, none_in_digits, digit_isnt}
use Rattle.gate_lines.specs.LogPage.{outcome_name}
use Rattle.status_reading.specs.Readable.{Fits}
use Rattle.status_reading.proofs.CutSteps.{same_cut, none_together}
use Rattle.log_reading.specs.declared.logged.Logged.{Logged}
use Rattle.log_reading.specs.declared.logged.Logged.TheVariants as logged
use Rattle.log_reading.specs.declared.lines.TheConstants.{OUTCOMES}
use Rattle.log_reading.specs.declared.logged.Refusal.{Refusal}
use Rattle.log_reading.specs.declared.lines.Stamp.{Stamp}
use Rattle.log_reading.specs.Log.{line_front, logged_line, IsReadableBody, IsReadable}
use Rattle.log_reading.specs.inner.Gives.{Gives}
use Rattle.log_reading.specs.inner.Lines.{outcome_among, IsStamp, stamp_by, LineView, view_of, content, with_outcome}
use Rattle.log_reading.proofs.LastCut.{same_last}

-- ---- outcomes

-- the outcome of a name is found again
pub outcome_again : (outcome : Outcome) → outcome_among OUTCOMES (outcome_name outcome) ≡ Some outcome
outcome_again Accepted = refl
outcome_again NoSuchHost = refl
outcome_again NoSuchService = refl
outcome_again PassiveDisabled = refl
outcome_again NoServices = refl
outcome_again NoSuchComment = refl
outcome_again NoSuchDowntime = refl
outcome_again WrongKind = refl
outcome_again NoProblem = refl
outcome_again NotAcknowledged = refl
outcome_again BadWindow = refl
outcome_again WindowPast = refl
outcome_again NoSuchTrigger = refl

-- its name has neither a space nor an LF
pub name_unspaced : (outcome : Outcome) → holds 32 (outcome_name outcome) ≡ false
name_unspaced Accepted = refl
name_unspaced _ = refl

name_in_line : (outcome : Outcome) → holds 10 (outcome_name outcome) ≡ false
name_in_line Accepted = refl
name_in_line _ = refl

-- the parts of an ending
pub same_ending : (text front word command : List ℕ) (outcome : Outcome) → text ≡ front ++ 32 ∷ word → holds 32 word ≡ false → text ≡ with_outcome command outcome
    → (front ≡ command ++ codes " ->") × (word ≡ outcome_name outcome)
same_ending text front word command outcome whole clean is =
    same_last 32 front word (command ++ codes " ->") (outcome_name outcome) clean (name_unspaced outcome) (sym whole ∙ is)

-- ---- numbers

digits_hold_none : (mark number : ℕ) → Fits number → (mark < 48) ⊎ (57 < mark) → holds mark (decimal number) ≡ false
digits_hold_none mark number fits (inl low) =
    none_in_digits (λ byte. byte == mark) (λ byte least most. digit_isnt mark byte least most (λ e. omega arith)) (decimal number) (decimal_digits number (omega arith))
digits_hold_none mark number fits (inr high) =
    none_in_digits (λ byte. byte == mark) (λ byte least most. digit_isnt mark byte least most (λ e. omega arith)) (decimal number) (decimal_digits number (omega arith))

-- the digits that were cut off are those of this number
pub cut_number : (mark number : ℕ) (text digits after rest : List ℕ) → (mark < 48) ⊎ (57 < mark) → Fits number
    → text ≡ digits ++ mark ∷ after → holds mark digits ≡ false → text ≡ decimal number ++ mark ∷ rest
    → (digits ≡ decimal number) × (after ≡ rest)
cut_number mark number text digits after rest apart fits whole clean is =
    same_cut mark digits after (decimal number) rest clean (digits_hold_none mark number fits apart) (sym whole ∙ is)

-- ---- whole lines

-- a line is its fields
pub line_whole : (moment : Moment) (client number : ℕ) (text : List ℕ) (outcome : Outcome)
    → line_front moment client number text outcome ++ codes "\n"
    ≡ content (record { stamp = record { moment = moment.0; client = client; number = number }; command = escaped text; outcome = outcome }) ++ codes "\n"
line_whole moment client number text outcome = simp append_assoc

pub whole_of : (one : Logged) → logged_line one ≡ content (view_of one) ++ codes "\n"
whole_of (logged.Accepted applied) = line_whole applied.moment applied.item.client applied.item.number (body_text applied.item.body) Accepted
whole_of (logged.Refused one) = line_whole one.moment one.client one.number one.command one.outcome

stamp_in_line : (mark number : ℕ) (rest : List ℕ) → Fits number → (mark == 10) ≡ false → holds 10 rest ≡ false
    → holds 10 (decimal number ++ mark ∷ rest) ≡ false
stamp_in_line mark number rest fits other clean =
    none_together 10 (decimal number) (mark ∷ rest) (digits_hold_none 10 number fits (inl (omega arith)))
    (none_together 10 (mark ∷ []) rest (ap (λ is. is || false) other) clean)

-- the fields of a line hold no LF, where the command holds none
pub content_in_line : (line : LineView) → IsStamp line.stamp → holds 10 line.command ≡ false → holds 10 (content line) ≡ false
content_in_line line fits clean =
    stamp_in_line 93 line.stamp.moment _ fits.moment refl
    (stamp_in_line 58 line.stamp.client _ fits.client refl
    (stamp_in_line 32 line.stamp.number _ fits.number refl
    (none_together 10 (line.command ++ codes " ->") (32 ∷ outcome_name line.outcome)
    (none_together 10 line.command (codes " ->") clean refl) (name_in_line line.outcome))))

-- the text is the fields of the record whose line it is without its LF
pub content_is : (text : List ℕ) (one : Logged) → text ++ codes "\n" ≡ logged_line one → text ≡ content (view_of one)
content_is text one is = append_cancel_right text (content (view_of one)) (codes "\n") (is ∙ whole_of one)

pub stamp_fits : (one : Logged) → IsReadable one → IsStamp (view_of one).stamp
stamp_fits (logged.Accepted applied) readable = record { moment = readable.stamped.moment; client = readable.stamped.client; number = readable.stamped.number }
stamp_fits (logged.Refused one) readable = record { moment = readable.stamped.moment; client = readable.stamped.client; number = readable.stamped.number }

-- ---- the record of fields

-- an accepted record, of its parts
pub same_accepted : (stamp : Stamp) (count : ℕ) (made : Body) (applied : Record) → count ≡ stamp.number → stamp ≡ stamp_by applied → ◌≡◌ {A = Option Body} (Some made) (Some applied.item.body)
    → logged.Accepted (record { moment = record { 0 = stamp.moment }; item = record { client = stamp.client; number = count; body = made } }) ≡ logged.Accepted applied
same_accepted stamp count made applied counted same is =
    let one : made ≡ applied.item.body = cc in
    let number : count ≡ applied.item.number = counted ∙ ap (λ (at : Stamp). at.number) same in
    λ i. logged.Accepted (record {
      moment = record { 0 = (same i).moment };
      item = record { client = (same i).client; number = number i; body = one i };
    })

-- a refused one
refused_parts : (line : LineView) (count : ℕ) (text : List ℕ) (one : Refusal) → line ≡ view_of (logged.Refused one) → count ≡ line.stamp.number → text ≡ one.command
    → logged.Refused (record { moment = record { 0 = line.stamp.moment }; client = line.stamp.client; number = count; outcome = line.outcome; command = text })
    ≡ logged.Refused one
refused_parts line count text one same counted is =
    let number : count ≡ one.number = counted ∙ ap (λ (view : LineView). view.stamp.number) same in
    λ i. logged.Refused (record {
      moment = record { 0 = (same i).stamp.moment };
      client = (same i).stamp.client;
      number = number i;
      outcome = (same i).outcome;
      command = is i;
    })

pub same_refused : (line : LineView) (count : ℕ) (text : List ℕ) (one : Logged) → line ≡ view_of one → count ≡ line.stamp.number
    → is_accepted line.outcome ≡ false → text ≡ plain_bytes line.command → ((shown : List ℕ) → plain_bytes (escaped shown) ≡ shown)
    → logged.Refused (record { moment = record { 0 = line.stamp.moment }; client = line.stamp.client; number = count; outcome = line.outcome; command = text })
    ≡ one
same_refused line count text (logged.Accepted applied) same counted other undone inverse =
    absurd (true≢false (sym (ap (λ (view : LineView). is_accepted view.outcome) same) ∙ other))
same_refused line count text (logged.Refused one) same counted other undone inverse =
    refused_parts line count text one same counted (undone ∙ ap (λ (view : LineView). plain_bytes view.command) same ∙ inverse one.command)

-- what an accepted line gives
pub accepted_given : {E : Type 0} (result : Result (Option Logged) E) (line : LineView) (text : List ℕ) (one : Logged) → IsReadable one → line ≡ view_of one
    → is_accepted line.outcome ≡ true → text ≡ plain_bytes line.command → ((shown : List ℕ) → plain_bytes (escaped shown) ≡ shown)
    → ((applied : Record) → IsReadableBody applied.item.body → text ≡ body_text applied.item.body → line.stamp ≡ stamp_by applied → Gives result (logged.Accepted applied))
    → Gives result one
accepted_given result line text (logged.Accepted applied) readable same is undone inverse gives =
    gives applied readable.body (undone ∙ ap (λ (view : LineView). plain_bytes view.command) same ∙ inverse (body_text applied.item.body))
    (ap (λ (view : LineView). view.stamp) same)
accepted_given result line text (logged.Refused one) readable same is undone inverse gives =
    absurd (true≢false (sym is ∙ ap (λ (view : LineView). is_accepted view.outcome) same ∙ readable.refused))

-- ---- what was not found

pub none_some : {A : Type 0} (one : A) (found : Option A) → found ≡ None → found ≡ Some one → ⊥
none_some one found none some = cc

pub same_one : {A : Type 0} (one other : A) (found : Option A) → found ≡ Some one → found ≡ Some other → one ≡ other
same_one one other found is same = cc

pub none_is_some : {A : Type 0} (one : A) → ◌≡◌ {A = Option A} None (Some one) → ⊥
none_is_some one is = cc

pub same_some : {A : Type 0} (one other : A) → ◌≡◌ {A = Option A} (Some one) (Some other) → one ≡ other
same_some one other is = cc

pub some_again : {A : Type 0} (found : Option A) (one other : A) → found ≡ Some one → found ≡ Some other → one ≡ other
some_again found one other is same = cc

-- ---- a test of a line

pub line_test : (same : Bool) (text shown line whole : List ℕ) → Decides same (text ≡ shown) → shown ≡ line → line ++ codes "\n" ≡ whole
    → Decides same (text ++ codes "\n" ≡ whole)
line_test same text shown line whole decides is ends = (
  λ yes. ap (λ front. front ++ codes "\n") (decides.0 yes ∙ is) ∙ ends,
  λ equal. decides.1 (append_cancel_right text line (codes "\n") (equal ∙ sym ends) ∙ sym is),
)
