-- The texts of bodies, cut at their semicolons.
use Rattle.std.proofs.Common.{◌≡◌, ◌⊎◌, inl, inr, ◌==◌, Result, Ok, Err, IfOk, ℕ, suc, ◌<◌, ◌^◌, Bool, true, false, List, ◌∷◌, ◌++◌, get_or, map, Option, Some, None, ℤ, pos, negsuc, refl, sym, ap, subst, ◌∙◌, arith, append-nil}
use Rattle.std.specs.Prelude.{codes}
use Rattle.std.specs.Fmt.{decimal, signed_decimal}
use Rattle.std.proofs.lemmas.Bool.{true≢false}
use Rattle.std.proofs.lemmas.Fmt.{decimal_digit}
use Rattle.gate_model.specs.declared.object.Kind.TheVariants as kind
use Rattle.gate_model.specs.declared.submission.Body.{Body}
use Rattle.gate_model.specs.declared.submission.Body.TheVariants as body
use Rattle.gate_model.specs.Submission.{is_result}
use Rattle.gate_grammar.specs.declared.commands.CommandName.{CommandName}
use Rattle.gate_grammar.specs.declared.commands.CommandName.TheVariants as name
use Rattle.gate_grammar.specs.declared.commands.Command.{Command}
use Rattle.gate_grammar.specs.Numbers.{code_of}
use Rattle.gate_grammar.specs.Commands.{text_of, name_of, values_of}
use Rattle.gate_grammar.specs.Spelling.{holds, joined, Spells}
use Rattle.gate_grammar.specs.Parsing.{text_before, name_at}
use Rattle.gate_grammar.specs.Canonical.{shown, body_text, canonical_line}
use Rattle.gate_grammar.specs.RoundTrip.{WrittenIsRead}
use Rattle.gate_grammar.proofs.ArgumentLaws.{joined_begins}
use Rattle.gate_grammar.proofs.Cuts.{before_again}
use Rattle.gate_grammar.proofs.Numerals.{code_decimal_plain, code_decimal_minus, decimal_digits, none_in_digits, digit_isnt}
use Rattle.gate_grammar.proofs.Tables.{name_again, text_split}
use Rattle.status_reading.specs.Board.{HoldsNone, MayHoldNone}
use Rattle.status_reading.proofs.CutSteps.{same_cut, never_holds}
use Rattle.log_reading.specs.Log.{IsCode, IsWritten, IsPlainResult, IsPlainCommand, IsReadableBody}
use Rattle.log_reading.specs.inner.Gives.{Gives}

-- ---- codes

pub code_again : (code : ℤ) → IsCode code → code_of (signed_decimal code) ≡ Some code
code_again (pos code) small = code_decimal_plain code small
code_again (negsuc code) small = code_decimal_minus code small

digits_split : (number : ℕ) → number < 2 ^ 64 → holds 59 (decimal number) ≡ false
digits_split number small = none_in_digits (λ byte. byte == 59) (λ byte low high. digit_isnt 59 byte low high (λ e. omega arith)) (decimal number) (decimal_digits number small)

pub code_split : (code : ℤ) → IsCode code → holds 59 (signed_decimal code) ≡ false
code_split (pos code) small = digits_split code (omega arith)
code_split (negsuc code) small = digits_split (suc code) (omega arith)

-- the code that was cut off is this one
pub cut_code : (rest found after output : List ℕ) (code : ℤ) → IsCode code → rest ≡ found ++ 59 ∷ after → holds 59 found ≡ false
    → rest ≡ signed_decimal code ++ 59 ∷ output → (code_of found ≡ Some code) × (after ≡ output)
cut_code rest found after output code small whole clean is =
    let both = same_cut 59 found after (signed_decimal code) output clean (code_split code small) (sym whole ∙ is) in
    (ap code_of both.0 ∙ code_again code small, both.1)

none_some : (one : ℤ) → ◌≡◌ {A = Option ℤ} None (Some one) → ⊥
none_some one is = cc

same_code : (one other : ℤ) → ◌≡◌ {A = Option ℤ} (Some one) (Some other) → one ≡ other
same_code one other is = cc

-- ---- results

pub host_text : (host : List ℕ) (code : ℤ) (output : List ℕ)
    → body_text (body.Result host None code output)
    ≡ codes "PROCESS_HOST_CHECK_RESULT" ++ 59 ∷ (host ++ 59 ∷ (signed_decimal code ++ 59 ∷ output))
unfolding text_of
host_text host code output =
    ap (λ last. codes "PROCESS_HOST_CHECK_RESULT" ++ 59 ∷ (host ++ 59 ∷ (signed_decimal code ++ 59 ∷ last))) (append-nil output)

pub service_body_text : (host service : List ℕ) (code : ℤ) (output : List ℕ)
    → body_text (body.Result host (Some service) code output)
    ≡ codes "PROCESS_SERVICE_CHECK_RESULT" ++ 59 ∷ (host ++ 59 ∷ (service ++ 59 ∷ (signed_decimal code ++ 59 ∷ output)))
unfolding text_of
service_body_text host service code output =
    ap (λ last. codes "PROCESS_SERVICE_CHECK_RESULT" ++ 59 ∷ (host ++ 59 ∷ (service ++ 59 ∷ (signed_decimal code ++ 59 ∷ last)))) (append-nil output)

-- ---- names

abbrev is_result_name : CommandName → Bool
is_result_name (name.Result _) = true
is_result_name _ = false

result_named : (one : Body) → is_result_name (name_of one) ≡ is_result one
result_named (body.Result host service code output) = refl
result_named _ = refl

-- what stands before the first semicolon of a body's text is its command's name
name_before : (one : Body) (front rest : List ℕ) → body_text one ≡ front ++ 59 ∷ rest → holds 59 front ≡ false → front ≡ text_of (name_of one)
name_before one front rest is clean =
    sym (before_again 59 front (59 ∷ rest) clean refl)
    ∙ ap (text_before 59) (sym is)
    ∙ before_again 59 (text_of (name_of one)) (joined (map shown (values_of one))) (text_split (name_of one)) (joined_begins (map shown (values_of one)))

same_name : (one other : CommandName) → ◌≡◌ {A = Option CommandName} (Some one) (Some other) → one ≡ other
same_name one other is = cc

-- the text of another command doesn't begin with a result's name
pub no_result : (one : Body) (front rest : List ℕ) (known : CommandName) → IsPlainCommand one → body_text one ≡ front ++ 59 ∷ rest → holds 59 front ≡ false
    → is_result_name known ≡ true → front ≡ text_of known → ⊥
no_result one front rest known plain is clean result same =
    let named : name_of one ≡ known =
    same_name (name_of one) known
    (sym (name_again (name_of one)) ∙ ap name_at (sym (name_before one front rest is clean) ∙ same) ∙ name_again known)
    in
    true≢false (sym result ∙ ap is_result_name (sym named) ∙ result_named one ∙ plain.other)

pub no_host_result : (one : Body) (text front rest : List ℕ) → IsPlainCommand one → text ≡ body_text one → text ≡ front ++ 59 ∷ rest → holds 59 front ≡ false
    → front ≡ codes "PROCESS_HOST_CHECK_RESULT" → ⊥
unfolding text_of
no_host_result one text front rest plain is whole clean same = no_result one front rest (name.Result kind.Host) plain (sym is ∙ whole) clean refl same

pub no_service_result : (one : Body) (text front rest : List ℕ) → IsPlainCommand one → text ≡ body_text one → text ≡ front ++ 59 ∷ rest → holds 59 front ≡ false
    → front ≡ codes "PROCESS_SERVICE_CHECK_RESULT" → ⊥
unfolding text_of
no_service_result one text front rest plain is whole clean same = no_result one front rest (name.Result kind.Service) plain (sym is ∙ whole) clean refl same

-- the two names differ
unequal : ◌≡◌ {A = ℕ} 72 83 → ⊥
unequal is = omega (arith, is)

pub other_result : codes "PROCESS_HOST_CHECK_RESULT" ≡ codes "PROCESS_SERVICE_CHECK_RESULT" → ⊥
other_result is = unequal (ap (λ text. get_or text 8 0) is)

-- ---- commands

-- the line of a command that can be written
pub line_spells : WrittenIsRead → (one : Body) (line text : List ℕ) → IsWritten one → line ≡ codes "[0] " ++ text → text ≡ body_text one
    → Spells line (record { entered = record { 0 = 0 }; body = one })
line_spells read one line text written is whole =
    let command : Command = record { entered = record { 0 = 0 }; body = one } in
    let same : canonical_line command ≡ line =
    ap (λ time. 91 ∷ (time ++ 93 ∷ 32 ∷ body_text one)) (decimal_digit 0 (omega arith)) ∙ ap (λ rest. codes "[0] " ++ rest) (sym whole) ∙ sym is
    in
    subst (λ (line : List ℕ). Spells line command) same (read command (omega arith) written.range written.writable)

-- ---- what the functions need

-- no semicolon, and yet a code and an output
pub uncut_code : (rest output : List ℕ) (code : ℤ) → holds 59 rest ≡ false → rest ≡ signed_decimal code ++ 59 ∷ output → ⊥
uncut_code rest output code none is = never_holds 59 (signed_decimal code) output rest is none

pub no_code : (rest found after output : List ℕ) (code : ℤ) → IsCode code → rest ≡ found ++ 59 ∷ after → holds 59 found ≡ false
    → rest ≡ signed_decimal code ++ 59 ∷ output → None ≡ code_of found → ⊥
no_code rest found after output code small whole clean is none = none_some code (none ∙ (cut_code rest found after output code small whole clean is).0)

-- the result of these parts
pub copied_result : (host other output copied : List ℕ) (service named : Option (List ℕ)) (code : ℤ) → other ≡ host → named ≡ service → copied ≡ output
    → body.Result other named code copied ≡ body.Result host service code output
copied_result host other output copied service named code one two three =
    ap (λ x. body.Result x named code copied) one ∙ ap (λ x. body.Result host x code copied) two ∙ ap (body.Result host service code) three

pub same_result : (host rest found after output : List ℕ) (service : Option (List ℕ)) (code read : ℤ) → IsCode code → rest ≡ found ++ 59 ∷ after
    → holds 59 found ≡ false → rest ≡ signed_decimal code ++ 59 ∷ output → Some read ≡ code_of found
    → body.Result host service read after ≡ body.Result host service code output
same_result host rest found after output service code read small whole clean is has =
    let both = cut_code rest found after output code small whole clean is in
    ap (λ one. body.Result host service one after) (same_code read code (has ∙ both.0)) ∙ ap (body.Result host service code) both.1

pub cut_host : (rest host after more : List ℕ) (named : List ℕ) → rest ≡ host ++ 59 ∷ after → holds 59 host ≡ false → holds 59 named ≡ false
    → rest ≡ named ++ 59 ∷ more → (host ≡ named) × (after ≡ more)
cut_host rest host after more named whole clean plain is = same_cut 59 host after named more clean plain (sym whole ∙ is)

uncut : (one : Body) (text host : List ℕ) (service : Option (List ℕ)) (code : ℤ) (output : List ℕ) → one ≡ body.Result host service code output
    → text ≡ body_text one → holds 59 text ≡ false → ⊥
uncut one text host None code output same is clean =
    never_holds 59 (codes "PROCESS_HOST_CHECK_RESULT") _ text (is ∙ ap body_text same ∙ host_text host code output) clean
uncut one text host (Some name) code output same is clean =
    never_holds 59 (codes "PROCESS_SERVICE_CHECK_RESULT") _ text (is ∙ ap body_text same ∙ service_body_text host name code output) clean

-- a text without a semicolon is no result's
pub plain_uncut : (one : Body) (text : List ℕ) → IsReadableBody one → text ≡ body_text one → holds 59 text ≡ false → IsPlainCommand one
plain_uncut one text (inr plain) is clean = plain
plain_uncut one text (inl result) is clean =
    absurd (uncut one text result.host result.service result.code result.output result.whole is clean)

-- the parts of a host's result, after its name
pub record IsHostResult (one : Body) (rest : List ℕ) : Type 0 where
  pub host : List ℕ
  pub code : ℤ
  pub output : List ℕ
  pub whole : one ≡ body.Result host None code output
  pub plain : HoldsNone host
  pub small : IsCode code
  pub parts : rest ≡ host ++ 59 ∷ (signed_decimal code ++ 59 ∷ output)

-- those of a service's
pub record IsServiceResult (one : Body) (rest : List ℕ) : Type 0 where
  pub host : List ℕ
  pub name : List ℕ
  pub code : ℤ
  pub output : List ℕ
  pub whole : one ≡ body.Result host (Some name) code output
  pub plain : HoldsNone host
  pub named : HoldsNone name
  pub small : IsCode code
  pub parts : rest ≡ host ++ 59 ∷ (name ++ 59 ∷ (signed_decimal code ++ 59 ∷ output))

-- a result of a host or of a service
abbrev OfHost : Body → List ℕ → List ℕ → Type 0
OfHost one front rest = (front ≡ codes "PROCESS_HOST_CHECK_RESULT") × IsHostResult one rest

abbrev OfService : Body → List ℕ → List ℕ → Type 0
OfService one front rest = (front ≡ codes "PROCESS_SERVICE_CHECK_RESULT") × IsServiceResult one rest

result_parts : (one : Body) (text front rest host : List ℕ) (service : Option (List ℕ)) (code : ℤ) (output : List ℕ)
    → one ≡ body.Result host service code output → HoldsNone host → MayHoldNone service → IsCode code → text ≡ body_text one
    → text ≡ front ++ 59 ∷ rest → holds 59 front ≡ false → OfHost one front rest ⊎ OfService one front rest
result_parts one text front rest host None code output same plain named small is whole clean =
    let both =
    same_cut 59 front rest (codes "PROCESS_HOST_CHECK_RESULT") (host ++ 59 ∷ (signed_decimal code ++ 59 ∷ output)) clean refl
    (sym whole ∙ is ∙ ap body_text same ∙ host_text host code output)
    in
    inl (both.0, record { host = host; code = code; output = output; whole = same; plain = plain; small = small; parts = both.1 })
result_parts one text front rest host (Some name) code output same plain named small is whole clean =
    let both =
    same_cut 59 front rest (codes "PROCESS_SERVICE_CHECK_RESULT") (host ++ 59 ∷ (name ++ 59 ∷ (signed_decimal code ++ 59 ∷ output))) clean refl
    (sym whole ∙ is ∙ ap body_text same ∙ service_body_text host name code output)
    in
    inr (both.0, record { host = host; name = name; code = code; output = output; whole = same; plain = plain; named = named; small = small; parts = both.1 })

parts_of : (one : Body) (text front rest : List ℕ) → IsPlainResult one → text ≡ body_text one → text ≡ front ++ 59 ∷ rest → holds 59 front ≡ false
    → OfHost one front rest ⊎ OfService one front rest
parts_of one text front rest result is whole clean =
    result_parts one text front rest result.host result.service result.code result.output result.whole result.host_plain result.service_plain result.code_small is whole clean

pub host_given : (one : Body) (text front rest : List ℕ) → IsReadableBody one → text ≡ body_text one → text ≡ front ++ 59 ∷ rest → holds 59 front ≡ false
    → front ≡ codes "PROCESS_HOST_CHECK_RESULT" → IsHostResult one rest
host_given one text front rest (inr plain) is whole clean same = absurd (no_host_result one text front rest plain is whole clean same)
host_given one text front rest (inl result) is whole clean same =
    elim (parts_of one text front rest result is whole clean) [ inl host ↦ host.1 | inr service ↦ absurd (other_result (sym same ∙ service.0)) ]

pub service_given : (one : Body) (text front rest : List ℕ) → IsReadableBody one → text ≡ body_text one → text ≡ front ++ 59 ∷ rest → holds 59 front ≡ false
    → front ≡ codes "PROCESS_SERVICE_CHECK_RESULT" → IsServiceResult one rest
service_given one text front rest (inr plain) is whole clean same = absurd (no_service_result one text front rest plain is whole clean same)
service_given one text front rest (inl result) is whole clean same =
    elim (parts_of one text front rest result is whole clean) [ inl host ↦ absurd (other_result (sym host.0 ∙ same)) | inr service ↦ service.1 ]

pub command_given : (one : Body) (text front rest : List ℕ) → IsReadableBody one → text ≡ body_text one → text ≡ front ++ 59 ∷ rest → holds 59 front ≡ false
    → (front ≡ codes "PROCESS_HOST_CHECK_RESULT" → ⊥) → (front ≡ codes "PROCESS_SERVICE_CHECK_RESULT" → ⊥) → IsPlainCommand one
command_given one text front rest (inr plain) is whole clean host service = plain
command_given one text front rest (inl result) is whole clean host service =
    elim (parts_of one text front rest result is whole clean) [ inl of_host ↦ absurd (host of_host.0) | inr of_service ↦ absurd (service of_service.0) ]

-- ---- what is given

pub given : {A E : Type 0} (result : Result (Option A) E) (one other : A) → other ≡ one → Gives result one → Gives result other
given result one other is gives = subst (Gives result) (sym is) gives

-- nothing is given where memory ran out
pub ran_out : {A E : Type 0} (result : Result (Option A) E) (P : Type 0) (one : A) → IfOk result (λ found. P → ⊥) → P → Gives result one
ran_out (Ok found) P one never holds = absurd (never holds)
ran_out (Err fault) P one never holds = tt
