-- The last of a group of references, and the line that is written of it.
use Rattle.std.proofs.Common.{◌≡◌, ℕ, ◌-◌, List, [], ◌∷◌, ◌++◌, length, Some, option_map, Bor, ap, sym, ◌∙◌, append_assoc}
use Rattle.std.specs.Prelude.{codes, slice_get}
use Rattle.std.specs.Fmt.{decimal}
use Rattle.std.specs.Str.Lossy.{utf8_lossy}
use Rattle.std.proofs.lemmas.List.{length-map}
use Rattle.std.proofs.lemmas.Option.{slice_get-map}
use Rattle.status_export.specs.Document.{compact_text}
use Rattle.log_reading.specs.declared.logged.Logged.{Logged}
use Rattle.log_reading.specs.declared.logged.Logged.TheVariants.{Refused}
use Rattle.log_reading.specs.declared.logged.Refusal.{Refusal}
use Rattle.log_reading.specs.Log.{logged_line}
use Rattle.log_summary.specs.Summary.{host_of}
use Rattle.log_summary.specs.Lines.{last_of, last_line, group_line, refusal_json, refusal_line, group_json}
use Rattle.log_summary.specs.inner.Groups.{values_in}

-- the last of the values is that of the references
last_value : (group : List (Bor Logged)) (last : Bor Logged) → Some last ≡ slice_get group (length group - 1)
    → last_of (values_in group) ≡ Some last.now
last_value group last is =
    ap (λ (count : ℕ). slice_get (values_in group) (count - 1)) (length-map group (λ (one : Bor Logged). one.now))
    ∙ slice_get-map (λ (one : Bor Logged). one.now) group (length group - 1) ∙ ap (option_map (λ (one : Bor Logged). one.now)) (sym is)

pub line_written : (group : List (Bor Logged)) (last : Bor Logged) (old one two line given three four : List ℕ)
    → Some last ≡ slice_get group (length group - 1) → line ++ codes "\n" ≡ logged_line last.now
    → one ≡ old ++ decimal (length group) → two ≡ one ++ codes " " → given ≡ line → three ≡ two ++ given → four ≡ three ++ 10 ∷ []
    → four ≡ old ++ group_line (values_in group)
line_written group last old one two line given three four is whole first second same third fourth =
    let count = decimal (length group) in
    let text : group_line (values_in group) ≡ count ++ codes " " ++ logged_line last.now =
    ap (λ (n : ℕ). last_line n (last_of (values_in group))) (length-map group (λ (item : Bor Logged). item.now))
    ∙ ap (last_line (length group)) (last_value group last is) in
    let all : four ≡ (((old ++ count) ++ codes " ") ++ line) ++ 10 ∷ [] = cc in
    all ∙ append_assoc ((old ++ count) ++ codes " ") line (10 ∷ []) ∙ ap (λ (back : List ℕ). ((old ++ count) ++ codes " ") ++ back) whole
    ∙ ap (λ (front : List ℕ). front ++ logged_line last.now) (append_assoc old count (codes " "))
    ∙ append_assoc old (count ++ codes " ") (logged_line last.now)
    ∙ ap (λ (back : List ℕ). old ++ back) (sym text)

pub json_written : (group : List (Bor Logged)) (last : Bor Logged) (refusal : Refusal) (host command old line given one two : List ℕ)
    → Some last ≡ slice_get group (length group - 1) → last.now ≡ Refused refusal
    → host ≡ utf8_lossy (host_of last.now) → command ≡ utf8_lossy refusal.command
    → line ≡ compact_text (refusal_json (length group) refusal host command)
    → given ≡ line → one ≡ old ++ given → two ≡ one ++ 10 ∷ [] → two ≡ old ++ group_json (values_in group)
json_written group last refusal host command old line given one two is refused is_host is_command whole same first second =
    let count = length group in
    let shown = utf8_lossy (host_of (Refused refusal)) in
    let text : group_json (values_in group) ≡ compact_text (refusal_json count refusal shown (utf8_lossy refusal.command)) ++ codes "\n" =
    ap (λ (n : ℕ). refusal_line n (last_of (values_in group))) (length-map group (λ (item : Bor Logged). item.now))
    ∙ ap (refusal_line count) (last_value group last is ∙ ap Some refused) in
    let line_is : line ≡ compact_text (refusal_json count refusal shown (utf8_lossy refusal.command)) =
    whole
    ∙ ap (λ (words : List ℕ). compact_text (refusal_json count refusal words command)) (is_host ∙ ap (λ (item : Logged). utf8_lossy (host_of item)) refused)
    ∙ ap (λ (words : List ℕ). compact_text (refusal_json count refusal shown words)) is_command in
    let all : two ≡ (old ++ line) ++ 10 ∷ [] = cc in
    all ∙ append_assoc old line (10 ∷ []) ∙ ap (λ (back : List ℕ). old ++ back) (ap (λ (words : List ℕ). words ++ 10 ∷ []) line_is ∙ sym text)
