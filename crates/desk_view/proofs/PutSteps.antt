-- Parts that are appended one after another, and a row more or none.
use Rattle.std.proofs.Common.{◌≡◌, ℕ, List, ◌++◌, Result, Ok, Err, ap, sym, ◌∙◌, append_assoc}
use Rattle.std.specs.Prelude.{OnOk}
use Rattle.std.proofs.lemmas.List.Concat.{flat_map-append}
use Rattle.desk_view.specs.Parts.{PartView}
use Rattle.status_view.specs.Filling.{piece_bytes, html_bytes}

pub joined : (old one two : List ℕ) (first second : List PartView) → one ≡ old ++ html_bytes first
    → two ≡ one ++ html_bytes second → two ≡ old ++ html_bytes (first ++ second)
joined old one two first second is_one is_two =
    is_two ∙ ap (λ bytes. bytes ++ html_bytes second) is_one ∙ append_assoc old (html_bytes first) (html_bytes second)
    ∙ ap (λ bytes. old ++ bytes) (sym (flat_map-append piece_bytes first second))

pub last : {E : Type 0} (result : Result (Unit {0}) E) (old one two : List ℕ) (first second : List PartView)
    → one ≡ old ++ html_bytes first → OnOk result (two ≡ one ++ html_bytes second)
    → OnOk result (two ≡ old ++ html_bytes (first ++ second))
last (Ok done) old one two first second is_one is_two = joined old one two first second is_one is_two
last (Err fault) old one two first second is_one is_two = tt

pub bytes_more : (first rest : List PartView) → html_bytes (first ++ rest) ≡ html_bytes first ++ html_bytes rest
bytes_more first rest = flat_map-append piece_bytes first rest
