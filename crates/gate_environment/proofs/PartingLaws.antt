-- Pieces that were taken back, one after another.
use Rattle.std.proofs.Common.{◌≡◌, List, [], ◌∷◌, ◌++◌, map, Option, Some, None, refl, sym, ap, ◌∙◌, append-nil, append_assoc}
use Rattle.std.proofs.lemmas.List.{map-append}
use Rattle.gate_environment.specs.declared.connections.PieceEnd.{PieceEnd}
use Rattle.gate_environment.specs.Parting.{parting, parting_all}

pub parting_none : (parted : Option (List PieceEnd)) → parted ≡ parting_all [] parted
parting_none None = refl
parting_none (Some ends) = ap Some (sym (append-nil ends))

parting_one : (ends : List PieceEnd) (end : PieceEnd) (parted : Option (List PieceEnd)) → parting end (parting_all ends parted) ≡ parting_all (ends ++ end ∷ []) parted
parting_one ends end None = refl
parting_one ends end (Some before) = ap Some (append_assoc before ends (end ∷ []))

-- one more piece, each of which calls for its end
pub parting_next : {X : Type 0} (end_of : X → PieceEnd) (pieces : List X) (piece : X) (given now later : Option (List PieceEnd))
    → now ≡ parting_all (map end_of pieces) given → later ≡ parting (end_of piece) now
    → later ≡ parting_all (map end_of (pieces ++ piece ∷ [])) given
parting_next end_of pieces piece given now later so_far next =
    next
    ∙ ap (parting (end_of piece)) so_far
    ∙ parting_one (map end_of pieces) (end_of piece) given
    ∙ ap (λ ends. parting_all ends given) (sym (map-append end_of pieces (piece ∷ [])))
