use Rattle.std.proofs.Common.{◌≡◌, ◌∷◌, ◌++◌, [], drop, sym, subst, ap, ◌∙◌}
use Rattle.std.proofs.lemmas.List.{take-append-drop}
use Rattle.gate_kept.specs.Pieces.{IsShort}
use Rattle.gate_kept.proofs.PieceSteps.{piece_added, all_added}
use Rattle.gate_kept.proofs.pieces.pieces_of.Goals as goal

pub left-preserved : goal.left-preserved
left-preserved c =
    let i = c.left.invariant in
    let left = c.left.left.now in
    let end = c.piece_end-end.result in
    let piece = c.split_at.result.0.now in
    let more = c.split_at.result.1.now in
    let is : left ≡ piece ++ more =
    sym (take-append-drop end left) ∙ ap (λ l. l ++ drop end left) (sym c.split_at.ensures.front) ∙ ap (λ l. piece ++ l) (sym c.split_at.ensures.back) in
    let added : c.push.new.self.items ≡ c.left.pieces.items ++ piece ∷ [] = c.in_ok-push.ensures.items ∙ ap (λ l. c.left.pieces.items ++ l ∷ []) c.in_ok-copied.ensures in
    record {
      whole = piece_added c.args.bytes.now left piece more c.left.pieces.items c.push.new.self.items i.whole is added;
      each = all_added (IsShort c.args.part c.args.most) c.left.pieces.items c.push.new.self.items piece i.each
          (subst (IsShort c.args.part c.args.most) (sym c.split_at.ensures.front) c.piece_end-end.ensures.few) added;
    }
