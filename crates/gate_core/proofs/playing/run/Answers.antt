use Rattle.std.proofs.Common.{rules, ◌≡◌, ◌++◌, ◌∷◌, [], List, sym, ap, subst, ◌∙◌, arith}
use Rattle.std.specs.Prelude.{reverse, zip}
use Rattle.std.proofs.lemmas.Grind.{common_steps}
use Rattle.gate_core.specs.declared.event.Event.{Event}
use Rattle.gate_core.specs.declared.event.Reply.{Reply}
use Rattle.gate_core.specs.Legal.{Run}
use Rattle.gate_core.specs.State.{StandsAfter}
use Rattle.gate_core.specs.Event.{FitsEvent, FitEvents}
use Rattle.gate_core.proofs.Pairs.{reverse-zip-push, All-zip-push}
use Rattle.gate_core.proofs.playing.run.Goals as goal

pub loop-event-preserved : goal.loop-event-preserved
loop-event-preserved c =
    let pairs : reverse (zip (c.loop-event.yielded ++ c.in-Some.event ∷ []) c.push_reserved.new.self.items) ≡ (c.in-Some.event, c.play.result) ∷ reverse (zip c.loop-event.yielded c.loop-event.replies.items) =
    ap (λ (l : List Reply). reverse (zip (c.loop-event.yielded ++ c.in-Some.event ∷ []) l)) c.push_reserved.ensures.items
    ∙ reverse-zip-push c.loop-event.yielded c.loop-event.replies.items c.in-Some.event c.play.result (sym c.loop-event.invariant.replies) in
    record {
      replies = grind (arith, common_steps);
      room = search rules;
      limits = search rules;
      fits = subst (λ (l : List Reply). FitEvents (c.loop-event.yielded ++ c.in-Some.event ∷ []) l) (sym c.push_reserved.ensures.items)
          (All-zip-push (λ (pair : Event × Reply). FitsEvent pair.0 pair.1) c.loop-event.yielded c.loop-event.replies.items c.in-Some.event c.play.result (sym c.loop-event.invariant.replies) c.loop-event.invariant.fits c.play.ensures.fits);
      stands = λ earlier h. subst (λ (r : Run). StandsAfter c.play.new.self (r ++ earlier)) (sym pairs) (c.play.ensures.stands (reverse (zip c.loop-event.yielded c.loop-event.replies.items) ++ earlier) (c.loop-event.invariant.stands earlier h));
    }
