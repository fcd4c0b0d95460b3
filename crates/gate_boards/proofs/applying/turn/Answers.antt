use Rattle.std.proofs.Common.{◌≡◌, [], ◌∷◌, ◌++◌, length, sym, ap, ◌∙◌, subst, rules}
use Rattle.std.proofs.lemmas.List.{map-append}
use Rattle.gate_model.specs.declared.record.Record.{Record}
use Rattle.gate_model.specs.Record.{later, items_of_records}
use Rattle.gate_applier.specs.Applier.{ApplierView}
use Rattle.gate_boards.specs.declared.applying.Attempt.TheVariants.{Took, LogFull}
use Rattle.gate_boards.specs.declared.boards.Found.{Found}
use Rattle.gate_boards.proofs.Clocked.{applied_one, kept}
use Rattle.gate_boards.proofs.applying.turn.Goals as goal

took_is_not_full : (found : Found) (P : Type 0) → Took found ≡ LogFull → P
took_is_not_full found P same = cc

pub returns-in-Err-clause-clock : goal.returns-in-Err-clause-clock
returns-in-Err-clause-clock g c =
    kept (g.K.Clock.state c.args.clock.now) c.args.applier c.in-Err.field-0.applier (ap (λ (view : ApplierView). view.records) c.in-Err.ensures.kept)
    (ap (λ (view : ApplierView). view.moment) c.in-Err.ensures.kept)

pub returns-in-Some-clause-clock : goal.returns-in-Some-clause-clock
returns-in-Some-clause-clock g c =
    let same = c.in-Ok.ensures.ready in
    applied_one (g.K.Clock.state c.args.clock.now) (g.K.Clock.state c.now.new.self) c.args.applier c.in-Ok.ready c.apply-applier.result.0 c.now.result c.in-Some.item c.now.ensures
    (ap (λ (view : ApplierView). view.records) same) (ap (λ (view : ApplierView). view.moment) same) c.apply-applier.ensures.records c.apply-applier.ensures.moment

pub returns-in-None-clause-clock : goal.returns-in-None-clause-clock
returns-in-None-clause-clock g c =
    let same = c.give_back.ensures ∙ c.in-Ok.ensures.ready in
    kept (g.K.Clock.state c.args.clock.now) c.args.applier c.give_back.result (ap (λ (view : ApplierView). view.records) same) (ap (λ (view : ApplierView). view.moment) same)

pub returns-in-Some-clause-applied : goal.returns-in-Some-clause-applied
returns-in-Some-clause-applied g c =
    ap items_of_records c.apply-applier.ensures.records ∙ map-append (λ (applied : Record). applied.item) c.in-Ok.ready.records (record { moment = later c.in-Ok.ready.moment c.now.result; item = c.in-Some.item } ∷ [])
    ∙ ap (λ l. l ++ c.in-Some.item ∷ []) (ap (λ (view : ApplierView). items_of_records view.records) c.in-Ok.ensures.ready ∙ c.requires.applied)
    ∙ search rules

pub returns-in-Err-clause-held : goal.returns-in-Err-clause-held
returns-in-Err-clause-held g c = λ took. absurd (c.refused_attempt.ensures.took_none took)

pub returns-in-Err-clause-log_full : goal.returns-in-Err-clause-log_full
returns-in-Err-clause-log_full g c = λ full.
    subst (λ (view : ApplierView). length view.records ≡ view.limit) (sym c.in-Err.ensures.kept)
    (c.in-Err.ensures.only_log_full (c.refused_attempt.ensures.full full))

pub returns-in-Some-clause-log_full : goal.returns-in-Some-clause-log_full
returns-in-Some-clause-log_full g c = λ same. took_is_not_full _ _ same

pub returns-in-None-clause-log_full : goal.returns-in-None-clause-log_full
returns-in-None-clause-log_full g c = λ same. took_is_not_full _ _ same
