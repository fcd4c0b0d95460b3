use Rattle.std.proofs.Common.{arith, sym, ◌∙◌, ap}
use Rattle.std.specs.Ordering.{nat_cmp}
use Rattle.gate_model.proofs.SearchSteps.{searching-start, searching-after, searching-before, searched-none, searched-some, within_digits, within_digits-more, less, equal, more}
use Rattle.gate_model.proofs.search.find_by_id.Goals as goal

pub loop-low-init : goal.loop-low-init
loop-low-init g c = searching-start g.T.HasId.id_of c.args.values.now c.args.id c.args.steps.now

pub id_at-found-requires : goal.id_at-found-requires
id_at-found-requires g c = let inside = c.loop-low.invariant.inside in omega (arith, inside.1, c.loop-low-test.true)

pub loop-low-preserved-in-Less : goal.loop-low-preserved-in-Less
loop-low-preserved-in-Less g c =
    let read = c.id_at-found.ensures in
    searching-after g.T.HasId.id_of c.args.values.now c.args.id c.loop-low.low c.loop-low.high c.args.steps.now c.loop-low.steps _ read.0 c.compare.new.self
    c.requires c.loop-low.invariant c.loop-low-test.true (omega arith) (omega arith) read.1
    (less (g.T.HasId.id_of read.0) c.args.id (sym (c.in-Less.ensures.order ∙ ap (λ n. nat_cmp n c.args.id) read.2))) c.in-Less.ensures.count

pub loop-low-preserved : goal.loop-low-preserved
loop-low-preserved g c =
    let read = c.id_at-found.ensures in
    searching-before g.T.HasId.id_of c.args.values.now c.args.id c.loop-low.low c.loop-low.high c.args.steps.now c.loop-low.steps _ read.0 c.compare.new.self
    c.requires c.loop-low.invariant c.loop-low-test.true (omega arith) (omega arith) (omega arith) read.1
    (more (g.T.HasId.id_of read.0) c.args.id (sym (c.in-Greater.ensures.order ∙ ap (λ n. nat_cmp n c.args.id) read.2))) c.in-Greater.ensures.count

pub returns-in-Equal-clause-index : goal.returns-in-Equal-clause-index
returns-in-Equal-clause-index g c =
    let read = c.id_at-found.ensures in
    searched-some g.T.HasId.id_of c.args.values.now c.args.id _ read.0 c.requires read.1
    (equal (g.T.HasId.id_of read.0) c.args.id (sym (c.in-Equal.ensures.order ∙ ap (λ n. nat_cmp n c.args.id) read.2)))

pub returns-in-Equal-clause-steps : goal.returns-in-Equal-clause-steps
returns-in-Equal-clause-steps g c =
    within_digits-more g.T.HasId.id_of c.args.values.now c.args.id c.loop-low.low c.loop-low.high c.args.steps.now c.loop-low.steps c.compare.new.self
    c.loop-low.invariant c.loop-low-test.true c.in-Equal.ensures.count

pub returns-clause-index : goal.returns-clause-index
returns-clause-index g c =
    searched-none g.T.HasId.id_of c.args.values.now c.args.id c.loop-low.low c.loop-low.high c.args.steps.now c.loop-low.steps c.loop-low.invariant c.loop-low-test.false

pub returns-clause-steps : goal.returns-clause-steps
returns-clause-steps g c =
    within_digits g.T.HasId.id_of c.args.values.now c.args.id c.loop-low.low c.loop-low.high c.args.steps.now c.loop-low.steps c.loop-low.invariant
