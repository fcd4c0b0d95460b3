use Rattle.std.proofs.Common.{◌≡◌, List, [], ◌∷◌, ◌++◌, ℕ, length, refl, sym, ap, subst, ◌∙◌, arith}
use Rattle.std.proofs.lemmas.Bool.{eqb-true}
use Rattle.std.proofs.lemmas.List.{length-append}
use Rattle.log_reading.specs.declared.logged.Logged.{Logged}
use Rattle.log_reading.specs.Faults.{GoesOn}
use Rattle.log_reading.proofs.LineSteps.{none_some, same_one}
use Rattle.log_reading.proofs.PageSteps.{IsSoFar, one_so_far, none_so_far, none_cut_off, none_bad, all_read, whole_read}
use Rattle.log_reading.proofs.page.read_lines.Goals as goal

pub returns-in_default-clause-read : goal.returns-in_default-clause-read
returns-in_default-clause-read c = λ log readable is. absurd (c.in_default.ensures (length log) _ readable.few is)

pub loop-index-init : goal.loop-index-init
loop-index-init c =
    rw c.new-log.ensures.items
    (record { far = none_so_far c.args.text.now c.in-Some.count c.in-Some.lines.now c.in-Some.ensures.1 c.in-Some.ensures.0; counted = refl })

pub returns-in_default-cut-clause-read : goal.returns-in_default-cut-clause-read
returns-in_default-cut-clause-read c =
    λ log readable is.
    absurd
    (none_cut_off c.args.text.now c.in-Some.count c.loop-index.log.items c.loop-index.rest.now c.loop-index.invariant.far c.in_default-cut.ensures (omega arith) log
    readable is)

pub returns-in_default-cut-clause-fault : goal.returns-in_default-cut-clause-fault
returns-in_default-cut-clause-fault c = record {
  count = c.in-Some.count;
  before = c.loop-index.log.items;
  line = c.loop-index.rest.now;
  so_far = c.loop-index.invariant.far.so;
  one_line = c.in_default-cut.ensures;
  wanted = omega arith;
  after = omega arith;
}

pub returns-in-None-clause-read : goal.returns-in-None-clause-read
returns-in-None-clause-read c =
    λ log readable is.
    absurd
    (none_bad c.args.text.now c.in-Some.count c.loop-index.log.items c.loop-index.rest.now c.in-Some-cut.line.now c.in-Some-cut.after.now c.loop-index.invariant.far
    c.in-Some-cut.ensures.0 c.in-Some-cut.ensures.1 (λ other good same. none_some other _ c.in-None.is (c.in_ok-found.ensures.read other good same)) (omega arith) log
    readable is)

pub returns-in-None-clause-fault : goal.returns-in-None-clause-fault
returns-in-None-clause-fault c = record {
  count = c.in-Some.count;
  before = c.loop-index.log.items;
  line = c.in-Some-cut.line.now;
  rest = c.in-Some-cut.after.now;
  so_far = subst (λ (rest : List ℕ). GoesOn c.args.text.now c.in-Some.count c.loop-index.log.items rest) c.in-Some-cut.ensures.0 c.loop-index.invariant.far.so;
  one_line = c.in-Some-cut.ensures.1;
  wanted = omega arith;
  none = λ other good same. none_some other _ c.in-None.is (c.in_ok-found.ensures.read other good same);
  after = omega arith;
}

pub returns-then-is_empty-clause-written : goal.returns-then-is_empty-clause-written
returns-then-is_empty-clause-written c =
    whole_read c.args.text.now c.in-Some.count c.loop-index.log.items c.loop-index.rest.now c.loop-index.invariant.far (omega arith)
    (eqb-true (length c.loop-index.rest.now) 0 (sym c.is_empty.ensures ∙ c.if-is_empty.true))

pub returns-then-is_empty-clause-read : goal.returns-then-is_empty-clause-read
returns-then-is_empty-clause-read c =
    λ log readable is.
    (all_read c.args.text.now c.in-Some.count c.loop-index.log.items c.loop-index.rest.now c.loop-index.invariant.far (omega arith) log readable is).0

pub loop-index-preserved : goal.loop-index-preserved
loop-index-preserved c =
    let log = c.loop-index.log.items in
    let one = c.in-Some-found.one in
    let pushed : c.push.new.self.items ≡ log ++ one ∷ [] = c.in_ok-push-in-Some-found.ensures.items in
    record {
      far =
          subst (λ (list : List Logged). IsSoFar c.args.text.now c.in-Some.count list c.in-Some-cut.after.now) (sym pushed)
          (one_so_far c.args.text.now c.in-Some.count log c.loop-index.rest.now c.in-Some-cut.line.now c.in-Some-cut.after.now one c.loop-index.invariant.far
          c.in-Some-cut.ensures.0 c.in-Some-cut.ensures.1 (rw c.in-Some-found.is at c.in_ok-found.ensures.written)
          (λ other good same. same_one one other c.in_ok-found.found c.in-Some-found.is (c.in_ok-found.ensures.read other good same)) (omega arith));
      counted = omega (arith, ap length pushed, length-append log (one ∷ []));
    }
