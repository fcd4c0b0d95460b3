use Rattle.std.proofs.Common.{IfSome, ◌≡◌, ◌≤◌, ◌+◌, length, take, drop, ◌∙◌, arith, ap, sym, subst}
use Rattle.std.proofs.lemmas.List.{length-take-le}
use Rattle.gate_turns.specs.declared.standing.Role.TheVariants.{Agent, Operator}
use Rattle.gate_ports.proofs.Handing.{split_in_order, where_ok}
use Rattle.gate_ports.proofs.peer.Peer.read_packets.Goals as goal

pub returns-else-is_err-clause-handed : goal.returns-else-is_err-clause-handed
returns-else-is_err-clause-handed c =
    let begun = c.copy_begun-begun.result in
    let buf = c.read_after.new.buf in
    let n = c.copy_begun-begun.result + c.in-Some.count in
    let whole = c.split-whole.result.0 in
    let within : c.copy_begun-begun.result + c.in-Some.count ≤ length c.read_after.new.buf =
    subst (λ read. IfSome read (λ some. c.copy_begun-begun.result + some ≤ length c.read_after.new.buf))
    c.in-Some.is c.in_ok-read.ensures.bound in
    let front : take c.copy_begun-begun.result c.read_after.new.buf ≡ c.args.self.now.held.bytes.items =
    c.read_after.ensures.front ∙ c.copy_begun-begun.ensures.copied in
    let no_fault = c.if-is_err.ensures in
    let kept : c.split-whole.new.self.bytes.items ≡ drop c.split-whole.result.0 c.front.result.now =
    where_ok _ _ c.split-whole.ensures.kept no_fault.negation in
    let long : length c.front.result.now ≡ c.copy_begun-begun.result + c.in-Some.count =
    ap length c.front.ensures ∙ length-take-le n buf within in
    let bound = c.split-whole.ensures.bound in
    record {
      room = omega (arith, bound, long, within);
      in_order = λ agent none. (
        drop begun (take n buf),
        split_in_order c.args.self.now.held.bytes.items buf c.split-whole.new.self.bytes.items begun n whole front
            (omega arith) (omega (arith, bound, long)) within (kept ∙ ap (drop whole) c.front.ensures),
      );
      lines = λ operator. let both : Agent ≡ Operator = sym c.requires.role ∙ operator in absurd cc;
    }
