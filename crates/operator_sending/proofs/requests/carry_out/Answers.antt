use Rattle.std.proofs.Common.{◌∙◌, sym}
use Rattle.status_reading.specs.Rows.{page_view}
use Rattle.operator_sending.proofs.ReportSteps.{unwatched, watched, unanswered}
use Rattle.operator_sending.proofs.requests.carry_out.Goals as goal

pub returns-in-Err : goal.returns-in-Err
returns-in-Err g c =
    let done = g.G.Gateway.done in
    unanswered c.args.command.now (page_view c.args.before.now) (done c.args.gateway.now) (done c.send.new.self) c.in-Err.fault
    c.in-Err.ensures

pub returns-in-Ok-watch : goal.returns-in-Ok-watch
returns-in-Ok-watch g c =
    let done = g.G.Gateway.done in
    let seen = c.in-Ok-watch.ensures in
    watched c.args.command.now (page_view c.args.before.now) (done c.args.gateway.now) (done c.send.new.self) (done c.watch.new.gateway)
    c.in-Ok.reply seen.0 c.in-Ok-watch.seen _ c.in-Ok.ensures
    (rw c.act.ensures at (sym c.is_watched.ensures ∙ c.if-is_watched.true)) seen.1 seen.2 c.ending_of.ensures

pub returns : goal.returns
returns g c =
    let done = g.G.Gateway.done in
    unwatched c.args.command.now (page_view c.args.before.now) (done c.args.gateway.now) (done c.send.new.self) c.in-Ok.reply _
    c.in-Ok.ensures (rw c.act.ensures at (sym c.is_watched.ensures ∙ c.if-is_watched.false)) c.ending_of-2.ensures
