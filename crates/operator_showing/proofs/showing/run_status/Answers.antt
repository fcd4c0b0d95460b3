use Rattle.std.proofs.Common.{sym, ◌∙◌}
use Rattle.status_merge.specs.Asking.{asked_by}
use Rattle.operator_ports.specs.declared.next.Next.TheVariants.{Page}
use Rattle.operator_showing.proofs.ShownSteps.{json_shown, chosen_shown, page_shown}
use Rattle.operator_showing.proofs.showing.run_status.Goals as goal

pub returns-then-json-clause-shown : goal.returns-then-json-clause-shown
returns-then-json-clause-shown g c =
    let done = g.G.Gateway.done in
    json_shown c.show_json.result c.args.json c.args.wanted.0.now c.args.wanted.1.now (asked_by c.in_ok-query.query) c.as_slice-text.result.now c.args.name.now
    (done c.args.gateway.now) (done c.page.new.self) (g.W.Sink.state c.args.output.now) (g.W.Sink.state c.show_json.new.output)
    (record { first = Page c.in-Ok.text; is_text = c.as_slice-text.ensures.value; done = c.in-Ok.ensures })
    c.if-json.true c.in_ok-query.ensures.asked c.show_json.ensures.shown

pub returns-then-are_chosen-clause-shown : goal.returns-then-are_chosen-clause-shown
returns-then-are_chosen-clause-shown g c =
    let done = g.G.Gateway.done in
    chosen_shown c.show_chosen.result c.args.json c.args.wanted.0.now c.args.wanted.1.now (asked_by c.in_ok-query.query) c.as_slice-text.result.now c.args.name.now
    (done c.args.gateway.now) (done c.page.new.self) (g.W.Sink.state c.args.output.now) (g.W.Sink.state c.show_chosen.new.output)
    (record { first = Page c.in-Ok.text; is_text = c.as_slice-text.ensures.value; done = c.in-Ok.ensures })
    c.if-json.false (sym c.are_chosen.ensures ∙ c.if-are_chosen.true) c.in_ok-query.ensures.asked c.show_chosen.ensures.shown

pub returns-clause-shown : goal.returns-clause-shown
returns-clause-shown g c =
    let done = g.G.Gateway.done in
    page_shown c.show.result c.args.json c.args.wanted.0.now c.args.wanted.1.now (asked_by c.in_ok-query.query) c.as_slice-text.result.now c.args.name.now
    (done c.args.gateway.now) (done c.page.new.self) (g.W.Sink.state c.args.output.now) (g.W.Sink.state c.show.new.output)
    (record { first = Page c.in-Ok.text; is_text = c.as_slice-text.ensures.value; done = c.in-Ok.ensures })
    c.if-json.false (sym c.are_chosen.ensures ∙ c.if-are_chosen.false) c.in_ok-query.ensures.asked c.show.ensures.shown
