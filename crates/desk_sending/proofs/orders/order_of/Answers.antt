use Rattle.desk_sending.proofs.OrderSteps.{one_line}
use Rattle.desk_sending.proofs.orders.order_of.Goals as goal

pub returns-in-Ok-clause-one : goal.returns-in-Ok-clause-one
returns-in-Ok-clause-one c =
    one_line c.in-Ok.line.items c.args.command c.in-Ok.ensures.canonical c.in-Ok.ensures.spells
    c.round_trip.ensures.one_at_most
