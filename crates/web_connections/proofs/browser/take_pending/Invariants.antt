use Rattle.std.proofs.Common.{◌≡◌, ◌++◌, length}
use Rattle.http_server.specs.Connection.{history}
use Rattle.web_connections.proofs.browser.take_pending.Given as goal

abbrev pub invariant-loop-connection : goal.invariant-loop-connection
invariant-loop-connection l = l.text.items ++ (history l.connection).pending ≡ (history l.fn.connection).pending

abbrev pub decreases-loop-connection : goal.decreases-loop-connection
decreases-loop-connection l = length (history l.connection).pending
