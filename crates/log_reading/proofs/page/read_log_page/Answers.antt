use Rattle.std.proofs.Common.{◌≡◌, List}
use Rattle.std.specs.Prelude.{MatchResult}
use Rattle.log_reading.specs.declared.logged.Logged.{Logged}
use Rattle.log_reading.specs.declared.page.LogFault.TheVariants.{OutOfMemory}
use Rattle.log_reading.proofs.GatewaySteps.{reads_gateway}
use Rattle.log_reading.proofs.page.read_log_page.Goals as goal

pub returns-clause-gateway : goal.returns-clause-gateway
returns-clause-gateway c =
    reads_gateway c.args.text.now
    (λ (log : List Logged). MatchResult c.read_lines.result (λ found. found.items ≡ log) (λ fault. fault ≡ OutOfMemory))
    c.read_lines.ensures.read
