-- That nothing is known was printed.
use Rattle.std.proofs.Common.{◌≡◌, ℕ, List, inr}
use Rattle.std.specs.Prelude.{Result, Ok, Err, IfOk, OnOk}
use Rattle.gate_streams.specs.Sink.{SinkState, Delivers}
use Rattle.operator_setup.specs.declared.fault.ControlFault.{ControlFault}
use Rattle.operator_checking.specs.Checked.{IsChecked, unknown_line}

pub unknown : (gateways : ℕ) (text : List ℕ) (before after : SinkState) (result : Result ℕ ControlFault)
    → OnOk result (Delivers before after (unknown_line text)) → IfOk result (λ status. status ≡ 3)
    → IfOk result (λ status. IsChecked gateways status before after)
unknown gateways text before after (Ok status) printed is = inr record { cause = text; printed = printed; status_is = is }
unknown gateways text before after (Err fault) printed is = printed
