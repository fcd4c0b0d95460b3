-- A gateway with a host, its service, a result that a packet had and a comment that a line spelled: `IsGateway` holds.
use Rattle.std.proofs.Common.{◌≡◌, ℕ, zero, suc, inl, inr, List, [], ◌∷◌, Ok, refl, arith}
use Rattle.std.specs.Prelude.{Some, None, pos, codes}
use Rattle.gate_model.specs.declared.record.Moment.{Moment}
use Rattle.gate_model.specs.declared.record.Record.{Record}
use Rattle.gate_model.specs.declared.object.ObjectLine.{ObjectLine}
use Rattle.gate_model.specs.declared.submission.Body.{Body}
use Rattle.gate_model.specs.declared.submission.Body.TheVariants as bodies
use Rattle.gate_table.specs.Faults.{fault_at}
use Rattle.gate_grammar.specs.Spelling.{Spells}
use Rattle.gate_grammar.specs.Examples.{on_literals, remark}
use Rattle.gate_grammar.specs.inner.Answers.{answer_of}
use Rattle.gate_grammar.proofs.ReadLaws.{answer_spells}
use Rattle.status_reading.specs.Gateway.{GatewayView, IsGateway}

abbrev table : List ObjectLine
table =
    record { host = codes "web1"; service = None; threshold = 300 }
    ∷ record { host = codes "web1"; service = Some (codes "HTTP"); threshold = 300 }
    ∷ []

faultless : (index : ℕ) → fault_at table index ≡ None
faultless zero = refl
faultless (suc zero) = refl
faultless (suc (suc index)) = refl

abbrev moment : ℕ → Moment
moment seconds = record { 0 = seconds }

abbrev at : ℕ → ℕ → ℕ → Body → Record
at seconds client number what =
    record { moment = moment seconds; item = record { client = client; number = number; body = what } }

abbrev gateway : GatewayView
gateway = record {
  table = table;
  opening = moment 1000;
  records =
      at 1100 1 1 (bodies.Result (codes "web1") (Some (codes "HTTP")) (pos 2) (codes "timeout; 10s"))
      ∷ at 1110 2 1 remark.body
      ∷ [];
  moment = moment 1120;
  closing = None;
}

remark_is_read : answer_of (codes "[1000] ADD_SVC_COMMENT;web1;HTTP;1;ann;a;b;c") ≡ Ok remark
unfolding on_literals
remark_is_read = refl

remark_is_spelled : Spells (codes "[1000] ADD_SVC_COMMENT;web1;HTTP;1;ann;a;b;c") remark
remark_is_spelled = answer_spells (Ok remark) (codes "[1000] ADD_SVC_COMMENT;web1;HTTP;1;ann;a;b;c") remark_is_read

is_a_gateway : IsGateway gateway
is_a_gateway = record {
  table = record { few = omega arith; each = faultless };
  few = omega arith;
  records = (
    record { submission = inl refl; moment = omega arith },
    (
      record {
        submission =
            inr (record {
              line = codes "[1000] ADD_SVC_COMMENT;web1;HTTP;1;ann;a;b;c";
              command = remark;
              spelled = remark_is_spelled;
              body_is = refl;
            });
        moment = omega arith;
      },
      tt,
    ),
  );
  moment = omega arith;
  closing = tt;
}
