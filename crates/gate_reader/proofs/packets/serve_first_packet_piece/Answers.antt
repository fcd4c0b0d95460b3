use Rattle.std.proofs.Common.{[], ◌∷◌, sym, ◌∙◌, inl}
use Rattle.gate_environment.proofs.Readings.{shows_one, shows_append}
use Rattle.gate_reader.proofs.Sessions.{fed_ok}
use Rattle.gate_reader.proofs.packets.serve_first_packet_piece.Goals as goal

pub returns-clause-piece : goal.returns-clause-piece
returns-clause-piece g c =
    let clock = g.C.Clock.state in
    let greeted = c.greet.ensures.greeted in
    let piece = c.serve_packet_piece.ensures.piece in
    record {
      now = greeted.0;
      readings = piece.readings;
      clock = shows_append (clock c.args.clock.now) (clock c.greet.new.clock) (clock c.serve_packet_piece.new.clock) (greeted.0 ∷ []) piece.readings
          (shows_one (clock c.args.clock.now) (clock c.greet.new.clock) greeted.0 greeted.1) piece.clock;
      outcome = inl (record {
        written = fed_ok c.greet.result _ greeted.2 (sym c.is_err.ensures.value ∙ c.if-is_err.false);
        served = piece.served;
      });
    }
