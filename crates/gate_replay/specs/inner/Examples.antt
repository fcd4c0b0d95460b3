-- Worked steps of a gateway. Each holds by computing the definitions.
use Rattle.std.specs.Prelude.{◌≡◌, [], ◌∷◌, Some, None, Ok, pos, true, false, codes, refl}
use Rattle.std.specs.Fmt.{digits}
use Rattle.gate_model.specs.declared.object.Kind.TheVariants.{Host}
use Rattle.gate_model.specs.declared.record.Moment.{Moment}
use Rattle.gate_model.specs.declared.submission.Body.TheVariants.{DelComment}
use Rattle.gate_packet.specs.Packet.{content}
use Rattle.gate_grammar.specs.Numbers.{number_below}
use Rattle.gate_grammar.specs.Commands.{text_of, kinds_of, command_body}
use Rattle.gate_grammar.specs.Parsing.{parsed_line, fields_at, time_at, name_at, values_at, value_at}
use Rattle.gate_core.specs.Merge.{numbered}
use Rattle.gate_core.specs.declared.event.Event.TheVariants.{Close}
use Rattle.gate_core.specs.declared.event.Reply.TheVariants.{Begun}
use Rattle.gate_replay.specs.declared.script_line.PacketForm.TheVariants.{Short}
use Rattle.gate_replay.specs.SentPacket.{sent}
use Rattle.gate_replay.specs.declared.script.Step.TheVariants as step
use Rattle.gate_replay.specs.declared.setup.Setup.{Setup}
use Rattle.gate_replay.specs.ReplayState.{Heard, state_after}

abbrev at : Moment
at = record { 0 = 1000 }

abbrev setup : Setup
setup = record { table = []; moment = at; age = 30; capacity = 1; limit = 10; in_range = refl }

abbrev nothing : Heard
nothing = record { reply = Ok 0; closed = None; takes = [] }

-- a packet of 40 seconds ago is stale, and asks the queue nothing. It is sent in 720 bytes, where it is read as it was
-- sent by definition
stale_packet :
    state_after setup
    ((step.Packet (sent Short (content 1000 (pos 0) (codes "web1") [] (codes "up"))), nothing)
    ∷ (step.Clock (record { 0 = 1040 }), nothing) ∷ [])
    ≡ record {
      clock = record { 0 = 1040 };
      moment = at;
      run = [];
      records = [];
      printed = codes "Stale\n";
      full = false;
    }
stale_packet = refl

-- a first SHUTDOWN_PROGRAM begins the close
shutdown :
    state_after setup ((step.Line (codes "[1] SHUTDOWN_PROGRAM"), nothing) ∷ [])
    ≡ record {
      clock = at;
      moment = at;
      run = (Close at, Begun) ∷ [];
      records = [];
      printed = codes "closing\n";
      full = false;
    }
unfolding digits number_below text_of kinds_of command_body parsed_line fields_at time_at name_at values_at value_at
shutdown = refl

-- a line that is queued is recorded by its drain
recorded_line :
    (state_after setup
    ((
      step.Line (codes "[1] DEL_HOST_COMMENT;7"),
      record {
        reply = Ok 1;
        closed = None;
        takes = Some (numbered 2 1 (DelComment Host 7)) ∷ [];
      },
    ) ∷ [])).records
    ≡ record { moment = at; item = numbered 2 1 (DelComment Host 7) } ∷ []
unfolding digits number_below text_of kinds_of command_body parsed_line fields_at time_at name_at values_at value_at
recorded_line = refl

-- without that take the log would have been full with the item left
full_log :
    (state_after setup
    ((step.Line (codes "[1] DEL_HOST_COMMENT;7"), record { reply = Ok 1; closed = None; takes = [] }) ∷ [])).full
    ≡ true
unfolding digits number_below text_of kinds_of command_body parsed_line fields_at time_at name_at values_at value_at
full_log = refl
