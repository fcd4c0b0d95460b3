-- What the bytes of a packet are read as, by the form in which it is sent.
use Rattle.std.proofs.Common.{◌≡◌, ℕ, Bool, true, false, cond, List, length, take, drop, [], refl, subst}
use Rattle.gate_packet.specs.Packet.{Content}
use Rattle.gate_packet.specs.Decoding.{IsPacket}
use Rattle.gate_packet.specs.Encoding.{encoded}
use Rattle.gate_packet.specs.Stream.{begins_short, shortened}
use Rattle.gate_packet.proofs.ShortFronts.{short_is_block, long_is_block, front_is_block, read_as_short}
use Rattle.gate_replay.specs.SentPacket.{received_in}
use Rattle.gate_replay.specs.declared.script_line.PacketForm.TheVariants.{Long}
use Rattle.gate_replay.specs.inner.Sessions.{BeginsWith}

pub short_begins_with : (bytes : List ℕ) (p : Content) → length bytes ≡ 720 → IsPacket bytes p → BeginsWith bytes p
short_begins_with bytes p size is = record { block = bytes; more = []; begins = short_is_block bytes p size is; is_packet = is }

as_read : (b : Bool) (bytes : List ℕ) (p : Content) → begins_short bytes ≡ b → length bytes ≡ 4304 → IsPacket bytes p → BeginsWith bytes (cond b (shortened p) p)
as_read true bytes p short size is = record { block = take 720 bytes; more = drop 720 bytes; begins = front_is_block bytes short; is_packet = read_as_short bytes p is short }
as_read false bytes p other size is = record { block = bytes; more = []; begins = long_is_block bytes size other; is_packet = is }

pub long_begins_with : (bytes : List ℕ) (p : Content) → length bytes ≡ 4304 → bytes ≡ encoded 4304 p → IsPacket bytes p → BeginsWith bytes (received_in Long p)
long_begins_with bytes p size same is = subst (λ l. BeginsWith bytes (cond (begins_short l) (shortened p) p)) same (as_read (begins_short bytes) bytes p refl size is)
