use Rattle.gate_reader.specs.Session.{client_view}
use Rattle.gate_reader.proofs.PieceJoins.{served_packets_join, packet_pieces_join, first_packet_piece_joins, first_packet_piece_is_session}
use Rattle.gate_reader.proofs.law.packets_join.Goals as goal

pub returns-clause-served : goal.returns-clause-served
returns-clause-served g c number age = served_packets_join (client_view g.S.Submit number) age

pub returns-clause-pieces : goal.returns-clause-pieces
returns-clause-pieces g c number age = packet_pieces_join (client_view g.S.Submit number) g.C.Clock.state age

pub returns-clause-first : goal.returns-clause-first
returns-clause-first g c number age = first_packet_piece_joins (client_view g.S.Submit number) g.C.Clock.state age

pub returns-clause-session : goal.returns-clause-session
returns-clause-session g c number age = first_packet_piece_is_session (client_view g.S.Submit number) g.C.Clock.state age
