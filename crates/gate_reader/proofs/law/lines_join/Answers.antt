use Rattle.gate_reader.specs.Lines.{operator_view}
use Rattle.gate_reader.proofs.PieceJoins.{served_lines_join, line_pieces_join, line_piece_is_session}
use Rattle.gate_reader.proofs.law.lines_join.Goals as goal

pub returns-clause-served : goal.returns-clause-served
returns-clause-served g c number = served_lines_join (operator_view g.O.Submit g.O.Operator number)

pub returns-clause-pieces : goal.returns-clause-pieces
returns-clause-pieces g c number = line_pieces_join (operator_view g.O.Submit g.O.Operator number) g.C.Clock.state

pub returns-clause-session : goal.returns-clause-session
returns-clause-session g c number = line_piece_is_session (operator_view g.O.Submit g.O.Operator number) g.C.Clock.state
