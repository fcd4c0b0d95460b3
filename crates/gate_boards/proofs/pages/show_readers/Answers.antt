use Rattle.gate_boards.proofs.Readers.{shown_next, shown_last, shown_all}
use Rattle.gate_boards.proofs.pages.show_readers.Goals as goal

pub returns-in_default : goal.returns-in_default
returns-in_default g c =
    shown_all (g.C.Connections.streams c.args.connections.now) (g.C.Connections.streams c.loop.connections) (g.C.Connections.streams c.next-in-loop.new.self)
    (g.C.Connections.parted c.args.connections.now) (g.C.Connections.parted c.loop.connections) (g.C.Connections.parted c.next-in-loop.new.self)
    c.loop.invariant.2 c.in_default.ensures.comes c.in_default.ensures.none_parts

pub returns-then-is_last : goal.returns-then-is_last
returns-then-is_last g c =
    shown_last (g.C.Connections.streams c.args.connections.now) (g.C.Connections.streams c.loop.connections) (g.C.Connections.streams c.next-in-loop.new.self)
    (g.C.Connections.parted c.args.connections.now) (g.C.Connections.parted c.loop.connections) (g.C.Connections.parted c.next-in-loop.new.self) (g.C.Connections.parted c.part.new.self)
    (g.C.In.Source.state c.in-Some-next.piece.input).left _ _ c.show_page-is_last.result c.loop.invariant.2 c.in-Some-next.ensures.comes c.in-Some-next.ensures.none_parts
    c.part.ensures.parts c.show_page-is_last.ensures c.if-is_last.true

pub loop-preserved : goal.loop-preserved
loop-preserved g c = (
  tt,
  tt,
  shown_next (g.C.Connections.streams c.args.connections.now) (g.C.Connections.streams c.loop.connections) (g.C.Connections.streams c.next-in-loop.new.self) (g.C.Connections.streams c.part.new.self)
      (g.C.Connections.parted c.args.connections.now) (g.C.Connections.parted c.loop.connections) (g.C.Connections.parted c.next-in-loop.new.self) (g.C.Connections.parted c.part.new.self)
      (g.C.In.Source.state c.in-Some-next.piece.input).left _ _ c.show_page-is_last.result c.loop.invariant.2 c.in-Some-next.ensures.comes c.in-Some-next.ensures.none_parts
      c.part.ensures.none_comes c.part.ensures.parts c.show_page-is_last.ensures c.if-is_last.false,
)
