-- A part of a page: markup of the program's own, a text from outside, which is escaped, or a number, as status_view has them.
use Rattle.std.specs.Prelude.{ℕ, List}
use Rattle.desk_view.specs.declared.parts.Part.{Part}
use Rattle.desk_view.specs.declared.parts.Part.TheVariants as part
use Rattle.status_view.specs.Layout.{Piece, Markup, Text, Number}

-- a part as a plain value
abbrev pub PartView : Type 0
PartView = Piece (List ℕ)

abbrev pub part_view : Part → PartView
part_view (part.Markup markup) = Markup markup.now
part_view (part.Text text) = Text text.now
part_view (part.Number number) = Number number
