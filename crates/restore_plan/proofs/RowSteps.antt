-- What is left after some rows, and then some more.
use Rattle.std.proofs.Common.{◌≡◌, ℕ, ◌+◌, List, drop, drop-drop, sym}

pub left_after : {A : Type 0} (more done : ℕ) (rows : List A) → drop (done + more) rows ≡ drop more (drop done rows)
left_after more done rows = sym (drop-drop more done rows)
