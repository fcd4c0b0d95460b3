-- A list of parts that is appended in several steps.
use Rattle.std.proofs.Common.{◌≡◌, List, Result, Ok, Err, ◌∙◌}
use Rattle.std.specs.Prelude.{OnOk}

-- once the last parts are appended, the whole is there
pub ended : {X E : Type 0} (result : Result (Unit {0}) E) (back all whole : List X)
    → OnOk result (back ≡ all)
    → all ≡ whole
    → OnOk result (back ≡ whole)
ended (Ok done) back all whole is same = is ∙ same
ended (Err fault) back all whole is same = tt
