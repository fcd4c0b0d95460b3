-- The line of the audit log: `audit_text`. Own rule.
use Rattle.std.specs.Prelude.{ℕ, List, ◌∷◌, ◌++◌}
use Rattle.std.specs.Fmt.{decimal}
use Rattle.gate_model.specs.Escaping.{escaped}

-- moment, user, gateway, line and answer, with a tab (9) between them: no text has one, and none an LF
abbrev pub audit_text : ℕ → List ℕ → List ℕ → List ℕ → List ℕ → List ℕ
audit_text moment user gateway line answer =
    decimal moment
    ++ 9 ∷ escaped user
    ++ 9 ∷ escaped gateway
    ++ 9 ∷ escaped line
    ++ 9 ∷ escaped answer
