-- How long browsers are waited for. Own rules; times are in milliseconds.
use Rattle.std.specs.Prelude.{ℕ}
use Rattle.web_connections.specs.declared.browser.Owed.{Owed}
use Rattle.web_connections.specs.declared.browser.Owed.TheVariants.{Request, Taking, End}

-- for how long a browser may owe a whole request, since it was accepted; that it takes its answer, since then; and the end
-- of its side, since it was sent all
abbrev pub limit_of : Owed → ℕ
limit_of Request = 4000
limit_of Taking = 10000
limit_of End = 500
