-- The status of the answer to a request for which nothing is sent (RFC 9110, section 15). Own rule: which one.
use Rattle.std.specs.Prelude.{ℕ}
use Rattle.desk_guard.specs.declared.refusal.Refusal.{Refusal}
use Rattle.desk_guard.specs.declared.refusal.Refusal.TheVariants.{WrongMethod, WrongHost, OtherSite, WrongKind, NoUser, UnknownUser, OldToken, Repeated, TooMany, OutOfMemory}

-- See Other for a form that was sent already; Forbidden; Method Not Allowed; Unsupported Media Type; Misdirected
-- Request; Service Unavailable
abbrev pub status_of : Refusal → ℕ
status_of Repeated = 303
status_of OtherSite = 403
status_of NoUser = 403
status_of UnknownUser = 403
status_of OldToken = 403
status_of WrongMethod = 405
status_of WrongKind = 415
status_of WrongHost = 421
status_of TooMany = 503
status_of OutOfMemory = 503
