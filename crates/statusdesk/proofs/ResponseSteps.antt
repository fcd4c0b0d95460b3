-- The fields of a refusal.
use Rattle.std.proofs.Common.{◌≡◌, ◌≢◌, ℕ, [], arith}
use Rattle.statusdesk.specs.Responses.{allow_fields}

pub none_allowed : (code : ℕ) → code ≢ 405 → [] ≡ allow_fields code
none_allowed code other = grind arith
