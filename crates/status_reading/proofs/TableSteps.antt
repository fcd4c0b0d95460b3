-- The names of a faultless table hold no semicolon.
use Rattle.std.proofs.Common.{◌≡◌, ℕ, ◌+◌, ◌==◌, Bool, true, false, not, List, [], ◌∷◌, Option, Some, None, refl}
use Rattle.std.specs.Prelude.{slice_get, IfSome, if◌then◌else◌}
use Rattle.std.specs.List.{list_any, AllByRecursion}
use Rattle.std.proofs.lemmas.Bool.{and_parts, or_parts, or_from, not-true}
use Rattle.gate_model.specs.declared.object.ObjectLine.{ObjectLine}
use Rattle.gate_table.specs.declared.table.TableFault.{TableFault}
use Rattle.gate_table.specs.declared.table.TableFault.TheVariants.{BadName}
use Rattle.gate_table.specs.Names.{is_barred, is_name}
use Rattle.gate_table.specs.Faults.{is_named, is_service_name, line_fault_at, IsFaultless}
use Rattle.gate_grammar.specs.Spelling.{holds}
use Rattle.gate_pages.specs.Rows.{host_of, service_of}
use Rattle.status_reading.specs.Board.{HoldsNone, MayHoldNone}
use Rattle.status_reading.proofs.EachSteps.{each_at, each_from_at}

-- the names of a line hold no semicolon
pub record IsPlainLine (line : ObjectLine) : Type 0 where
  pub host : HoldsNone line.host
  pub service : MayHoldNone line.service

unbarred : (name : List ℕ) → list_any is_barred name ≡ false → HoldsNone name
unbarred [] none = refl
unbarred (byte ∷ name) none =
    let parts = or_parts (is_barred byte) (list_any is_barred name) none in
    or_from (byte == 59) (holds 59 name) (or_parts _ (byte == 59) parts.0).1 (unbarred name parts.1)

name_plain : (most : ℕ) (name : List ℕ) → is_name most name ≡ true → HoldsNone name
name_plain most name is = unbarred name (not-true (list_any is_barred name) (and_parts _ _ is).1)

service_plain : (service : Option (List ℕ)) → is_service_name service ≡ true → MayHoldNone service
service_plain None is = tt
service_plain (Some name) is = name_plain 127 name is

line_plain : (line : ObjectLine) → is_named line ≡ true → IsPlainLine line
line_plain line is =
    let both = and_parts (is_name 63 line.host) (is_service_name line.service) is in
    record { host = name_plain 63 line.host both.0; service = service_plain line.service both.1 }

-- a line whose names are faulty is a faulty line
named : (good : Bool) (fault : TableFault) (rest : Option TableFault) → (if not good then Some fault else rest) ≡ None
    → good ≡ true
named true fault rest is = refl
named false fault rest is = cc

plain_at : (lines : List ObjectLine) (index : ℕ) (found : Option ObjectLine) → line_fault_at lines index found ≡ None
    → IfSome found IsPlainLine
plain_at lines index None is = tt
plain_at lines index (Some line) is = line_plain line (named (is_named line) (BadName (index + 1)) _ is)

pub plain_lines : (table : List ObjectLine) → IsFaultless table → AllByRecursion IsPlainLine table
plain_lines table good =
    each_from_at IsPlainLine table (λ index. plain_at table index (slice_get table index) (good.each index))

-- ---- the names of an object of the table, or of none

host_plain : (found : Option ObjectLine) → IfSome found IsPlainLine → HoldsNone (host_of found)
host_plain None plain = refl
host_plain (Some line) plain = plain.host

service_of_plain : (found : Option ObjectLine) → IfSome found IsPlainLine → MayHoldNone (service_of found)
service_of_plain None plain = tt
service_of_plain (Some line) plain = plain.service

pub plain_host : (table : List ObjectLine) (place : ℕ) → AllByRecursion IsPlainLine table
    → HoldsNone (host_of (slice_get table place))
plain_host table place plain = host_plain (slice_get table place) (each_at IsPlainLine table place plain)

pub plain_service : (table : List ObjectLine) (place : ℕ) → AllByRecursion IsPlainLine table
    → MayHoldNone (service_of (slice_get table place))
plain_service table place plain = service_of_plain (slice_get table place) (each_at IsPlainLine table place plain)
