use Rattle.std.proofs.Common.{◌≡◌, ℕ, List, [], Bor, arith}
use Rattle.status_reading.specs.Rows.{object_view}
use Rattle.status_reading.specs.Page.{object_fields}
use Rattle.status_reading.specs.inner.Reading.{texts_of}
use Rattle.status_reading.proofs.ReadSteps.{reads_none, fields_are, field_at, texts_from, listed, apart_of}
use Rattle.status_reading.proofs.lines.object.Goals as goal

abbrev none : Bor (List ℕ)
none = record { ref_ptr = (0, 0); now = [] }

pub returns-then-not-split : goal.returns-then-not-split
returns-then-not-split c = λ row readable same. c.if-not-split.ensures.none (object_fields row) (omega arith) (same, readable.apart.split)

pub returns-in_err-state : goal.returns-in_err-state
returns-in_err-state c =
    reads_none _ _ _ object_view _ c.from_residual.ensures
    (λ row readable same.
    let fields = fields_are c.split.new.fields c.args.text.now (object_fields row) (omega arith) c.if-not-split.ensures.found readable.apart same in
    c.in_err-state.ensures row.state (field_at c.split.new.fields (object_fields row) 2 none (omega arith) fields))

pub returns-in_err-optional_number : goal.returns-in_err-optional_number
returns-in_err-optional_number c =
    reads_none _ _ _ object_view _ c.from_residual-in_err-optional_number.ensures
    (λ row readable same.
    let fields = fields_are c.split.new.fields c.args.text.now (object_fields row) (omega arith) c.if-not-split.ensures.found readable.apart same in
    c.in_err-optional_number.ensures row.last readable.last (field_at c.split.new.fields (object_fields row) 3 none (omega arith) fields))

pub returns-in_err-stale : goal.returns-in_err-stale
returns-in_err-stale c =
    reads_none _ _ _ object_view _ c.from_residual-in_err-stale.ensures
    (λ row readable same.
    let fields = fields_are c.split.new.fields c.args.text.now (object_fields row) (omega arith) c.if-not-split.ensures.found readable.apart same in
    c.in_err-stale.ensures row.stale (field_at c.split.new.fields (object_fields row) 4 none (omega arith) fields))

pub returns-in_err-acknowledgement : goal.returns-in_err-acknowledgement
returns-in_err-acknowledgement c =
    reads_none _ _ _ object_view _ c.from_residual-in_err-acknowledgement.ensures
    (λ row readable same.
    let fields = fields_are c.split.new.fields c.args.text.now (object_fields row) (omega arith) c.if-not-split.ensures.found readable.apart same in
    c.in_err-acknowledgement.ensures row.acknowledgement (field_at c.split.new.fields (object_fields row) 5 none (omega arith) fields))

pub returns-in_err-number : goal.returns-in_err-number
returns-in_err-number c =
    reads_none _ _ _ object_view _ c.from_residual-in_err-number.ensures
    (λ row readable same.
    let fields = fields_are c.split.new.fields c.args.text.now (object_fields row) (omega arith) c.if-not-split.ensures.found readable.apart same in
    c.in_err-number.ensures row.depth readable.depth (field_at c.split.new.fields (object_fields row) 6 none (omega arith) fields))

pub returns : goal.returns
returns c =
    let cuts = c.split.new.fields in
    let fields : texts_of cuts ≡ texts_from 0 8 cuts none = listed 8 cuts none (omega arith) in
    let known = rw (c.in_ok-state.ensures, c.in_ok-optional_number.ensures.0, c.in_ok-stale.ensures, c.in_ok-acknowledgement.ensures, c.in_ok-number.ensures.0) at fields in
    let both = apart_of cuts c.args.text.now _ known c.if-not-split.ensures.found c.requires in
    (both.0, record { apart = both.1; last = c.in_ok-optional_number.ensures.1; depth = c.in_ok-number.ensures.1 })
