use Rattle.std.proofs.Common.{◌≡◌, ℕ, List, [], Bor, arith}
use Rattle.status_reading.specs.Rows.{downtime_view}
use Rattle.status_reading.specs.Page.{downtime_fields}
use Rattle.status_reading.specs.inner.Reading.{texts_of}
use Rattle.status_reading.proofs.ReadSteps.{reads_none, fields_are, field_at, texts_from, listed, apart_of}
use Rattle.status_reading.proofs.lines.downtime.Goals as goal

abbrev none : Bor (List ℕ)
none = record { ref_ptr = (0, 0); now = [] }

pub returns-then-not-split : goal.returns-then-not-split
returns-then-not-split c = λ row readable same. c.if-not-split.ensures.none (downtime_fields row) (omega arith) (same, readable.apart.split)

pub returns-in_err-number : goal.returns-in_err-number
returns-in_err-number c =
    reads_none _ _ _ downtime_view _ c.from_residual.ensures
    (λ row readable same.
    let fields = fields_are c.split.new.fields c.args.text.now (downtime_fields row) (omega arith) c.if-not-split.ensures.found readable.apart same in
    c.in_err-number.ensures row.id readable.id (field_at c.split.new.fields (downtime_fields row) 0 none (omega arith) fields))

pub returns-in_err-fixed : goal.returns-in_err-fixed
returns-in_err-fixed c =
    reads_none _ _ _ downtime_view _ c.from_residual-in_err-fixed.ensures
    (λ row readable same.
    let fields = fields_are c.split.new.fields c.args.text.now (downtime_fields row) (omega arith) c.if-not-split.ensures.found readable.apart same in
    c.in_err-fixed.ensures row.fixed (field_at c.split.new.fields (downtime_fields row) 3 none (omega arith) fields))

pub returns-in_err-number-2 : goal.returns-in_err-number-2
returns-in_err-number-2 c =
    reads_none _ _ _ downtime_view _ c.from_residual-in_err-number-2.ensures
    (λ row readable same.
    let fields = fields_are c.split.new.fields c.args.text.now (downtime_fields row) (omega arith) c.if-not-split.ensures.found readable.apart same in
    c.in_err-number-2.ensures row.trigger readable.trigger (field_at c.split.new.fields (downtime_fields row) 4 none (omega arith) fields))

pub returns-in_err-number-3 : goal.returns-in_err-number-3
returns-in_err-number-3 c =
    reads_none _ _ _ downtime_view _ c.from_residual-in_err-number-3.ensures
    (λ row readable same.
    let fields = fields_are c.split.new.fields c.args.text.now (downtime_fields row) (omega arith) c.if-not-split.ensures.found readable.apart same in
    c.in_err-number-3.ensures row.start readable.start (field_at c.split.new.fields (downtime_fields row) 5 none (omega arith) fields))

pub returns-in_err-number-4 : goal.returns-in_err-number-4
returns-in_err-number-4 c =
    reads_none _ _ _ downtime_view _ c.from_residual-in_err-number-4.ensures
    (λ row readable same.
    let fields = fields_are c.split.new.fields c.args.text.now (downtime_fields row) (omega arith) c.if-not-split.ensures.found readable.apart same in
    c.in_err-number-4.ensures row.end readable.end (field_at c.split.new.fields (downtime_fields row) 6 none (omega arith) fields))

pub returns-in_err-number-5 : goal.returns-in_err-number-5
returns-in_err-number-5 c =
    reads_none _ _ _ downtime_view _ c.from_residual-in_err-number-5.ensures
    (λ row readable same.
    let fields = fields_are c.split.new.fields c.args.text.now (downtime_fields row) (omega arith) c.if-not-split.ensures.found readable.apart same in
    c.in_err-number-5.ensures row.duration readable.duration (field_at c.split.new.fields (downtime_fields row) 7 none (omega arith) fields))

pub returns-in_err-optional_number : goal.returns-in_err-optional_number
returns-in_err-optional_number c =
    reads_none _ _ _ downtime_view _ c.from_residual-in_err-optional_number.ensures
    (λ row readable same.
    let fields = fields_are c.split.new.fields c.args.text.now (downtime_fields row) (omega arith) c.if-not-split.ensures.found readable.apart same in
    c.in_err-optional_number.ensures row.begin readable.begin (field_at c.split.new.fields (downtime_fields row) 8 none (omega arith) fields))

pub returns : goal.returns
returns c =
    let cuts = c.split.new.fields in
    let fields : texts_of cuts ≡ texts_from 0 11 cuts none = listed 11 cuts none (omega arith) in
    let known = rw (c.in_ok-number.ensures.0, c.in_ok-fixed.ensures, c.in_ok-number-2.ensures.0, c.in_ok-number-3.ensures.0, c.in_ok-number-4.ensures.0, c.in_ok-number-5.ensures.0, c.in_ok-optional_number.ensures.0) at fields in
    let both = apart_of cuts c.args.text.now _ known c.if-not-split.ensures.found c.requires in
    (both.0, record { apart = both.1; id = c.in_ok-number.ensures.1; trigger = c.in_ok-number-2.ensures.1; start = c.in_ok-number-3.ensures.1; end = c.in_ok-number-4.ensures.1; duration = c.in_ok-number-5.ensures.1; begin = c.in_ok-optional_number.ensures.1 })
