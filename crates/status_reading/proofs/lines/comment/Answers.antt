use Rattle.std.proofs.Common.{◌≡◌, ℕ, List, [], Bor, arith}
use Rattle.status_reading.specs.Rows.{comment_view}
use Rattle.status_reading.specs.Page.{comment_fields}
use Rattle.status_reading.specs.inner.Reading.{texts_of}
use Rattle.status_reading.proofs.ReadSteps.{reads_none, fields_are, field_at, texts_from, listed, apart_of}
use Rattle.status_reading.proofs.lines.comment.Goals as goal

abbrev none : Bor (List ℕ)
none = record { ref_ptr = (0, 0); now = [] }

pub returns-then-not-split : goal.returns-then-not-split
returns-then-not-split c = λ row readable same. c.if-not-split.ensures.none (comment_fields row) (omega arith) (same, readable.apart.split)

pub returns-in_err-number : goal.returns-in_err-number
returns-in_err-number c =
    reads_none _ _ _ comment_view _ c.from_residual.ensures
    (λ row readable same.
    let fields = fields_are c.split.new.fields c.args.text.now (comment_fields row) (omega arith) c.if-not-split.ensures.found readable.apart same in
    c.in_err-number.ensures row.id readable.id (field_at c.split.new.fields (comment_fields row) 0 none (omega arith) fields))

pub returns-in_err-source : goal.returns-in_err-source
returns-in_err-source c =
    reads_none _ _ _ comment_view _ c.from_residual-in_err-source.ensures
    (λ row readable same.
    let fields = fields_are c.split.new.fields c.args.text.now (comment_fields row) (omega arith) c.if-not-split.ensures.found readable.apart same in
    c.in_err-source.ensures row.source (field_at c.split.new.fields (comment_fields row) 3 none (omega arith) fields))

pub returns-in_err-persistent : goal.returns-in_err-persistent
returns-in_err-persistent c =
    reads_none _ _ _ comment_view _ c.from_residual-in_err-persistent.ensures
    (λ row readable same.
    let fields = fields_are c.split.new.fields c.args.text.now (comment_fields row) (omega arith) c.if-not-split.ensures.found readable.apart same in
    c.in_err-persistent.ensures row.persistent (field_at c.split.new.fields (comment_fields row) 4 none (omega arith) fields))

pub returns-in_err-number-2 : goal.returns-in_err-number-2
returns-in_err-number-2 c =
    reads_none _ _ _ comment_view _ c.from_residual-in_err-number-2.ensures
    (λ row readable same.
    let fields = fields_are c.split.new.fields c.args.text.now (comment_fields row) (omega arith) c.if-not-split.ensures.found readable.apart same in
    c.in_err-number-2.ensures row.moment readable.moment (field_at c.split.new.fields (comment_fields row) 5 none (omega arith) fields))

pub returns : goal.returns
returns c =
    let cuts = c.split.new.fields in
    let fields : texts_of cuts ≡ texts_from 0 8 cuts none = listed 8 cuts none (omega arith) in
    let known = rw (c.in_ok-number.ensures.0, c.in_ok-source.ensures, c.in_ok-persistent.ensures, c.in_ok-number-2.ensures.0) at fields in
    let both = apart_of cuts c.args.text.now _ known c.if-not-split.ensures.found c.requires in
    (both.0, record { apart = both.1; id = c.in_ok-number.ensures.1; moment = c.in_ok-number-2.ensures.1 })
