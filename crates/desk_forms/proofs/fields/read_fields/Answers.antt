use Rattle.std.proofs.Common.{◌≡◌, ℕ, ◌≤◌, List, ◌++◌, length, map, ap, sym, ◌∙◌, subst, refl, rules}
use Rattle.std.proofs.lemmas.Result.{err_from_is_err_and}
use Rattle.std.specs.List.{AllByRecursion, IsDistinct}
use Rattle.std.specs.Str.{bytes_eq}
use Rattle.form_urlencoded.specs.Form.{pair_text}
use Rattle.form_urlencoded.specs.Parse.{raw_pairs_left}
use Rattle.desk_forms.specs.declared.fields.Field.{Field}
use Rattle.desk_forms.specs.Fields.{IsText, field_of, fields_of, names_of}
use Rattle.desk_forms.proofs.FieldSteps.{distinct_none, fields_step, text_step, distinct_step, named_again, fault_of}
use Rattle.desk_forms.proofs.fields.read_fields.Goals as goal

pub loop-pair-init : goal.loop-pair-init
loop-pair-init c =
    let none = c.new-fields.ensures.items in
    record {
      fields = ap (λ (known : List Field). known ++ map field_of (raw_pairs_left c.raw_pairs-pairs.result)) none
          ∙ ap (map field_of) c.raw_pairs-pairs.ensures.value;
      text = subst (AllByRecursion IsText) (sym none) tt;
      distinct = subst (λ (known : List Field). IsDistinct bytes_eq (names_of known)) (sym none) distinct_none;
    }

pub returns-in_err-field-clause-refused : goal.returns-in_err-field-clause-refused
returns-in_err-field-clause-refused c =
    let known = c.loop-pair.fields.items in
    let body = c.args.body.now in
    let pair = pair_text c.in-Some.pair in
    let left = raw_pairs_left c.next.new.self in
    let joined = subst (λ (rest : List (List ℕ × List ℕ)). known ++ map field_of rest ≡ fields_of body) c.in-Some.ensures.steps c.loop-pair.invariant.fields in
    let short : length body ≤ 16384 = search rules in
    let p = err_from_is_err_and c.from_residual.result c.from_residual.ensures.1 in
    rw (p.1, p.2) (fault_of c.in_err-field.field-0.0 body known pair left short joined c.loop-pair.invariant.text c.loop-pair.invariant.distinct c.in_err-field.ensures.refused)

pub returns-then-is_named-clause-refused : goal.returns-then-is_named-clause-refused
returns-then-is_named-clause-refused c =
    let known = c.loop-pair.fields.items in
    let body = c.args.body.now in
    let pair = pair_text c.in-Some.pair in
    let left = raw_pairs_left c.next.new.self in
    let joined = subst (λ (rest : List (List ℕ × List ℕ)). known ++ map field_of rest ≡ fields_of body) c.in-Some.ensures.steps c.loop-pair.invariant.fields in
    let short : length body ≤ 16384 = search rules in
    let found = rw (c.as_slice.ensures.value, c.bytes.ensures) at c.if-is_named.ensures in
    named_again body known c.in_ok-field.field pair left short joined c.loop-pair.invariant.text c.loop-pair.invariant.distinct c.in_ok-field.ensures.field
    (c.in_ok-field.ensures.text refl) found

pub loop-pair-preserved : goal.loop-pair-preserved
loop-pair-preserved c =
    let known = c.loop-pair.fields.items in
    let body = c.args.body.now in
    let pair = pair_text c.in-Some.pair in
    let left = raw_pairs_left c.next.new.self in
    let field = c.in_ok-field.field in
    let joined = subst (λ (rest : List (List ℕ × List ℕ)). known ++ map field_of rest ≡ fields_of body) c.in-Some.ensures.steps c.loop-pair.invariant.fields in
    let none = rw (c.as_slice.ensures.value, c.bytes.ensures) at c.if-is_named.ensures in
    let more = sym c.in_ok-push.ensures.items in
    let text : IsText field = subst IsText (sym c.in_ok-field.ensures.field) (c.in_ok-field.ensures.text refl) in
    record {
      fields = subst (λ (items : List Field). items ++ map field_of left ≡ fields_of body) more
          (fields_step known field pair left (fields_of body) c.in_ok-field.ensures.field joined);
      text = subst (AllByRecursion IsText) more (text_step known field c.loop-pair.invariant.text text);
      distinct = subst (λ (items : List Field). IsDistinct bytes_eq (names_of items)) more
          (distinct_step known field c.loop-pair.invariant.distinct none);
    }
