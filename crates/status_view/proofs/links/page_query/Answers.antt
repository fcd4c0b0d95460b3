use Rattle.std.proofs.Common.{◌<◌, ap, refl, sym, ◌∙◌, All}
use Rattle.std.proofs.lemmas.List.Elements.{All-from_recursion}
use Rattle.status_merge.specs.Asking.{asked_by, with_choice, choice_of, mark_of, sort_of}
use Rattle.status_view.specs.Links.{text_pairs, page_query}
use Rattle.status_view.specs.inner.Pairs.{IsTextPair}
use Rattle.status_view.proofs.QueryLaws.{query_read, valued}
use Rattle.status_view.proofs.links.page_query.Goals as goal

pub returns-clause-query : goal.returns-clause-query
unfolding page_query
returns-clause-query c =
    rw (
      c.finish.ensures,
      c.in_ok-push_pair-10.ensures.pair,
      c.in_ok-push_pair-9.ensures.pair,
      c.in_ok-push_pair-8.ensures.pair,
      c.in_ok-push_pair-7.ensures.pair,
      c.in_ok-push_pair-6.ensures.pair,
      c.in_ok-push_pair-5.ensures.pair,
      c.in_ok-push_pair-4.ensures.pair,
      c.in_ok-push_pair-3.ensures.pair,
      c.in_ok-push_pair-2.ensures.pair,
      c.in_ok-push_pair.ensures.pair,
      c.in_ok-form.ensures.form,
      c.as_slice.ensures.value,
      c.as_str-6.ensures.value,
      c.in_ok-to_string-2.ensures.ok,
      c.as_str-5.ensures.value,
      c.in_ok-to_string.ensures.ok,
      c.sort_name.ensures.word,
      c.mark_name-2.ensures.word,
      c.mark_name.ensures.word,
      c.as_str-4.ensures.value,
      c.as_str-3.ensures.value,
      c.as_str-2.ensures.value,
      c.as_str.ensures.value,
      c.choice_name.ensures.word,
    ) refl

pub returns-clause-read : goal.returns-clause-read
returns-clause-read c =
    let query = c.args.query.now in
    let asked = with_choice c.args.choice (asked_by query) in
    let texts = All-from_recursion IsTextPair (text_pairs asked query.refresh c.args.sort c.args.page) (
      valued _ _ _ c.choice_name.ensures.word c.push_pair.ensures.texts,
      (
        valued _ _ _ c.as_str.ensures.value c.push_pair-2.ensures.texts,
        (
          valued _ _ _ c.as_str-2.ensures.value c.push_pair-3.ensures.texts,
          (
            valued _ _ _ c.as_str-3.ensures.value c.push_pair-4.ensures.texts,
            (
              valued _ _ _ c.as_str-4.ensures.value c.push_pair-5.ensures.texts,
              (
                valued _ _ _ c.mark_name.ensures.word c.push_pair-6.ensures.texts,
                (
                  valued _ _ _ c.mark_name-2.ensures.word c.push_pair-7.ensures.texts,
                  (
                    valued _ _ _ c.sort_name.ensures.word c.push_pair-8.ensures.texts,
                    (
                      valued _ _ _ (c.as_str-5.ensures.value ∙ c.in_ok-to_string.ensures.ok) c.push_pair-9.ensures.texts,
                      (valued _ _ _ (c.as_str-6.ensures.value ∙ c.in_ok-to_string-2.ensures.ok) c.push_pair-10.ensures.texts, tt),
                    ),
                  ),
                ),
              ),
            ),
          ),
        ),
      ),
    ) in
    let bytes : All (λ byte. byte < 256) asked.hostname = rw c.as_slice.ensures.value at c.in_ok-form.ensures.bytes in
    λ least small. query_read asked query.refresh c.args.sort c.args.page texts bytes
    (ap choice_of (sym c.choice_name.ensures.word) ∙ c.choice_name.ensures.read)
    (ap mark_of (sym c.mark_name.ensures.word) ∙ c.mark_name.ensures.read)
    (ap mark_of (sym c.mark_name-2.ensures.word) ∙ c.mark_name-2.ensures.read)
    (ap sort_of (sym c.sort_name.ensures.word) ∙ c.sort_name.ensures.read)
    least small
