use Rattle.log_summary.proofs.json_lines.refusal_json.Goals as goal

pub returns : goal.returns
returns c =
    rw (
      c.outcome_name.ensures,
      c.word.ensures,
      c.as_str.ensures.value,
      c.shown.ensures,
      c.shown-2.ensures,
      c.as_str-2.ensures.value,
    ) at c.json_line.ensures
