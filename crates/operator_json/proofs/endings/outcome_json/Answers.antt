use Rattle.operator_json.proofs.endings.outcome_json.Goals as goal

pub returns : goal.returns
returns c =
    rw (c.from.ensures, c.status.ensures, c.outcome_word.ensures, c.id_of.ensures, c.state_of.ensures) at c.json_line.ensures
