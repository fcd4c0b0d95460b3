use Rattle.std.proofs.Common.{◌≡◌, false, ◌∙◌, codes, rules}
use Rattle.std.specs.Str.{bytes_eq}
use Rattle.clap.specs.Words.{found_of, rows_of, subcommand_rows_of}
use Rattle.clap.proofs.WalkLemmas.{first_value-rows}
use Rattle.gate_words.proofs.WordSteps.{names_same, entered, asked_to_serve}
use Rattle.gate_words.proofs.words.request_in.Goals as goal

pub returns-in-Some : goal.returns-in-Some
returns-in-Some c =
    let not_replay : bytes_eq c.in_ok-name.name.now (codes "replay") ≡ false = search rules in
    asked_to_serve (subcommand_rows_of c.args.matches.now) c.in_ok-name.name.now (rows_of (found_of c.in_ok-name.found.now)) _
    (entered (subcommand_rows_of c.args.matches.now) _ _ (c.in_ok-name.ensures.name ∙ names_same _ _ _) c.in_ok-name.ensures.rows)
    not_replay (c.in-Some.ensures ∙ first_value-rows (found_of c.in_ok-name.found.now) (codes "config"))

pub returns-in-None : goal.returns-in-None
returns-in-None c =
    let not_replay : bytes_eq c.in_ok-name.name.now (codes "replay") ≡ false = search rules in
    asked_to_serve (subcommand_rows_of c.args.matches.now) c.in_ok-name.name.now (rows_of (found_of c.in_ok-name.found.now)) _
    (entered (subcommand_rows_of c.args.matches.now) _ _ (c.in_ok-name.ensures.name ∙ names_same _ _ _) c.in_ok-name.ensures.rows)
    not_replay (c.in-None.ensures ∙ first_value-rows (found_of c.in_ok-name.found.now) (codes "config"))
