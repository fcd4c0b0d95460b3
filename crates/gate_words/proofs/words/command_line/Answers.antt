use Rattle.std.proofs.Common.{◌≡◌, Some, true, false, codes, ap, ◌∙◌, refl}
use Rattle.std.proofs.lemmas.Result.{IfOk-weaker}
use Rattle.clap.specs.Words.{App, Rule, app_of, new_app, rule_of, with_rule, with_subcommand}
use Rattle.clap.specs.declared.builder.arg.Arg.{Arg}
use Rattle.clap.specs.declared.builder.ArgAction.TheVariants.{Set}
use Rattle.gate_words.specs.Words.{config, program, unnamed}
use Rattle.gate_words.proofs.words.command_line.Goals as goal

pub returns : goal.returns
returns c =
    let long = ap (λ (arg : Arg). record arg { required = true; action = Some Set }) c.long.ensures in
    let required = ap (λ (arg : Arg). record arg { action = Some Set }) c.required.ensures in
    let set = c.action-config.ensures ∙ required ∙ long in
    let rule : rule_of c.action-config.result ≡ config =
    ap rule_of set ∙ ap (λ (rule : Rule). record rule { long = Some (codes "config"); required = true; action = Some Set }) c.new.ensures.rule in
    let not_global : c.action-config.result.global ≡ false = ap (λ (arg : Arg). arg.global) set ∙ c.new.ensures.optional.1 in
    let serve : app_of c.in_ok-serve.serve ≡ with_rule (new_app (codes "serve")) config =
    c.in_ok-serve.ensures.shape not_global ∙ ap (λ (app : App). with_rule app (rule_of c.action-config.result)) c.new-2.ensures.app
    ∙ ap (with_rule (new_app (codes "serve"))) rule in
    let local = c.in_ok-serve.ensures.globals ∙ rw (c.new-2.ensures.local, not_global) refl in
    let unnamed_app : app_of c.no_binary_name.result ≡ unnamed (new_app (codes "nscagate")) =
    rw (c.no_binary_name.ensures) (ap unnamed c.new-3.ensures.app) in
    let replay : app_of c.in_ok-subcommand.field-0 ≡ with_subcommand (unnamed (new_app (codes "nscagate"))) (new_app (codes "replay")).top =
    c.in_ok-subcommand.ensures.shape c.new-4.ensures.local
    ∙ ap (λ (app : App). with_subcommand app (app_of c.new-4.result).top) unnamed_app
    ∙ ap (λ (app : App). with_subcommand (unnamed (new_app (codes "nscagate"))) app.top) c.new-4.ensures.app in
    IfOk-weaker c.subcommand-2.result _ (λ command. app_of command ≡ program)
    (λ command added. added.shape local ∙ ap (λ (app : App). with_subcommand app (app_of c.in_ok-serve.serve).top) replay
    ∙ ap (λ (app : App). with_subcommand (with_subcommand (unnamed (new_app (codes "nscagate"))) (new_app (codes "replay")).top) app.top) serve)
    c.subcommand-2.ensures
