-- Words, and what they ask for.
use Rattle.std.proofs.Common.{◌≡◌, [], ◌∷◌, true, false, Some, None, option_map, codes, refl}
use Rattle.clap.proofs.OnLiterals.{clap_on_literals}
use Rattle.operator_commands.specs.declared.request.Asked.{Asked}
use Rattle.operator_commands.specs.declared.request.Request.TheVariants as request
use Rattle.operator_commands.specs.declared.request.Task.TheVariants as task
use Rattle.operator_words.specs.Words.{asked_of}

a_service : option_map (λ (asked : Asked). asked.task) (asked_of (codes "unack" ∷ codes "web1" ∷ codes "HTTP" ∷ []))
    ≡ Some (task.Command (request.Unack (record { host = codes "web1"; service = Some (codes "HTTP") })))
unfolding clap_on_literals
a_service = refl

no_comment : asked_of (codes "ack" ∷ codes "web1" ∷ []) ≡ None
unfolding clap_on_literals
no_comment = refl

short_comment : option_map (λ (asked : Asked). asked.task) (asked_of (codes "ack" ∷ codes "web1" ∷ codes "-c" ∷ codes "on it" ∷ codes "--sticky" ∷ []))
    ≡ Some (task.Command (request.Ack (record { host = codes "web1"; service = None }) (record { text = codes "on it"; author = None }) true false))
unfolding clap_on_literals
short_comment = refl

two_ids : option_map (λ (asked : Asked). asked.task) (asked_of (codes "cancel" ∷ codes "3" ∷ codes "7" ∷ []))
    ≡ Some (task.Command (request.Cancel (codes "3" ∷ codes "7" ∷ [])))
unfolding clap_on_literals
two_ids = refl

no_words : asked_of [] ≡ None
unfolding clap_on_literals
no_words = refl

a_log : option_map (λ (asked : Asked). asked.task) (asked_of (codes "log" ∷ codes "day" ∷ codes "--since" ∷ codes "9" ∷ codes "--json" ∷ []))
    ≡ Some (task.Log (codes "day") (Some (codes "9")))
unfolding clap_on_literals
a_log = refl
