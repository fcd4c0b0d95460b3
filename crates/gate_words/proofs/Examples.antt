-- Words, and what they ask for.
use Rattle.std.proofs.Common.{◌≡◌, [], ◌∷◌, Some, None, codes, refl}
use Rattle.clap.proofs.OnLiterals.{clap_on_literals}
use Rattle.gate_words.specs.Words.{replay, serve, asked_of}

replay_alone : asked_of (codes "replay" ∷ []) ≡ Some replay
unfolding clap_on_literals
replay_alone = refl

path_of_its_own : asked_of (codes "serve" ∷ codes "--config" ∷ codes "a.toml" ∷ []) ≡ Some (serve (codes "a.toml"))
unfolding clap_on_literals
path_of_its_own = refl

path_in_one_word : asked_of (codes "serve" ∷ codes "--config=a.toml" ∷ []) ≡ Some (serve (codes "a.toml"))
unfolding clap_on_literals
path_in_one_word = refl

no_words : asked_of [] ≡ None
unfolding clap_on_literals
no_words = refl

no_path : asked_of (codes "serve" ∷ []) ≡ None
unfolding clap_on_literals
no_path = refl

no_path_after_config : asked_of (codes "serve" ∷ codes "--config" ∷ []) ≡ None
unfolding clap_on_literals
no_path_after_config = refl

two_paths : asked_of (codes "serve" ∷ codes "--config=a" ∷ codes "--config=b" ∷ []) ≡ None
unfolding clap_on_literals
two_paths = refl

word_too_many : asked_of (codes "replay" ∷ codes "x" ∷ []) ≡ None
unfolding clap_on_literals
word_too_many = refl

other_letters : asked_of (codes "Replay" ∷ []) ≡ None
unfolding clap_on_literals
other_letters = refl

help : asked_of (codes "--help" ∷ []) ≡ None
unfolding clap_on_literals
help = refl
