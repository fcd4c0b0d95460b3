-- A text that was read configures what was counted.
use Rattle.std.proofs.Common.{◌≡◌, ◌<◌, ◌≤◌, ℕ, List, length, inl, inr}
use Rattle.std.specs.Prelude.{◌⊎◌, Result, Ok, Err, IfOk, OnOk}
use Rattle.toml.specs.Data.{Members}
use Rattle.gate_streams.specs.Sink.{SinkState, Delivers}
use Rattle.gate_config.specs.declared.config.Config.{Config}
use Rattle.gate_config.specs.declared.fault.ConfigFault.{ConfigFault}
use Rattle.gate_config.specs.declared.fault.ConfigFault.TheVariants as fault
use Rattle.gate_config.specs.Config.{IsDocument, IsConfigOf}
use Rattle.config_testing.specs.Tested.{IsTested, good_line}

abbrev read : Config → Result Config ConfigFault
read config = Ok config

pub tested_of : (file text : List ℕ) (config : Config) (before after : SinkState)
    → (1048576 < length text → read config ≡ Err fault.TooLarge)
    → (length text ≤ 1048576 → ((document : Members) → ¬ IsDocument text document)
    → (read config ≡ Err fault.NotToml) ⊎ (read config ≡ Err fault.OutOfMemory))
    → ((document : Members) → IsDocument text document → IsConfigOf document config)
    → Delivers before after (good_line file config.table) → IsTested file before after
tested_of file text config before after too_large not_toml document printed = record {
  text = text;
  config = config;
  not_large = λ large. let e = too_large large in absurd (cc);
  is_document = λ small none. elim (not_toml small none) [ inl e ↦ absurd (cc) | inr e ↦ absurd (cc) ];
  configures = document;
  printed = printed;
}

pub on_ok : {A E : Type 0} {P Q : Type 0} (result : Result A E) → (P → Q) → OnOk result P → IfOk result (λ _. Q)
on_ok (Ok value) so has = so has
on_ok (Err fault) so has = tt
