-- How the steps before a daemon serves end.
use Rattle.std.proofs.Common.{◌≡◌, ℕ, ◌<◌, ◌≤◌, ◌⊎◌, List, length, inl, inr}
use Rattle.std.specs.Prelude.{Result, Ok, Err}
use Rattle.toml.specs.Data.{Members}
use Rattle.gate_config.specs.declared.config.Config.{Config}
use Rattle.gate_config.specs.declared.fault.ConfigFault.{ConfigFault}
use Rattle.gate_config.specs.declared.fault.ConfigFault.TheVariants as config_fault
use Rattle.gate_config.specs.Check.{IsFirstFault}
use Rattle.gate_config.specs.Config.{IsDocument, IsConfigOf}
use Rattle.gate_config.specs.Document.{document_checks}
use Rattle.gate_start.specs.BeforeServing.{Configures, IsNoDocument}
use Rattle.gate_start.specs.inner.Reading.{IsReadFault}

abbrev read : Config → Result Config ConfigFault
read config = Ok config

abbrev not_read : ConfigFault → Result Config ConfigFault
not_read found = Err found

-- a text that was read configures what was read
pub configures_of : (text : List ℕ) (config : Config) → (1048576 < length text → read config ≡ Err config_fault.TooLarge) → (length text ≤ 1048576 → IsNoDocument text → (read config ≡ Err config_fault.NotToml) ⊎ (read config ≡ Err config_fault.OutOfMemory)) → ((document : Members) → IsDocument text document → IsConfigOf document config) → Configures text config
configures_of text config too_large not_toml document = record {
  not_large = λ large. let e = too_large large in absurd (cc);
  is_document = λ small none. elim (not_toml small none) [ inl e ↦ absurd (cc) | inr e ↦ absurd (cc) ];
  config_of = document;
}

-- what is known where the reading of a text fails
pub read_fault_of : (text : List ℕ) (found : ConfigFault) → (1048576 < length text → not_read found ≡ Err config_fault.TooLarge) → (length text ≤ 1048576 → IsNoDocument text → (not_read found ≡ Err config_fault.NotToml) ⊎ (not_read found ≡ Err config_fault.OutOfMemory)) → ((document : Members) → IsDocument text document → IsFirstFault (document_checks document) found) → IsReadFault text found
read_fault_of text found too_large not_toml first = record {
  too_large = λ large. let e = too_large large in cc;
  not_toml = λ small none. elim (not_toml small none) [ inl e ↦ inl (cc) | inr e ↦ inr (cc) ];
  first = first;
}
