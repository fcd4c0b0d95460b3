-- The guard of a run: what its words name, and its key.
use Rattle.std.specs.Prelude.{◌≡◌, ℕ, List}
use Rattle.desk_guard.specs.declared.guard.Guard.{Guard}
use Rattle.desk_words.specs.declared.words.Settings.{Settings}

pub record IsGuardOf (settings : Settings) (key : List ℕ) (guard : Guard) : Type 0 where
  pub hosts : guard.hosts.items ≡ settings.hosts.items
  pub user_header : guard.user_header ≡ settings.user_header
  pub users : guard.users.items ≡ settings.users.items
  pub key_is : guard.key ≡ key
