-- The number of a source is no other source's.
use Rattle.std.proofs.Common.{◌≡◌, refl}
use Rattle.status_reading.specs.declared.rows.ShownSource.{ShownSource}
use Rattle.status_reading.specs.declared.rows.ShownSource.TheVariants.{User, Acknowledgement, Downtime}
use Rattle.status_merge.specs.Entries.{source_number}

pub sources_apart : (one other : ShownSource) → source_number one ≡ source_number other → one ≡ other
sources_apart User User e = refl
sources_apart User Acknowledgement e = cc
sources_apart User Downtime e = cc
sources_apart Acknowledgement User e = cc
sources_apart Acknowledgement Acknowledgement e = refl
sources_apart Acknowledgement Downtime e = cc
sources_apart Downtime User e = cc
sources_apart Downtime Acknowledgement e = cc
sources_apart Downtime Downtime e = refl
