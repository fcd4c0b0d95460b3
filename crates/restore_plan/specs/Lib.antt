pub mod Fates
pub mod Entries
pub mod Plan
pub mod Rehearsal
pub mod PagePlan
pub mod Scheduling
pub mod Acceptance
