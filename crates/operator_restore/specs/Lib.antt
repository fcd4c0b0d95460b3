pub mod Escapes
pub mod Printed
pub mod Pages
pub mod Kept
pub mod Naming
pub mod Prospect
pub mod Faults
pub mod inner
