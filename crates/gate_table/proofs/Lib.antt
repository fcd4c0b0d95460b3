pub mod KeySteps
pub mod IndexSteps
pub mod BuilderSteps
pub mod Hosts
pub mod Faults
pub mod ServiceSteps
pub mod ServicePlaces
