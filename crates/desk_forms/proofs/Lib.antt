pub mod FieldSteps
pub mod OfferSteps
pub mod RequestSteps
pub mod MomentSteps
pub mod FaultSteps
