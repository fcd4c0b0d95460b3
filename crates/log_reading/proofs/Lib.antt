pub mod LastCut
pub mod BodySteps
pub mod LineSteps
pub mod PageSteps
pub mod GatewaySteps
