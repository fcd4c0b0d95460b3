pub mod AuditSteps
pub mod OrderSteps
