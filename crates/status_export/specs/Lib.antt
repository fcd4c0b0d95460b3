pub mod Document
pub mod Gauges
pub mod Metrics
pub mod inner
pub mod Lines
