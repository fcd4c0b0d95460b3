pub mod Refusal
pub mod Tests
pub mod Token
pub mod Sent
pub mod Fields
pub mod Guard
