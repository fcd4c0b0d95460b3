mod ScriptRows
pub mod ScriptSteps
pub mod Drains
pub mod SentPackets
pub mod SessionSteps
pub mod SoloSteps
pub mod PlaySteps
pub mod ReplayTexts
pub mod ReplayEnds
pub mod OneReplay
pub mod Numbers
pub mod Looks
