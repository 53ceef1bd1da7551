pub mod Error
pub mod Settings
pub mod Failures
pub mod PromptText
