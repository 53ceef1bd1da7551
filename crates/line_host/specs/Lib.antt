pub mod Bound
pub mod Copied
pub mod Helped
pub mod Hosted
pub mod Names
pub mod New
pub mod Settings
pub mod Status
