pub mod Handle
pub mod OnSession
