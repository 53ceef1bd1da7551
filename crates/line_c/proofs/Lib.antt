pub mod Holding
pub mod Pair
pub mod Rows
pub mod Steps
