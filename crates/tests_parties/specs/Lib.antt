pub mod Advisor
