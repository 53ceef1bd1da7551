pub mod Screen
pub mod ScreenLaws
pub mod Typist
pub mod Watcher
