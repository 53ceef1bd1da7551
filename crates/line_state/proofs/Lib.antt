pub mod BracketLemmas
pub mod EditedLemmas
pub mod PlainTextLemmas
pub mod DrawnPartLemmas
