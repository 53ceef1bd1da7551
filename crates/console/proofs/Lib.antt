pub mod GrammarLemmas
pub mod LineLemmas
pub mod PartLemmas
pub mod ReadingLemmas
pub mod SettleLemmas
pub mod SpellingLemmas
