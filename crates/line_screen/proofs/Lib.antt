pub mod LoneLemmas
pub mod QueueLemmas
