pub mod CountLemmas
pub mod KeyLemmas
pub mod RedoLemmas
pub mod SetLemmas
pub mod TableLemmas
