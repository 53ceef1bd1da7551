pub mod Cleared
pub mod Measure
pub mod MeasureLaws
pub mod KeyQueue
