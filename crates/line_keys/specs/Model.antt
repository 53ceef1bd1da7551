-- The model of a line that is edited, and of the screen that shows it: words of the crates above for what their calls leave and draw. They
-- stand here since the renderer, the reader and the helper, whose traits are of this crate, are told of in the same words.
pub mod Draft
pub mod Fault
pub mod Display
pub mod Frame
pub mod ShownLine
pub mod Plainly
pub mod Drawing
