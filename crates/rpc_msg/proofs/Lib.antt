pub mod Halting
pub mod Directs
pub mod Bodies
pub mod Readable
pub mod Parts
pub mod HeaderSteps
pub mod Adding
pub mod Bytes
