pub mod Frames
pub mod Heads
pub mod States
pub mod Feeding
pub mod Streams
