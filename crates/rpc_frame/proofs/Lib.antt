pub mod HeadSteps
pub mod FrameReads
pub mod FeedSteps
pub mod HeldSteps
pub mod Streams
pub mod StreamBodies
