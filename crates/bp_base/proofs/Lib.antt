mod Bending
mod Copying
pub mod Counting
mod Giving
pub mod Runs
pub mod Telling
