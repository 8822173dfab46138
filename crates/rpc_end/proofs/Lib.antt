pub mod Taken
pub mod Readers
pub mod Keeping
