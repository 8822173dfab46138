pub mod Told
pub mod Ends
pub mod Taking
pub mod Taken
