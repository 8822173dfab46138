pub mod Faults
pub mod Forms
pub mod Moves
pub mod Places
pub mod Told
pub mod Whole
