pub mod formers
pub mod Faults
pub mod Fits
pub mod Form
pub mod Limits
pub mod Named
pub mod Names
pub mod Tags
