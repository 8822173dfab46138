pub mod Texts
pub mod Dispatches
