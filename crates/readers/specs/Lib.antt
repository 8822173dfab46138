pub mod Reader
pub mod Until
pub mod Lines
pub mod Keys
