pub mod Spells
pub mod Reasons
pub mod Fronts
pub mod Reading
pub mod Nodes
pub mod Written
