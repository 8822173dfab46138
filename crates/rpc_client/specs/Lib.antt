pub mod Rows
pub mod Tables
pub mod Data
pub mod Clients
pub mod Kept
pub mod Nodes
