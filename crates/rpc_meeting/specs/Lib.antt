pub mod Talks
pub mod Worlds
pub mod Menus
pub mod Deeds
pub mod Steps
pub mod Received
