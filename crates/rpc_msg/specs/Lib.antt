pub mod Forms
pub mod Values
pub mod Bodies
pub mod Taken
pub mod Beats
pub mod Limits
pub mod Adds
