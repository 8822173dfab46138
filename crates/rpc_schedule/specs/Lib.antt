pub mod EventParts
pub mod EventLines
pub mod Schedules
pub mod Reading
