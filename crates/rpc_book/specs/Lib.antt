pub mod Books
pub mod Calls
pub mod Feeds
pub mod Inside
