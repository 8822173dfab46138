pub mod Given
pub mod Unread
pub mod Leaves
pub mod Items
pub mod TextAnswers
pub mod Printing
pub mod ValueAnswers
