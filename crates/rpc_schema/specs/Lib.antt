pub mod Entries
pub mod Choice
pub mod TextLines
pub mod LineParts
pub mod LineAnswers
pub mod SchemaLines
pub mod SchemaTexts
pub mod Reading
