pub mod EventLaws
pub mod GoodEvents
pub mod ScheduleLaws
pub mod Cuts
pub mod ReadingSteps
