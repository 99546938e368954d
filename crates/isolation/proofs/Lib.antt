pub mod Levels
pub mod Tracking
pub mod Low
pub mod Isolation
pub mod Exported
pub mod Begins
pub mod ByRules
pub mod Worked
