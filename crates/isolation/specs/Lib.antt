pub mod TwoRuns
pub mod Exported
pub mod Worked
