pub mod Truth
pub mod Found
pub mod Thing
