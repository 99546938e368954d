pub mod Padded
pub mod Filled
pub mod Added
pub mod Each
pub mod Lengths
