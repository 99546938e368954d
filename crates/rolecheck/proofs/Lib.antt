pub mod Counted
pub mod BySettings
pub mod Places
pub mod Fits
pub mod Whole
pub mod Fields
