pub mod Text
pub mod Added
pub mod inner
