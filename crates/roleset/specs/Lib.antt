pub mod Row
pub mod Set
pub mod inner
