pub mod Closure
pub mod Comparison
pub mod Bound
pub mod Table
pub mod inner
