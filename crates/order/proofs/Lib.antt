pub mod Closure
pub mod Compared
pub mod Bound
pub mod Lattice
pub mod Left
pub mod Stored
pub mod Placing
