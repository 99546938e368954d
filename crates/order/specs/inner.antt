-- What only contracts between functions cite. No promise rests on it, so a reader need not believe it.
pub mod Members
pub mod Rounds
pub mod Tables
pub mod Placing
