-- What only contracts between functions cite. No promise rests on it, so a reader need not believe it.
pub mod Bits
