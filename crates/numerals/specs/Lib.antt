pub mod Laid
pub mod Numeral
pub mod Typed
pub mod Ahead
pub mod Word
pub mod Inner
