pub mod Typed
pub mod Binary
pub mod Convert
pub mod Read
pub mod Written
pub mod Declare
pub mod Round
pub mod Inner
