pub mod Read
pub mod Part
