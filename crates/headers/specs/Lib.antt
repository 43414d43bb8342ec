pub mod House
pub mod Book
pub mod Sheet
pub mod Unit
