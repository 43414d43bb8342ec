pub mod Entry
pub mod Table
pub mod Grades
