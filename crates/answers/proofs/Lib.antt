pub mod LawCode
