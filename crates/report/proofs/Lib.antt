pub mod LawAdds
pub mod LawPut
pub mod LawTold
pub mod LawSheets
pub mod LawReported
pub mod LawWorked
