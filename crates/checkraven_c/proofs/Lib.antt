pub mod LawCode
pub mod LawTextCode
pub mod LawBundleCode
pub mod LawConvertCode
pub mod LawRowCode
pub mod LawStepCode
