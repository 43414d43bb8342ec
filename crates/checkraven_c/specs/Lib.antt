pub mod Code
pub mod TextCode
pub mod BundleCode
pub mod ConvertCode
pub mod RowCode
pub mod StepCode
