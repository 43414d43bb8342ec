pub mod Test
pub mod First
pub mod Cut
pub mod InnerCut
pub mod InnerOrder
