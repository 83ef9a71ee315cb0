pub mod Adding
pub mod Filling
pub mod Fronts
pub mod OfYear
pub mod Parts
pub mod Placing
pub mod Portioning
pub mod Segmenting
