pub mod Contents
pub mod YearFile
pub mod Ranges
pub mod Holds
pub mod YearBytes
