pub mod Totals
pub mod Together
pub mod Data
pub mod Agreement
pub mod Limits
