pub mod Firsts
pub mod Summing
pub mod Uses
pub mod Keeping
pub mod Sound
