pub mod Answering
pub mod Filled
