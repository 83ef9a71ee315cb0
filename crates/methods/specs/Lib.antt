pub mod Asked
pub mod Lowered
pub mod Lowering
pub mod Padding
