pub mod Elements
pub mod Uses
pub mod Points
pub mod Headers
pub mod Bills
pub mod Laws
