pub mod HeaderLaws
pub mod BillLaws
