pub mod PartItems
pub mod RowLaws
