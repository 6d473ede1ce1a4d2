pub mod Lookups
pub mod Bits
pub mod Splits
pub mod RowAnswers
pub mod RowLaws
pub mod UseLaws
pub mod ArgumentLaws
