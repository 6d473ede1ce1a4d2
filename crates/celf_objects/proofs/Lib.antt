pub mod Made
pub mod Reading
pub mod PatternFaults
pub mod ObjectFaults
