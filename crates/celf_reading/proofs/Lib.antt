pub mod Named
pub mod WellFormedLines
pub mod LinesBack
