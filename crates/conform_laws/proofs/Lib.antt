pub mod Shapes
pub mod FitsConforms
pub mod Gathered
pub mod Heads
pub mod Whole
pub mod Named
pub mod ReadNamed
pub mod NoElaboration
