pub mod Text
pub mod Spine
pub mod Metas
pub mod Entry
pub mod Judgment
pub mod Depth
pub mod Worked
