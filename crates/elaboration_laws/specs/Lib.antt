pub use Rattle.gathering.specs.Gather
pub use Rattle.gathering.specs.Items
pub use Rattle.unify_laws.specs.Problems
pub use Rattle.reach_laws.specs.Unified
pub mod ItemSetting
pub mod InFront
pub mod General
pub mod Laws
