pub use Rattle.celf_filled.specs.TypedFrom
pub use Rattle.celf_filled.specs.FormedTypes
pub use Rattle.elaboration_laws.specs.ItemSetting
pub mod Families
pub mod FreshTypes
pub mod Laws
