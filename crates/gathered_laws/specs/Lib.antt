pub use Rattle.elaboration_laws.specs.ItemSetting
pub use Rattle.celf_elaboration.specs.Items
pub use Rattle.celf_gather.specs.Holes
pub mod Formed
pub mod Laws
