pub use Rattle.clf_sig.specs.Entry
pub use Rattle.celf_sugar.specs.Plain
pub use Rattle.celf_names.specs.Names
pub mod Unknown
pub mod UnknownLists
pub mod Fault
pub mod Worked
