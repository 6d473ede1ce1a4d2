pub mod EtaLaws
pub mod EtaTyped
pub mod Expanding
pub mod Expansions
pub mod FormsWorked
