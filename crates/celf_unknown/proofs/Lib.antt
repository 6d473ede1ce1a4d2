pub mod UnknownLaws
pub mod Forms
