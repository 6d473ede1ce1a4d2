pub mod Options
pub mod AlongLaws
pub mod LocalsLaws
pub mod Forms
