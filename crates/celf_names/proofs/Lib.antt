pub mod ScopeLaws
pub mod Forms
