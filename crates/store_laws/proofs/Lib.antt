pub mod Mentioned
pub mod Numbers
pub mod Closing
pub mod Lists
pub mod Stores
