pub mod Renamed
pub mod Raised
pub mod Variables
pub mod Orders
pub mod Standing
pub mod Stands
