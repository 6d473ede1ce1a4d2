pub mod Cursors
pub mod Words
pub mod Ends
pub mod Faulty
