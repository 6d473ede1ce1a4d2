pub mod General
pub mod Composites
pub mod InFronts
