pub mod ExchangedTyped
pub mod Slide
pub mod Respect
pub mod Respects
pub mod Formed
pub mod JoinedLaws
pub mod Environs
pub mod Results
