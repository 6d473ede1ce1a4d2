pub mod Objects
pub mod Types
pub mod SimpleTypes
pub mod OneToOne
pub mod TypeOccurrences
