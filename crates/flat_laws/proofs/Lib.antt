pub mod FlatReach
pub mod FlatRenamed
pub mod FlatPut
pub mod FlatSteps
