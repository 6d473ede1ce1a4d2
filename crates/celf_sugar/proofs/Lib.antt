pub mod EarliestLaws
pub mod FunctionLaws
pub mod LeadingLaws
pub mod AnswerLaws
pub mod TypeLaws
