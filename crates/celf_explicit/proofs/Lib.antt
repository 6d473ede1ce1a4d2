pub mod Forms
pub mod Expressions
pub mod TypeLists
pub mod WhereExplicit
pub mod SimpleTypeOfCore
pub mod PatternLaws
