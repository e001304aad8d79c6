pub mod HelperTrees
pub mod NamedTree
pub mod RealmTokens
