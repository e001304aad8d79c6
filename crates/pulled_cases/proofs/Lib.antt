pub mod CachedResponses
pub mod Cases
pub mod Openings
pub mod PullsInTurn
pub mod PullsOnce
