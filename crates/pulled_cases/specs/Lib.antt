pub mod Once
pub mod Opening
pub mod Pulls
pub mod PullsAt
