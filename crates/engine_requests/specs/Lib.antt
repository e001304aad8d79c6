pub mod Addresses
pub mod Constants
pub mod ReferrerLists
pub mod Requests
pub mod Sources
pub mod Tokens
