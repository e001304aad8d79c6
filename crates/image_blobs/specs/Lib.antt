pub mod Checked
pub mod Images
pub mod SinksState
pub mod Taken
