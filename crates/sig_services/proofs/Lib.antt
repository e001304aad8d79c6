mod AuthorityCauses
pub mod CallCauses
pub mod Exchanges
pub mod HeaderSteps
pub mod Values
