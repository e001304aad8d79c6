pub mod AnswerParts
pub mod CaseParts
pub mod Full
pub mod HeaderReads
pub mod Later
pub mod ShelfFaults
pub mod Written
