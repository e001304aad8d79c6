pub mod Algorithms
pub mod ReadsBack
pub mod Cuts
pub mod Joins
pub mod ParseAnswers
pub mod LetterCuts
pub mod PartWords
