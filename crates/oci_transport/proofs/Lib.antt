pub mod AddedFields
pub mod Fields
pub mod ScriptAnswers
pub mod ScriptBreaks
pub mod ScriptFaults
pub mod TakenBytes
