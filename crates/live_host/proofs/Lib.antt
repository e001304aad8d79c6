pub mod Causes
pub mod FrameWords
pub mod FramesIn
pub mod FramesOut
pub mod QuestionSteps
