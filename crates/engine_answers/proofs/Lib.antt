pub mod ConfigTexts
pub mod Tables
