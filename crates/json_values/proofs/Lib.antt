pub mod Decimals
pub mod Equalities
pub mod Escapes
pub mod Fronts
pub mod Halves
pub mod JsonTexts
pub mod Maps
pub mod Refusals
