pub mod AgainParts
pub mod BundleParts
pub mod Exits
pub mod GatheredParts
pub mod LayerTexts
pub mod ReferrerRows
