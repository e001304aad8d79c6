pub mod Clients
pub mod ConfigFiles
pub mod Confinement
pub mod Kept
pub mod Refusals
pub use Rattle.engine_rows.specs.Answered
pub use Rattle.engine_rows.specs.Causes
pub use Rattle.engine_rows.specs.Confined
pub use Rattle.engine_rows.specs.Held
pub use Rattle.engine_rows.specs.TokenCauses
pub use Rattle.engine_streams.specs.Causes as StreamCauses
pub use Rattle.engine_pull.specs.Causes as ListingCauses
pub use Rattle.push_rows.specs.Causes as PushCauses
pub use Rattle.push_rows.specs.ImageCauses as PublishCauses
