pub mod BodyUnread
