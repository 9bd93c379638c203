pub mod Text
pub mod Request
pub mod Answer
pub mod Reader
pub mod Web
pub mod Laws
pub mod Messages
