pub mod Again
pub mod Duration
pub mod Grammar
pub mod Reading
