pub mod Behind
pub mod Html
pub mod Nested
pub mod Safe
pub mod Still
pub mod Tags
