pub mod After
pub mod Below
pub mod Drawn
pub mod Kinds
pub mod Levels
pub mod Page
pub mod Views
