pub mod Rules
pub mod Wrong
