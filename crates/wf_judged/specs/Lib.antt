pub mod Lines
pub mod Why
pub mod Unanswered
pub mod Failures
