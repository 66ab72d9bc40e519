pub mod Layer
pub mod Asked
pub mod Standing
pub mod Same
pub mod Known
