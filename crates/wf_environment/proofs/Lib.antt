pub mod Layers
mod Worked
