pub mod WorkedLook
mod Worked
