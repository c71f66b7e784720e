pub mod Parts
pub mod Numbers
pub mod Halves
pub mod Signed
pub mod Puts
pub mod Arms
