pub mod Topography
