pub mod Coded
pub mod Records
pub mod Tables
