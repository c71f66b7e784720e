mod Read
mod Served
