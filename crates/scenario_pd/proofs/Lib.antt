mod Fields
mod Turning
mod Verbs
