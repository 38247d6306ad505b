-- That every contract leaves one outcome.
pub mod Unique
