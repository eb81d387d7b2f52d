-- What the calls for C and Rust answer.
pub mod Outcome
