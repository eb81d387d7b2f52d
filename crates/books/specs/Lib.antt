-- The season book: definitions first, then their laws.
pub mod Book
pub mod Calls
pub mod EdgeLaws
pub mod CallLaws
pub mod Season
pub mod OutcomeLaws
pub mod Edges
