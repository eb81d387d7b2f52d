-- What the program answers: definitions first, then their laws.
pub mod Output
pub mod Answer
pub mod OutputLaws
pub mod AnswerLaws
pub mod Examples
