-- The DIMACS form: definitions first, then their laws.
pub mod Figures
pub mod Lines
pub mod Dimacs
pub mod Calls
pub mod Setting
pub mod FigureLaws
pub mod LineLaws
pub mod RowLaws
pub mod StateLaws
pub mod ReadLaws
pub mod OutcomeLaws
