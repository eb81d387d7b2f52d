-- Sheets: definitions first, then their laws.
pub mod Digits
pub mod Lines
pub mod Sheet
pub mod Calls
pub mod Setting
pub mod OverLaws
pub mod DigitLaws
pub mod LineLaws
pub mod SheetLaws
pub mod IsolatedLaws
pub mod HeadingLaws
pub mod BodyLaws
pub mod ReadLaws
pub mod WriteLaws
pub mod Examples
