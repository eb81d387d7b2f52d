-- Laws that rest on those of specs/.
pub mod TestLaws
pub mod MaximalLaws
pub mod PassedLaws
pub mod OutcomeLaws
