-- Laws that rest on those of specs/.
pub mod NumberLaws
pub mod RightLaws
pub mod JudgedLaws
pub mod BackLaws
pub mod WrittenLaws
pub mod OutcomeLaws
