-- Laws that rest on those of specs/, and one on words that hold sets.
pub mod TableLaws
pub mod SurveyStepLaws
pub mod BoundSound
pub mod OutcomeLaws
