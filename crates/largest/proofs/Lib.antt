-- What the call answers once its checks have passed, what an accepted answer means, and what a test of the code says.
pub mod ForcedLaws
pub mod OutcomeLaws
pub mod TestLaws
