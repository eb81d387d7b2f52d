-- What the proofs of placing and sorting share.
pub mod LongLaws
pub mod FindLaws
pub mod PushLaws
pub mod ShiftLaws
pub mod InsertLaws
pub mod SplitLaws
