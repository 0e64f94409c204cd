pub mod Laws
pub mod ShownLaws
pub mod JudgedLaws
pub mod TableLaws
pub mod ParsedLaws
pub mod NumberedMatch
pub mod TreeLaws
pub mod OverlapLaws
