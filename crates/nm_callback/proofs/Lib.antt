pub mod CutRecalls
pub mod OpeningLaws
pub mod ReadLaws
pub mod WrittenLaws
