pub mod AttrLaws
pub mod HolderLaws
