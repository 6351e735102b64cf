pub mod AttrLaws
pub mod FattrLaws
pub mod LeastLaws
pub mod LengthLaws
pub mod MaskLaws
pub mod TableLaws
pub mod ValueLaws
