pub mod ChainsLaws
pub mod FoundLaws
