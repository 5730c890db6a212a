pub mod AnswersLaws
pub mod Numbers
pub mod Opens
pub mod Promises
pub mod Walks
