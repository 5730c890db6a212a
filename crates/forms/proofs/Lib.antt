pub mod DeliveryLaws
pub mod FormsLaws
pub mod GrantLaws
pub mod Promises
