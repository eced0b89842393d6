pub mod Arguments
pub mod CaseTexts
pub mod Cases
pub mod Suggest
pub mod Written
