pub mod ReportText
pub mod BundleText
pub mod InputsLineLaws
pub mod Bundle
pub mod Fault
pub mod Words
pub mod Text
pub mod Laws
