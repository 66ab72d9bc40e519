pub mod SuiteForm
pub mod Members
pub mod Suite
pub mod Places
pub mod Known
