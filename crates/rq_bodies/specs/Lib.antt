pub mod Body
pub mod ErrorText
pub mod Member
