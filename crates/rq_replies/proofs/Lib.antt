pub mod AddsMore
pub mod Ascii
pub mod InOrder
pub mod ReplyMembers
