pub mod Seeds
pub mod Rules
pub mod Rows
pub mod Trees
pub mod Grants
pub mod Calls
pub mod Histories
pub mod Filling
