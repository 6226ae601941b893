pub mod Text
-- how a job may end
pub mod Operations
pub mod Rules
pub mod Refusals
pub mod Answers
-- what jobs read
pub mod Reads
pub mod Boards
pub mod Images
pub mod Inputs
-- what jobs find and leave
pub mod Stores
pub mod Output
