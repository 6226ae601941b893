-- the lines
pub mod Report
-- what they tell
pub mod Planned
