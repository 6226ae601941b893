-- what flat functions cost
pub mod Costs
-- and which objects they touch
pub mod Summaries
