-- the stretches of a plan, and flat functions, in the order of the code
pub mod Sections
-- what stands in a section, position by position
pub mod Positions
-- the code of each position, where it stands, and the image
pub mod PlanBlocks
