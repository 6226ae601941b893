-- moves between homes, and turns that end
pub mod Moves
-- what is spent until control leaves a scope
pub mod Scopes
-- of two scopes one behind the other
pub mod Joining
-- what there is to show of code in stretches, line by line
pub mod Lined
-- and what it comes to
pub mod LinedRuns
-- the image
pub mod LinedImage
