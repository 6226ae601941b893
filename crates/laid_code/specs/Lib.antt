-- the flow that code is laid out for
pub mod Flows
-- what has to hold of it
pub mod Obeying
-- the image with heads before chosen operations
pub mod Chosen
