-- what the rule says of a function with a cost
pub mod Paying
-- lists of marked objects
pub mod Marking
-- lists of summaries
pub mod Listing
