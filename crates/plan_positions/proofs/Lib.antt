-- objects chosen one by one
mod Choosing
-- a section's positions as the code makes them are those of the definition
mod Listing
-- sections one by one
mod Laying
