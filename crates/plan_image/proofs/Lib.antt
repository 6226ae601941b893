-- what an operation reads at homes in SRAM and in FRAM
pub mod Homed
-- each operation is performed by its template
pub mod Operating
-- what is live along operations
pub mod Living
-- where positions stand
pub mod Positioned
-- the image, by the code of its positions
pub mod Blocks
-- the homes of a section's objects
pub mod SectionHomes
-- an operation of code in stretches
pub mod Executing
-- what moves of objects are, and cost
pub mod Moving
-- what is restored and saved, as lists
pub mod Choosing
