pub mod Boxes
pub mod Spelling
pub mod SupplyNames
pub mod FilesInOrder
pub mod RefusedTexts
pub mod Opening
pub mod OneRun
