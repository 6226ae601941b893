-- what the emitter answers
pub mod Emitting
-- what its parts answer, of lists alone
pub mod Parts
