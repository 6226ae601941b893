-- what a template does, as a path of the laid out code
pub mod TemplatePaths
-- the effects of operations
pub mod OperationEffects
-- what an operation reads, and that its template is ready
pub mod Reading
-- the operations of a graph of one function, and where their code stands
pub mod Standing
pub mod Places
-- each operation is performed by its template
pub mod Performing
-- what stretches spend, and the words that objects begin with
pub mod Stretches
pub mod Loaded
-- the image agrees and endures
pub mod Agreeing
-- its heads where no plan says them
pub mod Straight
pub mod EachHeads
-- its blocks are an image
pub mod Ascending
-- its instructions are of the profile, and some first state holds it
pub mod Profile
pub mod FirstStates
pub mod Holding
