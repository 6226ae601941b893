-- induction over expressions and statements
pub mod Inductions
-- the numbers of items' operations
pub mod ListedLemmas
-- parts that number their operations upwards
pub mod OrderLemmas
pub mod ExprOrder
pub mod StmtOrder
pub mod GraphOrder
-- what holds of each of a list
pub mod EachLemmas
-- items by their parts
pub mod ItemLevels
-- items that fit where they stand
pub mod FitLemmas
-- operations that have what their kinds have
pub mod OpLemmas
-- what a well typed expression says of its parts
pub mod TypedParts
-- expressions fit
pub mod ExprFit
-- loops that count
pub mod CountedLemmas
-- actions and declarations fit
pub mod ActionFit
pub mod CountHead
-- statements fit
pub mod StmtGiven
pub mod StmtShapes
pub mod StmtFit
-- a function's body fits
pub mod BodyFit
-- what a statement in scope tells
pub mod StmtTold
-- as many temporaries wherever the objects stand
pub mod ExprTemps
pub mod StmtTemps
-- what a typed statement calls and declares
pub mod StmtCalls
-- what each object is
pub mod ThingLemmas
pub mod ThingsOf
-- the rules of objects
pub mod ObjectRules
-- which functions are reached
pub mod ReachedLemmas
pub mod BodyTemps
pub mod HomesOf
-- what is introduced, and where
pub mod Rising
pub mod Introduced
-- a reached function fits
pub mod FrameLemmas
pub mod FunctionFit
-- what stands at each place
pub mod PlaceLemmas
-- the graph obeys the rules
pub mod NodeRules
pub mod GraphRules
pub mod SmallRules
pub mod Obeyed
