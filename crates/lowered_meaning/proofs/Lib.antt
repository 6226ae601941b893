-- runs, one after another
pub mod RunLemmas
-- lowered parts, one after another
pub mod TrackLemmas
-- what is left as it is
pub mod KeepLemmas
-- the shapes of expressions
pub mod ShapeLemmas
-- both directions, from whole runs
pub mod WholeLemmas
-- loops
pub mod LoopLemmas
-- words
pub mod NumberLemmas
pub mod WordsSame
pub mod WordsTable
-- the shapes of statements
pub mod StmtLemmas
-- one operation, and expressions with what stands behind them
pub mod ElementSteps
-- elements, and operators of one operand
pub mod ElementLoads
-- operators of two operands, ports and choices
pub mod ElementOperators
-- what is stored in variables
pub mod AssignStores
-- values and assignments
pub mod AssignActions
-- calls
pub mod CallsArguments
pub mod CallsParameters
pub mod Calls
pub mod CallsBodies
pub mod CallsFalls
-- every expression
pub mod ExprTypes
pub mod ExprInduction
-- assignments with an operator
pub mod AssignUpdates
pub mod AssignNodes
-- declarations
pub mod DeclareScalars
pub mod DeclareZeros
pub mod DeclareArrays
pub mod DeclareLists
pub mod DeclareNodes
-- what holds since an earlier spot
pub mod SinceLemmas
-- what soundness and scoping say of expressions, actions and declarations
pub mod FitParts
pub mod FitExprs
pub mod FitActions
-- parts of the meaning that leave a variable as it is
pub mod LeavesVariable
pub mod LeavesExprs
pub mod LeavesStmts
-- `main`, and every function
pub mod CallsMain
pub mod CallsFunctions
pub mod FunctionScopes
pub mod FunctionsRun
-- what soundness and scoping say of the parts of a statement
pub mod GoodStmts
pub mod ActionsGrow
-- statements behind their step, lists of items, branches and jumps
pub mod IfLemmas
pub mod ReturnLemmas
pub mod DoParts
pub mod DoLoops
pub mod CountedParts
pub mod CountedLevels
pub mod CountedConstants
pub mod CountedBounds
pub mod CountedHeads
pub mod SwitchLabels
pub mod SwitchGroups
-- a step puts at most one word
pub mod StepsPutOneParts
pub mod StepsPutOneNodes
pub mod StepsPutOneStmts
pub mod StepsPutOne
-- every statement
pub mod StmtInduction
pub mod StmtInductionLevels
pub mod StmtInductionWhole
-- what sound and scoped statements owe, and how they are left
pub mod StatementsFit
pub mod CountedFit
pub mod CountedKeeps
pub mod BodiesTrack
pub mod AssignedKnown
-- how statements are left
pub mod StmtInductionLeaves
pub mod ScopedLeaves
-- the theorem
pub mod LoweredMain
-- for sound programs whose names are in scope
pub mod LoweredSound
