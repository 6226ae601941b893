-- what is lowered, by its parts
pub mod ExprLevels
pub mod StmtLevels
pub mod ConstantLevels
