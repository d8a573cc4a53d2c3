mod Keeps
mod Layers
mod TypeDepths
mod QueryDepths
mod ExprDepths
mod StmtDepths
mod UnitDepths
