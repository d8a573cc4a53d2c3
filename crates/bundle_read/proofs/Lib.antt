mod Steps
mod Items
mod Whole
mod Inside
