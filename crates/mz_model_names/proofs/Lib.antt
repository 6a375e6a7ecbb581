mod Nexts
mod Rooted
mod VarNames
mod Declared
mod Shapes
mod VarLaws
mod NameLaws
mod Placed
