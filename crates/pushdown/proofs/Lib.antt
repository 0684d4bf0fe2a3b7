pub mod Conjuncts
mod Levels
mod Lists
mod SameJson
mod Sound
mod Shapes
mod Implied
mod Selected
