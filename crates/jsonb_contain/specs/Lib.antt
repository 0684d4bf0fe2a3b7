pub mod formers
pub mod Rising
pub mod Texts
pub mod Containment
