pub use Rattle.bson_spelling.specs.Spelling
pub mod Grammar
pub mod Reading
pub mod Spellable
