pub mod Reading
pub mod ServeWords
