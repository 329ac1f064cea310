pub mod CountLemmas
pub mod LevelLemmas
pub mod PutLemmas
pub mod StillLemmas
