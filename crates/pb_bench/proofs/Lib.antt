pub mod CuttingLemmas
pub mod SectionLemmas
