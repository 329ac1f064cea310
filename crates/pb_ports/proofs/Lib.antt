pub mod WrittenFronts
