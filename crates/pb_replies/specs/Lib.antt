pub mod Replies
pub mod Lists
pub mod Tables
