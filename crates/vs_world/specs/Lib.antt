pub mod Outside
pub mod Entries
pub mod Memory
pub mod InMemory
pub mod StreamLaws
pub mod CountLaws
pub mod EntryLaws
