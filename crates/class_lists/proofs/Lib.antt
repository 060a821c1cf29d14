pub mod ListChanges
