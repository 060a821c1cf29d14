mod HistoryWalks
pub mod Transfers
