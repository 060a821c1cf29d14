pub mod AccessLaws
pub mod Hardening
pub mod Losses
pub mod Replay
pub mod Report
pub mod Run
pub mod SoundRun
pub mod Totals
