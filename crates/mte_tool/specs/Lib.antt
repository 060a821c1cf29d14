pub mod Calls
pub mod Exit
pub mod ExitLaw
pub mod RefusedRun
pub mod Told
pub mod WholeRun
