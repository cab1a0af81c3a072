pub mod UpdateDone
