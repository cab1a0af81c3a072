pub mod LUpdated
pub mod SameStorage
pub mod StepFits
pub mod StepPerformed
pub mod PartsWritten
pub mod UpdateCarriedOut
