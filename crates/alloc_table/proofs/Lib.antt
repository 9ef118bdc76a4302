pub mod RoleLemmas
mod Freeing
mod TableSteps
