mod SameStates
mod CallSequence
mod RecordState
mod TrailPlaces
mod Cuts
mod CommonPrefix
mod AssumptionsInvariant
mod Reasons
mod StepInvariant
mod PlaceWeight
pub mod ModelOrRefutation
mod TaughtClauses
mod Conflicts
mod Idle
mod ForgottenClauses
mod RemainingRecords
mod Tidied
mod Givens
mod HintChain
pub mod Derived
pub mod Serving
