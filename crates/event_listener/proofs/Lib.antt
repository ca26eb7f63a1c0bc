pub mod EventLemmas
pub mod HandLemmas
pub mod HeardLemmas
pub mod IdentityLemmas
pub mod WaitLemmas
pub mod recording
