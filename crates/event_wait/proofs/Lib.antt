pub mod RoundLemmas
pub mod LineLemmas
pub mod LengthLemmas
pub mod StarvingLemmas
pub mod TurnLemmas
pub mod KeptTurns
