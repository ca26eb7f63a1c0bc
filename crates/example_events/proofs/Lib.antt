mod AttemptLemmas
mod PassedLemmas
mod TurnstileLemmas
