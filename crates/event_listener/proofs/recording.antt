-- Lemmas of recorded events.
pub mod WaitLemmas
pub mod CopiedTagLemmas
pub mod EntryLemmas
pub mod ShapeLemmas
pub mod StepLemmas
pub mod SameReplyLemmas
pub mod SameCallLemmas
pub mod ReplayLemmas
pub mod StateLemmas
pub mod ClosingLemmas
pub mod HandLemmas
pub mod RunLemmas
pub mod ExchangeLemmas
