mod InputsLemmas
mod FirstLineLemmas
mod RunLemmas
mod TranscriptLemmas
mod SendsLemmas
