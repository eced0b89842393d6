mod GoingOnLemmas
mod StepLemmas
mod LineLemmas
mod TraceLemmas
mod CountLemmas
mod CoverLemmas
