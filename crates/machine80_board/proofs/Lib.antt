mod CursorLemmas
mod LineLemmas
mod PlaceLemmas
mod StepLemmas
mod AmongLemmas
mod CellLemmas
mod PlacingLemmas
mod RunLemmas
