mod DraftLemmas
mod SystemTextLemmas
mod Walks
