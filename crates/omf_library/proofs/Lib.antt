mod FeedLemmas
mod OneLibrary
mod ProviderLemmas
mod ReadingLemmas
mod UnfinishedLemmas
mod WritingLemmas
mod WrittenLibrary
