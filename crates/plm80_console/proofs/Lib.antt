mod CommandLemmas
mod JournalLemmas
mod JoinedLemmas
mod NumberLemmas
mod PieceLemmas
mod RangeLemmas
mod SharedLemmas
