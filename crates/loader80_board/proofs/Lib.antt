mod FetchLemmas
mod OnBoardLemmas
mod DecideLemmas
mod StatesLemmas
mod LineLemmas
mod TraceLemmas
mod CountLemmas
