mod FaultLemmas
mod PieceLemmas
