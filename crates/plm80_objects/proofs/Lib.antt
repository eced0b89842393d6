mod DumpLemmas
mod FaultLemmas
mod Names
mod ReadLemmas
