mod LaidLemmas
mod TextLemmas
mod StartLemmas
mod NeedLemmas
mod LinkedLemmas
mod ProviderLemmas
mod ReasonLemmas
mod LineLemmas
