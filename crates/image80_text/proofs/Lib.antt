mod NearestLemmas
mod TextLemmas
mod ListingLemmas
mod TableLemmas
