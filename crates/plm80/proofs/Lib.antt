mod ApartLemmas
mod BesideLemmas
mod ProgramLemmas
mod SpelledLemmas
