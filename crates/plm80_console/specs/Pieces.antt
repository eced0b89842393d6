-- What becomes of feeds that take all bytes of a file, piece after piece.
use Rattle.std.specs.Prelude.{◌≡◌, ℕ, List, Option, Some, None}
use Rattle.omf_module.specs.FileFeed.{FileFeedValue, LastingFileFault}
use Rattle.omf_library.specs.LibraryFeed.{LibraryFeedValue, LastingLibraryFault}

-- A feed was given these bytes: it has them, or it keeps a fault that they have whatever follows.
pub record HasTaken {Fault : Type 0} (Lasting : List ℕ → Fault → Type 0) (has : List ℕ) (kept : Option Fault)
    (bytes : List ℕ) : Type 0 where
  pub all : kept ≡ None → has ≡ bytes
  pub lasts : (fault : Fault) → kept ≡ Some fault → Lasting bytes fault

abbrev pub HasTakenFile : FileFeedValue → List ℕ → Type 0
HasTakenFile feed bytes = HasTaken LastingFileFault feed.bytes feed.kept bytes

abbrev pub HasTakenLibrary : LibraryFeedValue → List ℕ → Type 0
HasTakenLibrary feed bytes = HasTaken LastingLibraryFault feed.bytes feed.kept bytes
