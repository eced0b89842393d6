-- Which pairs are written by some instruction that is reached. (This project's own.)
use Rattle.std.specs.Prelude.{◌≡◌, Bool, List, Option}
use Rattle.std.specs.List.{list_any}
use Rattle.decode80.specs.declared.{fetching.Fetched.Fetched, pair.Pair.Pair}
use Rattle.decode80.specs.declared.pair.Pair.TheVariants.{Bc, De, Hl, Sp}
use Rattle.verify80_stores.specs.declared.causes.WrittenPairs.{WrittenPairs}
use Rattle.verify80_stores.specs.{Causes.writes_to, Listing.is_kind}

-- whether an instruction that is reached writes a pair
abbrev pub is_written : List (Option Fetched) → Pair → Bool
is_written reached pair = list_any (is_kind (writes_to pair)) reached

-- the pairs that instructions which are reached write
pub record AreWritten (reached : List (Option Fetched)) (written : WrittenPairs) : Type 0 where
  pub bc : written.bc ≡ is_written reached Bc
  pub de : written.de ≡ is_written reached De
  pub hl : written.hl ≡ is_written reached Hl
  pub sp : written.sp ≡ is_written reached Sp

abbrev pub has_pair : WrittenPairs → Pair → Bool
has_pair written Bc = written.bc
has_pair written De = written.de
has_pair written Hl = written.hl
has_pair written Sp = written.sp
