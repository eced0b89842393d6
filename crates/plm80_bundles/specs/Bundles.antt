-- What is done with a bundle. (Its exit statuses are this project's own.)
use Rattle.std.specs.Prelude.{◌≡◌, ◌⊎◌, ◌≤◌, ℕ, List, [], Some, Result, Ok, Err, length}
use Rattle.loader80.specs.declared.replies.Outcome.{Outcome}
use Rattle.loader80.specs.declared.fault.SessionFault.TheVariants.{Memory, Read, Refused, Write}
use Rattle.loader80_text.specs.{Bundle.BundleSends, Bundle.bundle_limit, BundleText.bundle_texts}
use Rattle.loader80_text.specs.declared.bundles.fault.BundleFault.{BundleFault, TheVariants.Session}
use Rattle.plm80_console.specs.Journal.{Journal, and_blamed, and_input, and_printed, and_reported}
use Rattle.plm80_bundles.specs.Status.{end_status}

-- its exit status: that of the run's end, or 1 of a refusal; every other fault has none
abbrev pub bundle_status : Result Outcome BundleFault → Result ℕ BundleFault
bundle_status (Ok outcome) = Ok (end_status outcome.end)
bundle_status (Err (Session (Refused refusal))) = Ok 1
bundle_status (Err fault) = Err fault

-- standard input was read, and what is sent of its bundle, with 65536 outputs and 1000000 steps at most, was printed; nothing else was done
pub record SendsBundle (said : Result Outcome BundleFault) (old new : Journal) : Type 0 where
  pub bytes : List ℕ
  pub within : length bytes ≤ bundle_limit
  pub printed : List ℕ
  pub sends : BundleSends 65536 1000000 (bundle_texts bytes) said (Some []) (Some printed)
  pub journal : new ≡ and_printed (and_input old bytes) printed

-- that was all
pub record GivesBundle (old new : Journal) (status : ℕ) : Type 0 where
  pub said : Result Outcome BundleFault
  pub sent : SendsBundle said old new
  pub status_is : bundle_status said ≡ Ok status

-- its fault was reported: it blames the bundle, unless memory ran out or standard output took no more
abbrev pub and_fault : Journal → BundleFault → Journal
and_fault journal (Session (Read number)) = and_reported journal
and_fault journal (Session Write) = and_reported journal
and_fault journal (Session Memory) = and_reported journal
and_fault journal fault = and_blamed journal

-- A fault was reported, once: standard input couldn't be read, and nothing was printed; or its bundle has a fault, and what is sent at that
-- was printed: nothing, or a front part of a transcript if standard output took no more.
pub data GivesUpBundle (old new : Journal) : Type 0 where
  before : new ≡ and_reported old → GivesUpBundle old new
  within : (between : Journal) (said : Result Outcome BundleFault) (fault : BundleFault) → SendsBundle said old between
      → bundle_status said ≡ Err fault → new ≡ and_fault between fault → GivesUpBundle old new

abbrev pub IsBundleDone : (old new : Journal) → (status : ℕ) → Type 0
IsBundleDone old new status = GivesBundle old new status ⊎ ((status ≡ 2) × GivesUpBundle old new)
