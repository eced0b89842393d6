-- What is said of what sets a pair is so.
use Rattle.verify80_stores.proofs.Names.{◌≡◌, ◌∙◌, ℕ, Bool, true, false, List, Option, None, Ok, ap, sym, list_any, list_any_at}
use Rattle.verify80_stores.proofs.Names.{true≢false, Instr, Fetched, Code, AreReached, IsReachedAs, found_at, is_kind}
use Rattle.verify80_stores.proofs.ReachedLemmas.{there_if_reached}
use Rattle.verify80_stores.specs.WrittenPairs.{AreWritten, has_pair, is_written}
use Rattle.verify80_stores.specs.declared.causes.WrittenPairs.{WrittenPairs}
use Rattle.decode80.specs.declared.pair.Pair.{Pair}
use Rattle.decode80.specs.declared.pair.Pair.TheVariants.{Bc, De, Hl, Sp}

-- a pair is among the written ones if an instruction that is reached writes it
pub has_written : (reached : List (Option Fetched)) (written : WrittenPairs) (pair : Pair) → AreWritten reached written →
    has_pair written pair ≡ is_written reached pair
has_written reached written Bc are = are.bc
has_written reached written De are = are.de
has_written reached written Hl are = are.hl
has_written reached written Sp are = are.sp

-- if no instruction that is reached is of a kind, no walk reaches one
pub none_reached : (code : Code) (reached : List (Option Fetched)) (are : AreReached code reached) (kind : Instr → Bool) →
    list_any (is_kind kind) reached ≡ false → (at : ℕ) → IsReachedAs code kind at → ⊥
none_reached code reached are kind none at is =
    let there = there_if_reached code reached are at is.reached in
    let same : there.found ≡ is.found = (let f : code.look at ≡ Ok there.found = there.looked in let g : code.look at ≡ Ok is.found = is.looked in cc) in
    let of_kind : is_kind kind (found_at reached at) ≡ true = ap (is_kind kind) there.there ∙ ap (λ (f : Fetched). kind f.instr) same ∙ is.is in
    true≢false (sym (list_any_at (is_kind kind) reached at None there.within of_kind) ∙ none)
