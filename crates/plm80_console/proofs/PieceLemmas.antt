-- What becomes of a feed by a piece.
use Rattle.std.proofs.Common.{◌≡◌, ◌≢◌, inl, inr, ℕ, ◌<◌, List, ◌++◌, Option, Some, None, Result, Ok, Err, OnOk, IfErr, All, refl, ap, subst, ◌∙◌, arith, get_or, Fits, w8}
use Rattle.std.proofs.lemmas.List.{get_or_default}
use Rattle.omf_core.specs.Lasting.{Lasting, stay_lasting}
use Rattle.omf_module.specs.{declared.fault.ModuleFault.ModuleFault, Fault.no_memory, Reading.OrNoMemory}
use Rattle.plm80_console.specs.Pieces.{HasTaken}

-- the bytes of a slice
pub all_bytes : (bytes : List ℕ) → ((i : ℕ) → Fits w8 (get_or bytes i 0)) → All (λ byte. byte < 256) bytes
all_bytes bytes fits k d within =
    let same = get_or_default bytes k d 0 within in
    let fit = fits k in
    omega arith

-- the fault of an answer, if it isn't out of memory
pub other_fault : {A : Type 0} (P : ModuleFault → Type 0) (r : Result A ModuleFault) (f : ModuleFault) → IfErr r (OrNoMemory P) → f ≢ no_memory → r ≡ Err f → P f
other_fault {A} P r f may other is = go (subst (λ (a : Result A ModuleFault). IfErr a (OrNoMemory P)) is may)
  where
    go : OrNoMemory P f → P f
    go (inl none) = absurd (other none)
    go (inr p) = p

-- What feeds promise of a piece: they go from the bytes `has` to `new`, and from the fault `kept` to `after`.
pub record Answered {F : Type 0} (Faults : List ℕ → F → Type 0) (memory : F) (has new piece : List ℕ) (kept after : Option F) (r : Result ℕ F) : Type 0 where
  pub keeps : (f : F) → kept ≡ Some f → after ≡ Some f
  pub taken : OnOk r ((new ≡ has ++ piece) × (after ≡ None))
  pub fault : (f : F) → kept ≡ None → f ≢ memory → r ≡ Err f → Lasting Faults (has ++ piece) f × (after ≡ Some f)

module _ {F : Type 0} (Faults : List ℕ → F → Type 0) (memory : F) (has new piece : List ℕ) (small : All (λ byte. byte < 256) piece) where
  kept_now : (bytes : List ℕ) (after : Option F) (f : F) → after ≡ Some f → Lasting Faults bytes f → HasTaken (Lasting Faults) new after bytes
  kept_now bytes after f is lasts = record {
    all = λ none. absurd cc;
    lasts = λ g some. let same : f ≡ g = cc in subst (λ (h : F). Lasting Faults bytes h) same lasts;
  }

  by_answer : (kept after : Option F) (r : Result ℕ F) → Answered Faults memory has new piece kept after r → (r ≢ Err memory) → kept ≡ None
      → (bytes : List ℕ) → has ≡ bytes → HasTaken (Lasting Faults) new after (bytes ++ piece)
  by_answer kept after (Ok n) a real none bytes all =
      let nothing : after ≡ None = a.taken.1 in
      record { all = λ _. a.taken.0 ∙ ap (λ (b : List ℕ). b ++ piece) all; lasts = λ fault some. absurd cc }
  by_answer kept after (Err f) a real none bytes all =
      let x = a.fault f none (λ is. real (ap (λ (g : F). Err g) is)) refl in
      kept_now (bytes ++ piece) after f x.1 (subst (λ (b : List ℕ). Lasting Faults (b ++ piece) f) all x.0)

  pub takes : (kept after : Option F) (r : Result ℕ F) → Answered Faults memory has new piece kept after r → (r ≢ Err memory)
      → (bytes : List ℕ) → HasTaken (Lasting Faults) has kept bytes → HasTaken (Lasting Faults) new after (bytes ++ piece)
  takes None after r a real bytes h = by_answer None after r a real refl bytes (h.all refl)
  takes (Some f) after r a real bytes h = kept_now (bytes ++ piece) after f (a.keeps f refl) (stay_lasting Faults bytes piece f small (h.lasts f refl))
