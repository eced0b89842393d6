-- What is shown by one table, and by another one too.
use Rattle.verify80_stores.proofs.Names.{◌≡◌, ◌⊎◌, ◌<◌, ℕ, Bool, false, List, Option, Some, length, subst, sym, inl, inr, arith, Fetched, Located}
use Rattle.verify80_stores.proofs.Names.{declared_targets, found_at, Placed, Note, IsKept, StaysIn, AreNotes, AreShown, IsLeftAt, IsShut, ◌∙◌, ◌≤◌, ◌&&◌}
use Rattle.verify80_stores.proofs.Names.{true, true≢false, refl, ap, map, range_with_len, cases_lt, and_parts, IsShutAt, note_at, no_note, noted_by_both}
use Rattle.verify80_stores.proofs.{AddressLemmas.read_at, AddressLemmas.read_past, ReachedLemmas.entry_within}

module _ (image : Located) (quiet : ℕ → Bool) (reached : List (Option Fetched)) where
  shut_by : (table : List Placed) (notes : List Note) → AreNotes image.regions reached table notes → (at : ℕ) → (note_at notes at).is_open ≡ false → IsShutAt image.regions reached table at
  shut_by table notes are at closed place placed found there here instr =
      subst (λ n. StaysIn image.regions (declared_targets image.regions n) found.instr placed.state.known) here
      ((are.each place placed found there (subst (λ n. found_at reached n ≡ Some found) (sym here) instr)).stays (subst (λ n. (note_at notes n).is_open ≡ false) (sym here) closed))

  -- what the first table shows
  pub shown_first : (table : List Placed) (notes : List Note) → IsKept image quiet table → AreNotes image.regions reached table notes → AreShown image quiet reached notes
  shown_first table notes kept are = record {
    first = record { table = table; kept = kept };
    stays = λ at closed. record { by = record { table = table; kept = kept }; shut = shut_by table notes are at closed };
    leaves = are.leaves;
    spans = λ place placed found span there instr is. (are.each place placed found there instr).spans span is;
  }

  -- and with another one
  pub shown_more : (table : List Placed) (notes before both : List Note) → length reached ≡ 65536 → IsKept image quiet table → AreNotes image.regions reached table notes → AreShown image quiet reached before →
      both ≡ map (noted_by_both before notes) (range_with_len 0 65536) → AreShown image quiet reached both
  shown_more table notes before both whole kept are shown is = record {
    first = shown.first;
    stays = λ at closed. stay at closed (cases_lt at 65536) (note_at before at).is_open refl;
    leaves = λ at is_open. leave at is_open (cases_lt at 65536);
    spans = λ place placed found span there instr points.
        let was = shown.spans place placed found span there instr points in
        let within = entry_within reached placed.at found instr in
        record { whole = was.whole; there = ap (λ (x : Note). x.span) (in_both placed.at (omega (arith, within, whole))) ∙ was.there; inside = was.inside };
  } where
    in_both : (at : ℕ) → at < 65536 → note_at both at ≡ noted_by_both before notes at
    in_both at less = ap (λ (l : List Note). note_at l at) is ∙ read_at (noted_by_both before notes) at no_note less

    stay : (at : ℕ) → (note_at both at).is_open ≡ false → (at < 65536) ⊎ (65536 ≤ at) → (b : Bool) → (note_at before at).is_open ≡ b → IsShut image quiet reached at
    stay at closed small false was = shown.stays at was
    stay at closed (inr beyond) true was = record {
      by = shown.first;
      shut = λ place placed found there here instr. absurd (let within = entry_within reached at found instr in omega (arith, within, whole, beyond));
    }
    stay at closed (inl small) true was = record {
      by = record { table = table; kept = kept };
      shut = shut_by table notes are at (sym (ap (λ t. t && (note_at notes at).is_open) was) ∙ sym (ap (λ (x : Note). x.is_open) (in_both at small)) ∙ closed);
    }

    leave : (at : ℕ) → (note_at both at).is_open ≡ true → (at < 65536) ⊎ (65536 ≤ at) → IsLeftAt image.regions reached shown.first.table at
    leave at is_open (inl small) = shown.leaves at (and_parts (note_at before at).is_open (note_at notes at).is_open (sym (ap (λ (x : Note). x.is_open) (in_both at small)) ∙ is_open)).0
    leave at is_open (inr beyond) = absurd (true≢false (sym is_open ∙ ap (λ (l : List Note). (note_at l at).is_open) is ∙ ap (λ (x : Note). x.is_open) (read_past (noted_by_both before notes) at no_note beyond)))
