-- What is noted by address of the states of a table, place by place.
use Rattle.verify80_stores.proofs.Names.{◌≡◌, ◌≢◌, ◌⊎◌, ℕ, ◌<◌, ◌+◌, true, false, List, Option, None, Some, ◌≤◌, length, slice_get, slice_set}
use Rattle.verify80_stores.proofs.Names.{refl, subst, sym, ap, ◌∙◌, inl, inr, arith, get_or-set_other, get_or-set_same, length-set, slice_get_within}
use Rattle.verify80_stores.proofs.Names.{true≢false, Fetched, Areas, declared_targets, found_at, Span, Placed, Note, IsInside, span_in, joined}
use Rattle.verify80_stores.proofs.Names.{StaysIn, IsLeftOpen, AreNotes, IsNoted, IsLeftAt, note_at, no_note, cases_eq, nat_tests, hull}

split : (a n : ℕ) → a < n + 1 → (a < n) ⊎ (a ≡ n)
split a n h = grind arith

-- a joined span with the words of one
record Joins (o : Option Span) (span : Span) : Type 0 where
  whole : Span
  is : o ≡ Some whole
  inside : IsInside span whole

joins_old : (old : Span) (new : Option Span) (span : Span) → IsInside span old → Joins (joined (Some old) new) span
joins_old old None span inside = record { whole = old; is = refl; inside = inside }
joins_old old (Some new) span inside = record { whole = hull old new; is = refl; inside = record { above = grind (arith, nat_tests); below = grind (arith, nat_tests) } }

joins_new : (o : Option Span) (span : Span) → Joins (joined o (Some span)) span
joins_new None span = record { whole = span; is = refl; inside = record { above = omega arith; below = omega arith } }
joins_new (Some old) span = record { whole = hull old span; is = refl; inside = record { above = grind (arith, nat_tests); below = grind (arith, nat_tests) } }

-- the first of the states are noted
pub record Noted (regions : Areas) (reached : List (Option Fetched)) (table : List Placed) (n : ℕ) (notes : List Note) : Type 0 where
  pub whole : length notes ≡ 65536
  pub each : (place : ℕ) (placed : Placed) (found : Fetched) → place < n → slice_get table place ≡ Some placed → found_at reached placed.at ≡ Some found → IsNoted regions notes placed found
  pub leaves : (at : ℕ) → (note_at notes at).is_open ≡ true → IsLeftAt regions reached table at

module _ (regions : Areas) (reached : List (Option Fetched)) (table : List Placed) where
  pub none_noted : (notes : List Note) → length notes ≡ 65536 → ((at : ℕ) → (note_at notes at).is_open ≡ false) → Noted regions reached table 0 notes
  none_noted notes whole none = record {
    whole = whole;
    each = λ place placed found less there instr. absurd (omega (arith, less));
    leaves = λ at is. absurd (true≢false (sym is ∙ none at));
  }

  pub more_noted : (n : ℕ) (notes : List Note) (e : Placed) (note : Note) → slice_get table n ≡ Some e → Noted regions reached table n notes → e.at < 65536 →
      (note.is_open ≡ true → ((note_at notes e.at).is_open ≡ true) ⊎ ((found : Fetched) × ((found_at reached e.at ≡ Some found) × IsLeftOpen regions found.instr e.state.known))) →
      (note.is_open ≡ false → ((note_at notes e.at).is_open ≡ false) × ((found : Fetched) → found_at reached e.at ≡ Some found → StaysIn regions (declared_targets regions e.at) found.instr e.state.known)) →
      note.span ≡ joined (note_at notes e.at).span (span_in (found_at reached e.at) e.state.known) → Noted regions reached table (n + 1) (slice_set notes e.at note)
  more_noted n notes e note there below small opens shut spans = record {
    whole = length-set notes e.at note ∙ below.whole;
    each = λ place placed found less got_it instr. is_noted place placed found got_it instr (split place n less) (cases_eq placed.at e.at);
    leaves = λ at is. leave at is (cases_eq at e.at);
  } where
    here : (at : ℕ) → at ≡ e.at → note_at (slice_set notes e.at note) at ≡ note
    here at same = ap (note_at (slice_set notes e.at note)) same ∙ (let whole = below.whole in get_or-set_same notes e.at note no_note (omega (arith, whole, small)))

    elsewhere : (at : ℕ) → at ≢ e.at → note_at (slice_set notes e.at note) at ≡ note_at notes at
    elsewhere at apart = get_or-set_other notes e.at at note no_note apart

    is_noted : (place : ℕ) (placed : Placed) (found : Fetched) → slice_get table place ≡ Some placed → found_at reached placed.at ≡ Some found → (place < n) ⊎ (place ≡ n) → (placed.at ≡ e.at) ⊎ (placed.at ≢ e.at) →
        IsNoted regions (slice_set notes e.at note) placed found
    is_noted place placed found got_it instr (inl less) (inl same) =
        let old = below.each place placed found less got_it instr in
        record {
          stays = λ closed. old.stays (ap (λ k. (note_at notes k).is_open) same ∙ (shut (sym (ap (λ (x : Note). x.is_open) (here placed.at same)) ∙ closed)).0);
          spans = λ span is.
              let was = old.spans span is in
              let joins = joins_old was.whole (span_in (found_at reached e.at) e.state.known) span was.inside in
              let one : (note_at notes e.at).span ≡ Some was.whole = sym (ap (λ k. (note_at notes k).span) same) ∙ was.there in
              record {
                whole = joins.whole;
                there = ap (λ (x : Note). x.span) (here placed.at same) ∙ spans ∙ ap (λ (o : Option Span). joined o (span_in (found_at reached e.at) e.state.known)) one ∙ joins.is;
                inside = joins.inside;
              };
        }
    is_noted place placed found got_it instr (inl less) (inr apart) =
        let old = below.each place placed found less got_it instr in
        record {
          stays = λ closed. old.stays (sym (ap (λ (x : Note). x.is_open) (elsewhere placed.at apart)) ∙ closed);
          spans = λ span is. let was = old.spans span is in record { whole = was.whole; there = ap (λ (x : Note). x.span) (elsewhere placed.at apart) ∙ was.there; inside = was.inside };
        }
    is_noted place placed found got_it instr (inr now) at =
        let same : e ≡ placed = (let h : slice_get table n ≡ Some placed = subst (λ k. slice_get table k ≡ Some placed) now got_it in cc) in
        subst (λ (p : Placed). found_at reached p.at ≡ Some found → IsNoted regions (slice_set notes e.at note) p found) same
        (λ it. record {
          stays = λ closed. (shut (sym (ap (λ (x : Note). x.is_open) (here e.at refl)) ∙ closed)).1 found it;
          spans = λ span is.
              let joins = joins_new (note_at notes e.at).span span in
              let mine : span_in (found_at reached e.at) e.state.known ≡ Some span = ap (λ (x : Option Fetched). span_in x e.state.known) it ∙ is in
              record {
                whole = joins.whole;
                there = ap (λ (x : Note). x.span) (here e.at refl) ∙ spans ∙ ap (λ (o : Option Span). joined (note_at notes e.at).span o) mine ∙ joins.is;
                inside = joins.inside;
              };
        }) instr

    leave : (at : ℕ) → (note_at (slice_set notes e.at note) at).is_open ≡ true → (at ≡ e.at) ⊎ (at ≢ e.at) → IsLeftAt regions reached table at
    leave at is (inl same) = elim (opens (sym (ap (λ (x : Note). x.is_open) (here at same)) ∙ is)) [
      | inl was ↦ below.leaves at (ap (λ k. (note_at notes k).is_open) same ∙ was)
      | inr left ↦ record { place = n; placed = e; found = left.0; there = there; here = sym same; instr = subst (λ k. found_at reached k ≡ Some left.0) (sym same) left.1.0; leaves = left.1.1 }
    ]
    leave at is (inr apart) = below.leaves at (sym (ap (λ (x : Note). x.is_open) (elsewhere at apart)) ∙ is)

  pub all_noted : (n : ℕ) (notes : List Note) → length table ≤ n → Noted regions reached table n notes → AreNotes regions reached table notes
  all_noted n notes enough below = record {
    each = λ place placed found got_it instr. below.each place placed found (let inside = slice_get_within table place placed got_it in omega (arith, inside, enough)) got_it instr;
    leaves = below.leaves;
  }
