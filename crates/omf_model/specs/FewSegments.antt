-- A module lists at most 255 segments: one for each id but 0. (8080 Object Module Formats, module header record.)
use Rattle.std.proofs.Common.{ℕ, ◌+◌, ◌≤◌, List, [], ◌∷◌, length, arith, Option, Some, None}
use Rattle.std.specs.List.{cons_option}
use Rattle.omf_model.specs.declared.segment.Segment.{Segment}
use Rattle.omf_model.specs.declared.symbols.Common.{Common}
use Rattle.omf_model.specs.Segments.{entry_for, entries_for, listed_ids, canonical_segments}

length-cons_option : {A : Type 0} (o : Option A) (xs : List A) (n : ℕ) → length xs ≤ n → length (cons_option o xs) ≤ n + 1
length-cons_option None xs n few = omega (arith, few)
length-cons_option (Some x) xs n few = omega (arith, few)

entries_few : (e : List (ℕ × Segment)) (c : List Common) (ids : List ℕ) → length (entries_for e c ids) ≤ length ids
unfolding entries_for
entries_few e c [] = omega arith
entries_few e c (i ∷ is) =
    omega (arith, length-cons_option (entry_for e c i) (entries_for e c is) (length is) (entries_few e c is))

ids_few : length listed_ids ≤ 255
unfolding listed_ids
ids_few = omega arith

pub canonical_few : (e : List (ℕ × Segment)) (c : List Common) → length (canonical_segments e c) ≤ 255
canonical_few e c = omega (arith, entries_few e c listed_ids, ids_few)
