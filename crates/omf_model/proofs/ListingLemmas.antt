-- The one form of the segments of a module.
use Rattle.std.proofs.Common.{◌≡◌, ℕ, suc, ◌+◌, ◌-◌, ◌<◌, ◌≤◌, List, [], ◌∷◌, ◌++◌, Option, Some, None, refl, sym, ap, arith, append_assoc}
use Rattle.std.specs.List.{range_with_len, cons_option}
use Rattle.omf_model.specs.declared.segment.Segment.{Segment}
use Rattle.omf_model.specs.declared.symbols.Common.{Common}
use Rattle.omf_model.specs.Segments.{entry_for, entries_for, listed_ids, canonical_segments}

all_ids : range_with_len 1 (256 - 1) ≡ listed_ids
unfolding listed_ids
all_ids = refl

-- all that are listed are those from the first id on
pub listed_from_first : (entries : List (ℕ × Segment)) (commons : List Common) → entries_for entries commons (range_with_len 1 (256 - 1)) ≡ canonical_segments entries commons
listed_from_first entries commons = ap (entries_for entries commons) all_ids

-- the entries from an id on: its own, if it is listed, and those from the next one on
pub listed_step : (entries : List (ℕ × Segment)) (commons : List Common) (id : ℕ) → id < 256
    → entries_for entries commons (range_with_len id (256 - id)) ≡ cons_option (entry_for entries commons id) (entries_for entries commons (range_with_len (id + 1) (256 - (id + 1))))
unfolding entries_for
listed_step entries commons id below =
    let left : 256 - id ≡ suc (256 - (id + 1)) = omega arith in
    rw left refl

pub listed_end : (entries : List (ℕ × Segment)) (commons : List Common) (id : ℕ) → 256 ≤ id → entries_for entries commons (range_with_len id (256 - id)) ≡ []
unfolding entries_for
listed_end entries commons id above =
    let none : 256 - id ≡ 0 = omega arith in
    rw none refl

pub cons_listed : {A : Type 0} (front rest : List A) (x : Option A) (y : A) → x ≡ Some y → front ++ cons_option x rest ≡ (front ++ y ∷ []) ++ rest
cons_listed front rest x y is = rw is (sym (append_assoc front (y ∷ []) rest))

pub cons_unlisted : {A : Type 0} (front rest : List A) (x : Option A) → x ≡ None → front ++ cons_option x rest ≡ front ++ rest
cons_unlisted front rest x is = rw is refl
