-- The places of segments, one after another.
use Rattle.std.specs.Prelude.{◌≡◌, ℕ, suc, ◌+◌, ◌-◌, ◌<◌, ◌≤◌, Bool, true, false, List, [], ◌∷◌, ◌++◌, drop, filter, length, refl}
use Rattle.std.specs.List.{AllByRecursion, range_with_len}
use Rattle.std.proofs.Common.{cond, ap, sym, arith, append_assoc, get_or, ◌∙◌}
use Rattle.std.proofs.lemmas.List.{drop_more}
use Rattle.omf_model.specs.declared.symbols.Common.{Common}
use Rattle.omf_model.specs.Segments.{has_common_id}
use Rattle.omf_model.specs.Modules.{ModuleValue}
use Rattle.place80.specs.declared.options.Options.{Options}
use Rattle.place80.specs.declared.placed_segments.Placed.{Placed}
use Rattle.place80.specs.Layout.{common_numbers, common_ids, order_of, placed_after, placed_from, layout_of}

all_numbers : range_with_len 6 (255 - 6) ≡ common_numbers
unfolding common_numbers
all_numbers = refl

pub from_first_id : (commons : List Common) → filter (has_common_id commons) (range_with_len 6 (255 - 6)) ≡ common_ids commons
from_first_id commons = ap (filter (has_common_id commons)) all_numbers

-- the ids from one on: itself, if a common has it, and those after it
pub ids_step : (commons : List Common) (id : ℕ) → id < 255 →
    filter (has_common_id commons) (range_with_len id (255 - id))
    ≡ cond (has_common_id commons id) (id ∷ filter (has_common_id commons) (range_with_len (id + 1) (255 - (id + 1))))
    (filter (has_common_id commons) (range_with_len (id + 1) (255 - (id + 1))))
ids_step commons id below =
    let left : 255 - id ≡ suc (255 - (id + 1)) = omega arith in
    rw left refl

pub ids_end : (commons : List Common) (id : ℕ) → 255 ≤ id → filter (has_common_id commons) (range_with_len id (255 - id)) ≡ []
ids_end commons id above =
    let none : 255 - id ≡ 0 = omega arith in
    rw none refl

pub with_id : (front rest : List ℕ) (b : Bool) (id : ℕ) → b ≡ true → front ++ cond b (id ∷ rest) rest ≡ (front ++ id ∷ []) ++ rest
with_id front rest b id is = rw is (sym (append_assoc front (id ∷ []) rest))

pub without_id : (front rest : List ℕ) (b : Bool) (id : ℕ) → b ≡ false → front ++ cond b (id ∷ rest) rest ≡ front ++ rest
without_id front rest b id is = rw is refl

-- the layout is the places of all ids in their order
pub whole_layout : (options : Options) (m : ModuleValue) → placed_from options m 12288 (order_of m.commons) ≡ layout_of options m
unfolding layout_of
whole_layout options m = refl

-- the places so far and those that are left, with one more
pub one_place_more : (options : Options) (m : ModuleValue) (before : ℕ) (ids : List ℕ) (i : ℕ) (segments : List Placed)
    (placed : Placed) → i < length ids → placed ≡ placed_after options m before (get_or ids i 0) →
    (segments ++ placed ∷ []) ++ placed_from options m (placed.base + placed.length) (drop (i + 1) ids) ≡ segments
    ++ placed_from options m before (drop i ids)
one_place_more options m before ids i segments placed inside is =
    append_assoc segments (placed ∷ []) (placed_from options m (placed.base + placed.length) (drop (i + 1) ids))
    ∙ ap (λ (p : Placed). segments ++ p ∷ placed_from options m (p.base + p.length) (drop (i + 1) ids)) is
    ∙ ap (λ l. segments ++ placed_from options m before l) (sym (drop_more ids i 0 inside))

pub one_word_more : (segments : List Placed) (placed : Placed) → AllByRecursion (λ p. p.length < 65536) segments
    → placed.length < 65536 → AllByRecursion (λ p. p.length < 65536) (segments ++ placed ∷ [])
one_word_more [] placed all word = (word, tt)
one_word_more (p ∷ ps) placed all word = (all.0, one_word_more ps placed all.1 word)
