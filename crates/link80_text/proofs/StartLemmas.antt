-- Where a part starts: after the end of those before it.
use Rattle.std.specs.Prelude.{◌≡◌, ℕ, zero, suc, ◌+◌, ◌<◌, ◌≤◌, Bool, true, false, if◌then◌else◌, Some, option_map, List, [], ◌∷◌, ◌++◌, map, take, slice_get, slice_index, length}
use Rattle.std.specs.List.{take-map}
use Rattle.std.proofs.Common.{refl, ◌∙◌, ap, arith, get_or}
use Rattle.std.proofs.lemmas.Option.{slice_get-map, slice_get-get_or}
use Rattle.omf_model.specs.declared.segment.Segment.{Segment}
use Rattle.omf_model.specs.Segments.{segment_in}
use Rattle.omf_model.specs.Modules.{ModuleValue}
use Rattle.omf_model.specs.Place.{rounded, is_laid_out, starts_from, part_start}
use Rattle.link80.specs.Linked.{parts_end}

pub starts_after : (id before : ℕ) (ms : List ModuleValue) (n : ℕ) (m : ModuleValue) → slice_get ms n ≡ Some m →
    slice_index (starts_from id before ms) n ≡ rounded (segment_in m.segments id).paged (parts_end id before (take n ms))
starts_after id before [] n m at = absurd cc
starts_after id before (x ∷ ms) zero m at = ap (λ (y : ModuleValue). rounded (segment_in y.segments id).paged before) (is x m at)
  where
    is : (a b : ModuleValue) → Some a ≡ Some b → a ≡ b
    is a b e = cc
starts_after id before (x ∷ ms) (suc n) m at =
    let s : Segment = segment_in x.segments id in starts_after id (rounded s.paged before + s.length) ms n m at

-- the same by a list that modules are read from
pub part_start_after : {R : Type 0} (read : R → ModuleValue) (xs : List R) (n : ℕ) (d : R) (id : ℕ) → n < length xs
    → is_laid_out id ≡ true →
    part_start (map read xs) n id ≡ rounded (segment_in (read (get_or xs n d)).segments id).paged (parts_end id 0 (map read (take n xs)))
part_start_after read xs n d id inside laid =
    let m : ModuleValue = read (get_or xs n d) in
    ap (λ b. if b then slice_index (starts_from id 0 (map read xs)) n else 0) laid
    ∙ starts_after id 0 (map read xs) n m (slice_get-map read xs n ∙ ap (option_map read) (slice_get-get_or xs n d inside))
    ∙ ap (λ (l : List ModuleValue). rounded (segment_in m.segments id).paged (parts_end id 0 l)) (take-map read n xs)

-- a rounded number isn't far above
pub near_rounded : (paged : Bool) (n : ℕ) → rounded paged n ≤ n + 255
near_rounded true n = omega arith
near_rounded false n = omega arith

-- the end with one more part
pub end_more : (id before : ℕ) (ms : List ModuleValue) (m : ModuleValue)
    → parts_end id before (ms ++ m ∷ []) ≡ rounded (segment_in m.segments id).paged (parts_end id before ms) + (segment_in m.segments id).length
end_more id before [] m = refl
end_more id before (x ∷ ms) m = end_more id (rounded (segment_in x.segments id).paged before + (segment_in x.segments id).length) ms m
