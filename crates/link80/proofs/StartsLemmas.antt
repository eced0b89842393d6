-- Parts one after another.
use Rattle.std.specs.Prelude.{◌≡◌, ℕ, suc, length, ◌+◌, ◌≤◌, ◌<◌, nat_le, Bool, true, false, if◌then◌else◌, Option, Some, None, List, [], ◌∷◌, ◌++◌, drop, slice_get, refl}
use Rattle.std.proofs.Common.{◌∙◌, ap, sym, arith, append_assoc}
use Rattle.std.proofs.lemmas.Bool.{leb-false}
use Rattle.std.proofs.lemmas.Bool.Decides.{nat_tests}
use Rattle.omf_model.specs.declared.segment.Segment.{Segment}
use Rattle.omf_model.specs.Segments.{segment_in}
use Rattle.omf_model.specs.Modules.{ModuleValue}
use Rattle.omf_model.specs.Place.{rounded, starts_from}
use Rattle.link80.specs.Linked.{parts_end}
use Rattle.link80.specs.Starts.{next_part}
use Rattle.link80.proofs.LoopLemmas.{left_at}
use Rattle.link80.proofs.SegmentLemmas.{ends_later}

pub record IsNextPart (before : ℕ) (s : Segment) (start end : ℕ) : Type 0 where
  pub start_is : start ≡ rounded s.paged before
  pub end_is : end ≡ rounded s.paged before + s.length
  pub fits : end ≤ 65535

pub is_next_part : (before : ℕ) (s : Segment) (start end : ℕ) → next_part before s ≡ Some (start, end)
    → IsNextPart before s start end
is_next_part before s start end is = by (nat_le first_end 65535) refl is
  where
    first : ℕ
    first = rounded s.paged before

    first_end : ℕ
    first_end = first + s.length

    pair_is : (a b : ℕ × ℕ) → Some a ≡ Some b → a ≡ b
    pair_is a b e = cc

    by : (b : Bool) → nat_le first_end 65535 ≡ b
        → (if◌then◌else◌ {A = Option (ℕ × ℕ)} b (Some (first, first_end)) None) ≡ Some (start, end)
        → IsNextPart before s start end
    by true fits some = record {
      start_is = sym (ap (λ (p : ℕ × ℕ). p.0) (pair_is _ _ some));
      end_is = sym (ap (λ (p : ℕ × ℕ). p.1) (pair_is _ _ some));
      fits = grind (arith, nat_tests, fits, pair_is _ _ some);
    }
    by false long none = absurd cc

pub no_next_part : (before : ℕ) (s : Segment) → next_part before s ≡ None → 65535 < rounded s.paged before + s.length
no_next_part before s none = by (nat_le (rounded s.paged before + s.length) 65535) refl none
  where
    by : (b : Bool) → nat_le (rounded s.paged before + s.length) 65535 ≡ b
        → (if◌then◌else◌ {A = Option (ℕ × ℕ)} b (Some (rounded s.paged before, rounded s.paged before + s.length)) None) ≡ None
        → 65535 < rounded s.paged before + s.length
    by true fits some = absurd cc
    by false long none = leb-false (rounded s.paged before + s.length) 65535 long

pub record PartIsLaid (id before : ℕ) (ms : List ModuleValue) (n start end : ℕ) (made : List ℕ) : Type 0 where
  pub starts : (made ++ start ∷ []) ++ starts_from id end (drop (n + 1) ms) ≡ made ++ starts_from id before (drop n ms)
  pub ends : parts_end id end (drop (n + 1) ms) ≡ parts_end id before (drop n ms)
  pub fits : end ≤ 65535

pub part_is_laid : (id before : ℕ) (ms : List ModuleValue) (n : ℕ) (m : ModuleValue) (start end : ℕ) (made : List ℕ)
    → slice_get ms n ≡ Some m →
    next_part before (segment_in m.segments id) ≡ Some (start, end) → PartIsLaid id before ms n start end made
part_is_laid id before ms n m start end made at is =
    let next = is_next_part before (segment_in m.segments id) start end is in
    let rest : List ModuleValue = drop (n + 1) ms in
    record {
      starts =
          append_assoc made (start ∷ []) (starts_from id end rest)
          ∙ ap (λ a. made ++ a ∷ starts_from id end rest) next.start_is
          ∙ ap (λ e. made ++ rounded (segment_in m.segments id).paged before ∷ starts_from id e rest) next.end_is
          ∙ ap (λ l. made ++ starts_from id before l) (sym (left_at ms n m at));
      ends = ap (λ e. parts_end id e rest) next.end_is ∙ ap (parts_end id before) (sym (left_at ms n m at));
      fits = next.fits;
    }

-- where a part ends too far, so does the last
pub too_long_at : (id before : ℕ) (ms : List ModuleValue) (n : ℕ) (m : ModuleValue) → slice_get ms n ≡ Some m
    → next_part before (segment_in m.segments id) ≡ None → 65535 < parts_end id before (drop n ms)
too_long_at id before ms n m at none =
    let s : Segment = segment_in m.segments id in
    let over = no_next_part before s none in
    let later = ends_later id (rounded s.paged before + s.length) (drop (n + 1) ms) in
    let all : parts_end id before (drop n ms) ≡ parts_end id (rounded s.paged before + s.length) (drop (n + 1) ms) =
    ap (parts_end id before) (left_at ms n m at) in
    omega (arith, over, later, all)

-- a start for each module
pub starts_count : (id before : ℕ) (ms : List ModuleValue) → length (starts_from id before ms) ≡ length ms
starts_count id before [] = refl
starts_count id before (m ∷ ms) = let s : Segment = segment_in m.segments id in
    ap suc (starts_count id (rounded s.paged before + s.length) ms)
