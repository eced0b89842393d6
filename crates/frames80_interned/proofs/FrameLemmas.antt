-- The frames that are kept: what one more of them, and more stacks, leave as it was.
use Rattle.std.proofs.Common.{◌≡◌, ◌<◌, ℕ, zero, suc, ◌⊎◌, inl, inr, List, [], ◌∷◌, ◌++◌, Some, length, slice_get, Result, Ok, Err, IfOk, refl, sym, ◌∙◌, ap, subst, arith}
use Rattle.std.specs.Option.{option_map}
use Rattle.std.proofs.lemmas.Option.{slice_get-map, slice_get_within, get_or_from_slice_get, same_Some, none-some}
use Rattle.std.proofs.lemmas.List.{length-map}
use Rattle.frames80.specs.declared.word.Word.{Word}
use Rattle.frames80.specs.StackFrame.{StackFrame, entry_frame}
use Rattle.frames80_interned.specs.declared.interned_frame.InternedFrame.{InternedFrame}
use Rattle.frames80_interned.specs.Frames.{frame_at, IsFrame, IsLesserFrame, StayNumbered}
use Rattle.frames80.specs.Places.{Covers}
use Rattle.frames80_interned.specs.Stacks.{IsStack, StacksStay}
use Rattle.frames80_interned.specs.InternedFrame.{pairs_of, frame_of, frames_of, AreInterned}
use Rattle.frames80.specs.Lists.{slice_get-append, slice_get-push}
use Rattle.frames80_interned.proofs.StackLemmas.{words_at-stays, within-stays}

-- a kept frame has the number of its place
framed : (stacks : List (List Word)) (interned : List InternedFrame) (i : ℕ) (frame : InternedFrame) → slice_get interned i ≡ Some frame → slice_get (frames_of stacks interned) i ≡ Some (frame_of stacks frame)
framed stacks interned i frame e = slice_get-map (frame_of stacks) interned i ∙ ap (option_map (frame_of stacks)) e

kept_for : (stacks : List (List Word)) (interned : List InternedFrame) (i : ℕ) (frame : StackFrame) → slice_get (frames_of stacks interned) i ≡ Some frame → (k : InternedFrame) × (slice_get interned i ≡ Some k) × (frame_of stacks k ≡ frame)
kept_for stacks [] i frame e = absurd (none-some frame e)
kept_for stacks (k ∷ interned) zero frame e = (k, refl, same_Some (frame_of stacks k) frame e)
kept_for stacks (k ∷ interned) (suc i) frame e = kept_for stacks interned i frame e

-- what is known of a frame when it is read
module _ (stacks : List (List Word)) (interned : List InternedFrame) (frames : List StackFrame) (view_is : frames_of stacks interned ≡ frames) (i : ℕ) where
  pub within-interned : i < length frames → i < length interned
  within-interned h = let e = ap length view_is in let l = length-map interned (frame_of stacks) in omega arith

  pub frame-read : (frame : InternedFrame) → slice_get interned i ≡ Some frame → frame_at frames i ≡ frame_of stacks frame
  frame-read frame e = get_or_from_slice_get frames i (frame_of stacks frame) entry_frame (ap (λ fs. slice_get fs i) (sym view_is) ∙ framed stacks interned i frame e)

-- the frames when there are more stacks, and maybe one more frame
module _ (old new : List (List Word)) (interned : List InternedFrame) (frames : List StackFrame) (view_is : frames_of old interned ≡ frames) (h : AreInterned old interned) (s : StacksStay old new) where
  same-frame : (frame : InternedFrame) → frame.words < length old → frame_of new frame ≡ frame_of old frame
  same-frame frame there =
      let with : List Word → StackFrame = λ words. record { taken = frame.taken; words = words; pairs = pairs_of frame } in
      ap with (words_at-stays old new s frame.words there)

  stays-numbered : (more : List InternedFrame) → ((i : ℕ) (frame : InternedFrame) → slice_get interned i ≡ Some frame → slice_get more i ≡ Some frame) → StayNumbered frames (frames_of new more)
  stays-numbered more stay = record {
    stays = λ i frame e.
        let k = kept_for old interned i frame (ap (λ fs. slice_get fs i) view_is ∙ e) in
        framed new more i k.0 (stay i k.0 k.1) ∙ ap (λ (f : StackFrame). Some f) (same-frame k.0 (h.there i k.0 k.1) ∙ k.2);
  }

  empty-stays : IsStack new 0 []
  empty-stays = record { there = within-stays old new s 0 h.empty.there; is = words_at-stays old new s 0 h.empty.there ∙ h.empty.is }

  -- more stacks alone
  pub StayNumbered-stacks : StayNumbered frames (frames_of new interned)
  StayNumbered-stacks = stays-numbered interned (λ i frame e. e)

  pub AreInterned-stacks : AreInterned new interned
  AreInterned-stacks = record { empty = empty-stays; there = λ i frame e. within-stays old new s frame.words (h.there i frame e) }

  -- a frame is kept
  module _ (more : List InternedFrame) (last : InternedFrame) (grows : (more ≡ interned) ⊎ (more ≡ interned ++ last ∷ [])) where
    pub StayNumbered-interned : StayNumbered frames (frames_of new more)
    StayNumbered-interned = by grows
      where
        by : (more ≡ interned) ⊎ (more ≡ interned ++ last ∷ []) → StayNumbered frames (frames_of new more)
        by (inl same) = subst (λ (ks : List InternedFrame). StayNumbered frames (frames_of new ks)) (sym same) StayNumbered-stacks
        by (inr push) = stays-numbered more (λ i frame e. subst (λ (ks : List InternedFrame). slice_get ks i ≡ Some frame) (sym push) (slice_get-append interned (last ∷ []) i frame e))

    pub AreInterned-interned : last.words < length new → AreInterned new more
    AreInterned-interned there = by grows
      where
        pushed : (i : ℕ) (frame : InternedFrame) → slice_get (interned ++ last ∷ []) i ≡ Some frame → frame.words < length new
        pushed i frame e = on (slice_get-push interned last i frame e)
          where
            on : (slice_get interned i ≡ Some frame) ⊎ ((i ≡ length interned) × (frame ≡ last)) → frame.words < length new
            on (inl was) = within-stays old new s frame.words (h.there i frame was)
            on (inr is) = subst (λ (k : InternedFrame). k.words < length new) (sym is.1) there

        by : (more ≡ interned) ⊎ (more ≡ interned ++ last ∷ []) → AreInterned new more
        by (inl same) = subst (AreInterned new) (sym same) AreInterned-stacks
        by (inr push) = subst (AreInterned new) (sym push) (record { empty = empty-stays; there = pushed })

-- the number of a kept frame
pub IsFrame-interned : (stacks : List (List Word)) (interned : List InternedFrame) (i : ℕ) (last : InternedFrame) (frame : StackFrame) → slice_get interned i ≡ Some last → frame_of stacks last ≡ frame → IsFrame (frames_of stacks interned) i frame
IsFrame-interned stacks interned i last frame e is = record {
  there = slice_get_within (frames_of stacks interned) i (frame_of stacks last) (framed stacks interned i last e);
  is = get_or_from_slice_get (frames_of stacks interned) i (frame_of stacks last) entry_frame (framed stacks interned i last e) ∙ is;
}

pub IsFrame-result : {E : Type 0} (r : Result ℕ E) (stacks : List (List Word)) (interned : List InternedFrame) (last : InternedFrame) (frame : StackFrame) → IfOk r (λ id. slice_get interned id ≡ Some last) → frame_of stacks last ≡ frame
    → IfOk r (λ id. IsFrame (frames_of stacks interned) id frame)
IsFrame-result (Ok id) stacks interned last frame e is = IsFrame-interned stacks interned id last frame e is
IsFrame-result (Err err) stacks interned last frame e is = e

-- a number that is answered has a frame that covers
pub IsLesserFrame-result : {E : Type 0} (r : Result ℕ E) (stacks : List (List Word)) (interned : List InternedFrame) (last : InternedFrame) (frame : StackFrame) → IfOk r (λ id. slice_get interned id ≡ Some last) →
    Covers (frame_of stacks last) frame → IfOk r (λ id. IsLesserFrame (frames_of stacks interned) id frame)
IsLesserFrame-result (Ok id) stacks interned last frame e covers =
    let is = IsFrame-interned stacks interned id last (frame_of stacks last) e refl in
    record { there = is.there; covers = subst (λ (f : StackFrame). Covers f frame) (sym is.is) covers }
IsLesserFrame-result (Err err) stacks interned last frame e covers = e
