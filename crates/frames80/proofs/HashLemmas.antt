-- What is hashed of a frame, part by part.
use Rattle.std.specs.Prelude.{◌≡◌, ℕ, List, ◌++◌, reverse}
use Rattle.std.specs.List.{fold}
use Rattle.std.specs.Hash.{u32, slice}
use Rattle.std.proofs.Common.{◌∙◌, ap, sym}
use Rattle.std.proofs.lemmas.List.{reverse-reverse}
use Rattle.std.proofs.lemmas.List.Sums.{fold-append}
use Rattle.frames80.specs.declared.word.Word.{Word}
use Rattle.frames80.specs.Word.{word_writes}
use Rattle.frames80.specs.FrameEquality.{frame_writes}

-- the parts are written one after another, the words from bottom to top
pub written : {S : Type 0} (write : S → List ℕ → S) (before one two three four after : S) (items : List Word) (taken : ℕ) (bc de hl : Word) →
    one ≡ fold write before (u32 taken) → two ≡ fold write one (slice word_writes items) →
    three ≡ fold write two (word_writes bc) → four ≡ fold write three (word_writes de) → after ≡ fold write four (word_writes hl) →
    after ≡ fold write before (frame_writes (record { taken = taken; words = reverse items; pairs = record { bc = bc; de = de; hl = hl } }))
written write before one two three four after items taken bc de hl is_one is_two is_three is_four is_after =
    is_after
    ∙ ap (λ s. fold write s (word_writes hl)) (is_four
    ∙ ap (λ s. fold write s (word_writes de)) (is_three
    ∙ ap (λ s. fold write s (word_writes bc)) (is_two
    ∙ ap (λ s. fold write s (slice word_writes items)) is_one)))
    ∙ sym (fold-append write before (((u32 taken ++ slice word_writes items) ++ word_writes bc) ++ word_writes de) (word_writes hl)
    ∙ ap (λ s. fold write s (word_writes hl)) (fold-append write before ((u32 taken ++ slice word_writes items) ++ word_writes bc) (word_writes de)
    ∙ ap (λ s. fold write s (word_writes de)) (fold-append write before (u32 taken ++ slice word_writes items) (word_writes bc)
    ∙ ap (λ s. fold write s (word_writes bc)) (fold-append write before (u32 taken) (slice word_writes items)))))
    ∙ ap (λ xs. fold write before ((((u32 taken ++ slice word_writes xs) ++ word_writes bc) ++ word_writes de) ++ word_writes hl)) (sym (reverse-reverse items))
