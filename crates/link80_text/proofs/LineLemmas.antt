-- Lines one after another.
use Rattle.std.specs.Prelude.{◌≡◌, ℕ, ◌+◌, Some, List, [], ◌∷◌, ◌++◌, map, take, slice_get, refl}
use Rattle.std.specs.List.{flat_map, AllZip}
use Rattle.std.proofs.Common.{◌∙◌, ap, sym, subst, append_assoc, append-nil}
use Rattle.std.proofs.lemmas.List.{take_more}
use Rattle.std.proofs.lemmas.Option.{slice_get_within, get_or_from_slice_get}
use Rattle.link80_select.specs.declared.chosen.Chosen.{Chosen}
use Rattle.link80_text.specs.Found.{PrintsLine, PrintsLines, ReasonsValue}
use Rattle.link80_text.specs.Reasons.{IsReasonLine, ReasonLine}

texts_more : (ls : List ReasonLine) (l : ReasonLine) → flat_map (λ (line : ReasonLine). line.text) (ls ++ l ∷ []) ≡ flat_map (λ line. line.text) ls ++ l.text
texts_more [] l = append-nil l.text
texts_more (k ∷ ls) l = ap (λ t. k.text ++ t) (texts_more ls l) ∙ sym (append_assoc k.text (flat_map (λ line. line.text) ls) l.text)

named_more : (ls : List ReasonLine) (l : ReasonLine) → map (λ (line : ReasonLine). line.by) (ls ++ l ∷ []) ≡ map (λ line. line.by) ls ++ l.by ∷ []
named_more [] l = refl
named_more (k ∷ ls) l = ap (λ t. k.by ∷ t) (named_more ls l)

zip_more : {A B : Type 0} (R : A → B → Type 0) (xs : List A) (ys : List B) (x : A) (y : B) → AllZip R xs ys → R x y
    → AllZip R (xs ++ x ∷ []) (ys ++ y ∷ [])
zip_more R [] [] x y zip one = (one, tt)
zip_more R [] (v ∷ ys) x y zip one = absurd zip
zip_more R (u ∷ xs) [] x y zip one = absurd zip
zip_more R (u ∷ xs) (v ∷ ys) x y zip one = (zip.0, zip_more R xs ys x y zip.1 one)

one_more : {A : Type 0} (xs : List A) (n : ℕ) (x : A) → slice_get xs n ≡ Some x → take (n + 1) xs ≡ take n xs ++ x ∷ []
one_more xs n x at = take_more xs n x (slice_get_within xs n x at) ∙ ap (λ q. take n xs ++ q ∷ []) (get_or_from_slice_get xs n x x at)

pub prints_more : (s : ReasonsValue) (paths : List (List ℕ)) (n : ℕ) (p : Chosen) (before text after : List ℕ)
    → PrintsLines s paths n before text → slice_get s.taken n ≡ Some p
    → PrintsLine s paths n p text after → PrintsLines s paths (n + 1) before after
prints_more s paths n p before text after so_far at one = record {
  lines = so_far.lines ++ one.line ∷ [];
  each = subst (λ (ps : List Chosen). AllZip (IsReasonLine s.roots s.libraries s.taken paths) ps (so_far.lines ++ one.line ∷ []))
      (sym (one_more s.taken n p at)) (zip_more (IsReasonLine s.roots s.libraries s.taken paths) (take n s.taken) so_far.lines p one.line
      so_far.each one.is_line);
  named = named_more so_far.lines one.line ∙ ap (λ t. t ++ one.line.by ∷ []) so_far.named ∙ sym (one_more s.named n one.line.by one.named);
  after_is = one.after_is ∙ ap (λ t. t ++ one.line.text) so_far.after_is
      ∙ append_assoc before (flat_map (λ (line : ReasonLine). line.text) so_far.lines) one.line.text
      ∙ ap (λ t. before ++ t) (sym (texts_more so_far.lines one.line));
}
