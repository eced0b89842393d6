-- Lines, one after another, and the tables of what they say.
use Rattle.std.proofs.Common.{◌≡◌, ℕ, zero, suc, ◌+◌, ◌<◌, ◌≤◌, ◌||◌, Bool, true, false, cond, List, [], ◌∷◌, length}
use Rattle.std.proofs.Common.{get_or, take, drop, refl, ap, sym, subst, ◌∙◌, arith, get_or-set_same, get_or-set_other}
use Rattle.std.specs.Prelude.{All, replicate, slice_get, slice_set, Option, Some, None}
use Rattle.std.proofs.lemmas.List.{drop_more, get_or_default, get_or-replicate, length-replicate, length-set}
use Rattle.std.proofs.lemmas.Option.{slice_get_read}
use Rattle.board80.specs.declared.answers.Answers.{Answers}
use Rattle.board80.specs.declared.line.Line.{Line}
use Rattle.board80.specs.declared.line.Line.TheVariants.{Memory, Interrupt, Reads}
use Rattle.board80.specs.declared.place.Place.{Place}
use Rattle.board80.specs.Board.{IsBoard, IsPlace, IsProper, gives_device}
use Rattle.machine80_board.specs.Exchanges.{answers_at, is_same}
use Rattle.machine80_board.specs.Index.{AreMarked, IsAnswering, answers_of_index, answers_of_line}
use Rattle.machine80_board.specs.Slots.{slot_of}
use Rattle.machine80_board.proofs.PlaceLemmas.{apart_slots, is_one, slot_within}
use Rattle.machine80_board.proofs.PlacingLemmas.{more_devices, proper_at}
use Rattle.machine80_board.proofs.RunLemmas.{none_only}

opened : (lines : List Line) (i : ℕ) (line : Line) → i < length lines → line ≡ get_or lines i line → drop i lines ≡ line ∷ drop (i + 1) lines
opened lines i line inside is = drop_more lines i line inside ∙ ap (λ (x : Line). x ∷ drop (i + 1) lines) (sym is)

past : (lines : List Line) (i : ℕ) → length lines ≤ i → drop i lines ≡ []
past [] zero behind = refl
past [] (suc i) behind = refl
past (x ∷ xs) zero behind = absurd (omega arith)
past (x ∷ xs) (suc i) behind = past xs i (omega arith)

-- ---- the table of answers

-- copies of None have no answers, as no lines have
pub answering_none : (C : Option ℕ → Type 0) (lines : List Line) (table : List (Option ℕ)) → (((y : Option ℕ) → C y → y ≡ None) → table ≡ replicate 65792 None) → ((n : ℕ) → C (Some n) → ⊥) →
    IsAnswering lines (drop (length lines) lines) table
answering_none C lines table same other = subst (λ (said : List Line). IsAnswering lines said table) (sym (past lines (length lines) (omega arith))) (record {
  whole = ap (λ (l : List (Option ℕ)). length l) is ∙ length-replicate {A = Option ℕ} 65792 None;
  found = λ place proper. ap (λ (l : List (Option ℕ)). answers_of_index lines (get_or l (slot_of place) None)) is
      ∙ ap (answers_of_index lines) (get_or-replicate 65792 (slot_of place) None None (slot_within place proper));
})
  where
    is : table ≡ replicate 65792 None
    is = same (λ y h. none_only C other y h)

-- one more line with answers, before those in the table
pub answering_more : (lines : List Line) (i : ℕ) (line : Line) (here : Place) (answers : Answers) (table : List (Option ℕ)) → i < length lines → line ≡ get_or lines i line → line ≡ Reads here answers → IsPlace here →
    IsAnswering lines (drop (i + 1) lines) table → IsAnswering lines (drop i lines) (slice_set table (slot_of here) (Some i))
answering_more lines i line here answers table inside is reads proper old = record {
  whole = length-set table (slot_of here) (Some i) ∙ old.whole;
  found = λ place place_proper. by_test place place_proper (is_same here place) refl;
}
  where
    said : (place : Place) → answers_at (drop i lines) place ≡ cond (is_same here place) (Some answers) (answers_at (drop (i + 1) lines) place)
    said place = ap (λ l. answers_at l place) (opened lines i line inside is) ∙ ap (λ (x : Line). answers_at (x ∷ drop (i + 1) lines) place) reads

    line_is : slice_get lines i ≡ Some line
    line_is = slice_get_read lines (length lines) i line refl inside is

    by_test : (place : Place) → IsPlace place → (same : Bool) → is_same here place ≡ same → answers_of_index lines (get_or (slice_set table (slot_of here) (Some i)) (slot_of place) None) ≡ answers_at (drop i lines) place
    by_test place place_proper true h =
        ap (λ (p : Place). answers_of_index lines (get_or (slice_set table (slot_of here) (Some i)) (slot_of p) None)) (sym (is_one here place h))
        ∙ ap (answers_of_index lines) (get_or-set_same table (slot_of here) (Some i) None (let w = slot_within here proper in omega (arith, w, old.whole)))
        ∙ ap answers_of_line (line_is ∙ ap (λ (x : Line). Some x) reads)
        ∙ sym (said place ∙ ap (λ b. cond b (Some answers) (answers_at (drop (i + 1) lines) place)) h)
    by_test place place_proper false h =
        ap (answers_of_index lines) (get_or-set_other table (slot_of here) (slot_of place) (Some i) None (λ e. apart_slots here place proper place_proper h (sym e)))
        ∙ old.found place place_proper
        ∙ sym (said place ∙ ap (λ b. cond b (Some answers) (answers_at (drop (i + 1) lines) place)) h)

-- and one without answers
pub answering_kept : (lines : List Line) (i : ℕ) (line : Line) (table : List (Option ℕ)) → i < length lines → line ≡ get_or lines i line → ((here : Place) (answers : Answers) → line ≡ Reads here answers → ⊥) →
    IsAnswering lines (drop (i + 1) lines) table → IsAnswering lines (drop i lines) table
answering_kept lines i line table inside is none old = record {
  whole = old.whole;
  found = λ place proper. old.found place proper ∙ sym (ap (λ l. answers_at l place) (opened lines i line inside is) ∙ says_none line none place);
}
  where
    says_none : (line : Line) → ((here : Place) (answers : Answers) → line ≡ Reads here answers → ⊥) → (place : Place) → answers_at (line ∷ drop (i + 1) lines) place ≡ answers_at (drop (i + 1) lines) place
    says_none (Memory kind range) h place = refl
    says_none (Interrupt address) h place = refl
    says_none (Reads here answers) h place = absurd (h here answers refl)

-- all lines are in the table
pub answering_all : (lines : List Line) (i : ℕ) (table : List (Option ℕ)) → i ≡ 0 → IsAnswering lines (drop i lines) table → IsAnswering lines lines table
answering_all lines i table none all = subst (λ (said : List Line). IsAnswering lines said table) (ap (λ k. drop k lines) none ∙ dropped_none lines) all
  where
    dropped_none : (lines : List Line) → drop 0 lines ≡ lines
    dropped_none [] = refl
    dropped_none (x ∷ xs) = refl

-- ---- the marks of devices

-- each line of a board is proper
pub all_proper : (lines : List Line) → IsBoard lines → All IsProper lines
all_proper lines rules k d inside = proper_at lines k (get_or lines k d) rules inside (get_or_default lines k d (get_or lines k d) inside)

pub marked_none : (marks : List Bool) → marks ≡ replicate 65536 false → AreMarked [] marks
marked_none marks is = record {
  whole = ap (λ (l : List Bool). length l) is ∙ length-replicate {A = Bool} 65536 false;
  marked = λ address. ap (λ (l : List Bool). get_or l address false) is ∙ all_false 65536 address;
}
  where
    all_false : (n address : ℕ) → get_or (replicate n false) address false ≡ false
    all_false zero address = refl
    all_false (suc n) zero = refl
    all_false (suc n) (suc address) = all_false n address

pub marked_more : (lines : List Line) (i : ℕ) (line : Line) (old new : List Bool) → i < length lines → line ≡ get_or lines i line → AreMarked (take i lines) old → length new ≡ 65536 →
    ((address : ℕ) → get_or new address false ≡ (get_or old address false || gives_device line address)) → AreMarked (take (i + 1) lines) new
marked_more lines i line old new inside is known whole marks = record {
  whole = whole;
  marked = λ address. marks address ∙ ap (λ b. b || gives_device line address) (known.marked address) ∙ sym (more_devices lines i line address inside is);
}
