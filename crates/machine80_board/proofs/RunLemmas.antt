-- Runs on boards, step by step.
use Rattle.std.proofs.Common.{◌≡◌, ℕ, zero, suc, ◌+◌, ◌<◌, ◌≤◌, true, false, List, [], ◌∷◌, length, get_or, refl, ap, inl, inr, sym, subst, ◌∙◌, arith}
use Rattle.std.specs.Prelude.{nat_lt, replicate, slice_get, is_some, Option, Some, None, Result, Ok, Err, IfOk}
use Rattle.std.proofs.lemmas.Bool.{cases_lt, lt-ltb}
use Rattle.std.proofs.lemmas.List.{get_or-replicate}
use Rattle.image80.specs.Regions.{Areas}
use Rattle.machine80.specs.Step.{Machine}
use Rattle.board80.specs.declared.line.Line.{Line}
use Rattle.board80.specs.ByteList.{ListedBytes}
use Rattle.machine80_board.specs.declared.cursor.Cursor.{Cursor}
use Rattle.machine80_board.specs.declared.end.BoardEnd.{BoardEnd}
use Rattle.machine80_board.specs.declared.output.Output.{Output}
use Rattle.machine80_board.specs.declared.rules.Running.{Running}
use Rattle.machine80_board.specs.BoardRun.{BoardState, IsReached, begins, goes_on}
use Rattle.machine80_board.specs.Cursor.{IsAt}
use Rattle.machine80_board.specs.Keeping.{EndsFrom, HasCome, HaveGiven, HaveSeen, IsNow, Turned}
use Rattle.machine80_board.specs.Slots.{slot_of}
use Rattle.machine80_board.proofs.PlaceLemmas.{slot_within}

pub ok_then : {A E : Type 0} {P Q : A → Type 0} (r : Result A E) → ((a : A) → P a → Q a) → IfOk r P → IfOk r Q
ok_then (Ok a) f h = f a h
ok_then (Err e) f h = tt

pub got : (xs : List Output) (i : ℕ) (x : Output) → i < length xs → x ≡ get_or xs i x → slice_get xs i ≡ Some x
got [] i x inside is = absurd (omega arith)
got (y ∷ ys) zero x inside is = ap (λ (o : Output). Some o) (sym is)
got (y ∷ ys) (suc i) x inside is = got ys i x (omega arith) is

pub not_got : (xs : List Output) (i : ℕ) → length xs ≤ i → slice_get xs i ≡ None
not_got [] i past = refl
not_got (y ∷ ys) zero past = absurd (omega arith)
not_got (y ∷ ys) (suc i) past = not_got ys i (omega arith)

-- before the first step
pub given_first : (lines : List Line) (cursors : List Cursor) (start : Cursor) → cursors ≡ replicate 65792 start → ((list : ListedBytes) → IsAt list start 0) → HaveGiven lines cursors []
given_first lines cursors start same starts = record {
  given = λ place list proper is d. subst (λ (l : List Cursor). IsAt list (get_or l (slot_of place) d) 0) (sym same)
      (subst (λ (x : Cursor). IsAt list x 0) (sym (get_or-replicate 65792 (slot_of place) start d (slot_within place proper))) (starts list));
}

pub seen_first : (last : List (Option ℕ)) → last ≡ replicate 65792 None → HaveSeen last []
seen_first last same = record {
  seen = λ place proper. ap (λ (l : List (Option ℕ)). get_or l (slot_of place) None) same ∙ get_or-replicate 65792 (slot_of place) None None (slot_within place proper);
}

pub none_only : (C : Option ℕ → Type 0) → ((b : ℕ) → C (Some b) → ⊥) → (y : Option ℕ) → C y → y ≡ None
none_only C f None h = refl
none_only C f (Some b) h = absurd (f b h)

-- copies of None are None
pub seen_of_copies : (C : Option ℕ → Type 0) (last : List (Option ℕ)) → (((y : Option ℕ) → C y → y ≡ None) → last ≡ replicate 65792 None) → ((b : ℕ) → C (Some b) → ⊥) → HaveSeen last []
seen_of_copies C last same other = seen_first last (same (λ y h. none_only C other y h))

pub not_below : (i n : ℕ) → false ≡ nat_lt i n → n ≤ i
not_below i n h = elim (cases_lt i n) [
  | inl below ↦ absurd (let yes_it_is : nat_lt i n ≡ true = lt-ltb i n below in let bad : false ≡ true = h ∙ yes_it_is in cc)
  | inr past ↦ omega arith
]

-- the run ends
pub ended : (lines : List Line) (regions : Areas) (most : ℕ) (start : BoardState) (limit made : ℕ) (old new : Running) (ending : Option BoardEnd) → is_some ending ≡ true → made < limit → HasCome lines regions most start made old →
    ((s : BoardState) → IsNow lines s old → Turned lines regions most s old new ending) → EndsFrom lines regions most start limit (record { end = ending; steps = made + 1 }) new
ended lines regions most start limit made old new None some below come turned = absurd (cc)
ended lines regions most start limit made old new (Some e) some below come turned =
    let t = turned come.state come.now in
    record {
      last = come.state;
      is = (omega (arith, below), record { before = made; counted = refl; reached = come.reached; ends = t.ends });
      cpu = t.cpu ∙ sym (ap (λ (m : Machine). m.cpu) come.now.is);
      outputs = t.outputs ∙ sym come.now.outputs;
    }

-- or goes on
pub went : (lines : List Line) (regions : Areas) (most : ℕ) (start : BoardState) (made : ℕ) (old new : Running) (ending : Option BoardEnd) → is_some ending ≡ false → HasCome lines regions most start made old →
    ((s : BoardState) → IsNow lines s old → Turned lines regions most s old new ending) → HasCome lines regions most start (made + 1) new
went lines regions most start made old new (Some e) none come turned = absurd (cc)
went lines regions most start made old new None none come turned =
    let t = turned come.state come.now in
    record { state = t.next; reached = goes_on made come.state t.next come.reached t.steps; now = t.now }

pub begun : (lines : List Line) (regions : Areas) (most : ℕ) (s : BoardState) (r : Running) → IsNow lines s r → HasCome lines regions most s 0 r
begun lines regions most s r now = record { state = s; reached = begins s refl; now = now }

-- all steps were made
pub all_made : (lines : List Line) (regions : Areas) (most : ℕ) (start : BoardState) (limit made : ℕ) (r : Running) → made ≡ limit → HasCome lines regions most start made r → EndsFrom lines regions most start limit (record { end = None; steps = limit }) r
all_made lines regions most start limit made r all come = record {
  last = come.state;
  is = (refl, subst (λ (n : ℕ). IsReached lines regions most start n come.state) all come.reached);
  cpu = sym (ap (λ (m : Machine). m.cpu) come.now.is);
  outputs = sym come.now.outputs;
}
