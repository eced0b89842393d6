-- Cells that answer, one or two.
use Rattle.std.proofs.Common.{◌≡◌, ℕ, suc, ◌+◌, ◌%◌, ◌<◌, Bool, true, false, cond, not, List, [], ◌∷◌, ◌++◌, refl, ap, sym, subst, ◌∙◌, arith, append-nil, append_assoc}
use Rattle.std.specs.Prelude.{slice_set, filter, find, map, is_some, All, Option, Some, None, Result, Ok, Err, IfSome, OnSome, ◌==◌}
use Rattle.std.proofs.lemmas.Bool.{ne_eqb}
use Rattle.std.proofs.lemmas.List.Elements.{All-cons, All-nil}
use Rattle.decode80.specs.Fetch.{ahead}
use Rattle.machine80.specs.Step.{Machine, machine}
use Rattle.board80.specs.declared.line.Line.{Line}
use Rattle.board80.specs.declared.place.Place.{Place}
use Rattle.board80.specs.declared.place.Place.TheVariants.{Port, Cell}
use Rattle.machine80_board.specs.declared.rules.Running.{Running}
use Rattle.machine80_board.specs.BoardRun.{BoardState, answered, is_empty_place, no_inputs}
use Rattle.machine80_board.specs.Exchanges.{answer_at, answer_of, answers_at, is_answered}
use Rattle.machine80_board.specs.Keeping.{AnswersCells, HaveAnswered, HaveGiven, HaveSeen, IsNow, IsSame, answering_cells}
use Rattle.machine80_board.proofs.PlaceLemmas.{read_other}

abbrev pub one_cell : List Line → ℕ → List Place
one_cell lines address = answering_cells lines (address ∷ [])

plain : (lines : List Line) (address : ℕ) → is_answered lines address ≡ false → one_cell lines address ≡ []
plain lines address h = ap (λ b. map (λ a. Cell a) (cond b (address ∷ []) [])) h

asked : (lines : List Line) (address : ℕ) → is_answered lines address ≡ true → one_cell lines address ≡ Cell address ∷ []
asked lines address h = ap (λ b. map (λ a. Cell a) (cond b (address ∷ []) [])) h

-- no cell answers
pub no_cell : (lines : List Line) (s : BoardState) (old : Running) → IsNow lines s old → AnswersCells lines [] s old old
no_cell lines s old now = record {
  bytes = [];
  answers = refl;
  small = All-nil (λ b. b < 256);
  is = now.is;
  given = subst (λ (l : List Place). HaveGiven lines old.cursors.items l) (sym (append-nil s.reads)) now.given;
}

-- a cell without a device's answers
pub cell_plain : (lines : List Line) (address : ℕ) (s : BoardState) (old new : Running) → IsNow lines s old → is_answered lines address ≡ false → new.cpu ≡ old.cpu → new.bus ≡ old.bus → new.cursors.items ≡ old.cursors.items →
    AnswersCells lines (answering_cells lines (address ∷ [])) s old new
cell_plain lines address s old new now free cpu bus cursors = subst (λ (ps : List Place). AnswersCells lines ps s old new) (sym (plain lines address free)) (record {
  bytes = [];
  answers = refl;
  small = All-nil (λ b. b < 256);
  is = now.is ∙ ap (λ c. machine c old.bus no_inputs []) (sym cpu) ∙ ap (λ b. machine new.cpu b no_inputs []) (sym bus);
  given = subst (λ (l : List Place). HaveGiven lines new.cursors.items l) (sym (append-nil s.reads)) (subst (λ c. HaveGiven lines c s.reads) (sym cursors) now.given);
})

-- a cell with an answer
pub cell_answers : (lines : List Line) (address byte : ℕ) (s : BoardState) (old new : Running) → IsNow lines s old → is_answered lines address ≡ true → byte < 256 → answer_at lines s.reads s.outputs (Cell address) ≡ Some byte →
    HaveGiven lines new.cursors.items (s.reads ++ Cell address ∷ []) → new.cpu ≡ old.cpu → new.bus ≡ slice_set old.bus address byte → AnswersCells lines (answering_cells lines (address ∷ [])) s old new
cell_answers lines address byte s old new now is small answer given cpu bus = subst (λ (ps : List Place). AnswersCells lines ps s old new) (sym (asked lines address is)) (record {
  bytes = byte ∷ [];
  answers = ap (λ o. o ∷ []) answer;
  small = All-cons (λ b. b < 256) byte [] small (All-nil (λ b. b < 256));
  is = ap (λ (m : Machine). record m { memory = slice_set m.memory address byte }) now.is ∙ ap (λ c. machine c (slice_set old.bus address byte) no_inputs []) (sym cpu) ∙ ap (λ b. machine new.cpu b no_inputs []) (sym bus);
  given = given;
})

-- a cell with none left
pub cell_empty : (lines : List Line) (address : ℕ) (s : BoardState) (rest : List Place) → answer_at lines s.reads s.outputs (Cell address) ≡ None → find (is_empty_place lines s) (Cell address ∷ rest) ≡ Some (Cell address)
cell_empty lines address s rest none = ap (λ (o : Option ℕ). cond (not (is_some o)) (Some (Cell address)) (find (is_empty_place lines s) rest)) none

pub one_empty : (lines : List Line) (address : ℕ) (s : BoardState) → is_answered lines address ≡ true → answer_at lines s.reads s.outputs (Cell address) ≡ None → find (is_empty_place lines s) (answering_cells lines (address ∷ [])) ≡ Some (Cell address)
one_empty lines address s is none = ap (find (is_empty_place lines s)) (asked lines address is) ∙ cell_empty lines address s [] none

-- ---- two cells

two_cells : (lines : List Line) (a b : ℕ) → answering_cells lines (a ∷ b ∷ []) ≡ one_cell lines a ++ one_cell lines b
two_cells lines a b = by_test (is_answered lines a)
  where
    by_test : (is : Bool) → map (λ x. Cell x) (cond is (a ∷ filter (is_answered lines) (b ∷ [])) (filter (is_answered lines) (b ∷ []))) ≡ map (λ x. Cell x) (cond is (a ∷ []) []) ++ one_cell lines b
    by_test true = refl
    by_test false = refl

-- the state between the answers of two cells
abbrev pub between : BoardState → List Place → Running → BoardState
between s places mid = record { machine = machine mid.cpu mid.bus no_inputs []; reads = s.reads ++ places; outputs = s.outputs }

pub is_between : (lines : List Line) (places : List Place) (s : BoardState) (old mid : Running) → IsNow lines s old → AnswersCells lines places s old mid → IsSame old mid → IsNow lines (between s places mid) mid
is_between lines places s old mid now ac same = record {
  is = refl;
  outputs = now.outputs ∙ sym same.outputs;
  given = ac.given;
  seen = subst (λ l. HaveSeen l s.outputs) (sym same.last) now.seen;
}

pub apart : (a : ℕ) → a < 65536 → (ahead a 1 == a) ≡ false
unfolding ahead
apart a inside = ne_eqb ((a + 1) % 65536) a (λ e. next_is_other a inside e)
  where
    next_is_other : (a : ℕ) → a < 65536 → (a + 1) % 65536 ≡ a → ⊥
    next_is_other a inside e = omega (arith, e, inside)

-- the second cell's answer doesn't depend on the first one's
unmoved : (lines : List Line) (a b : ℕ) (s : BoardState) (bytes : List ℕ) → (b == a) ≡ false → map (answer_at lines s.reads s.outputs) (one_cell lines a) ≡ map Some bytes → (m : Running) →
    answer_at lines (s.reads ++ one_cell lines a) s.outputs (Cell b) ≡ answer_at lines s.reads s.outputs (Cell b)
unmoved lines a b s bytes other answers m = by_test (is_answered lines a)
  where
    by_test : (is : Bool) → answer_at lines (s.reads ++ map (λ x. Cell x) (cond is (a ∷ []) [])) s.outputs (Cell b) ≡ answer_at lines s.reads s.outputs (Cell b)
    by_test true = ap (λ n. answer_of (answers_at lines (Cell b)) n s.outputs) (read_other (Cell b) s.reads (Cell a) other)
    by_test false = ap (λ l. answer_at lines l s.outputs (Cell b)) (append-nil s.reads)

map_append : (f : Place → Option ℕ) (xs ys : List Place) → map f (xs ++ ys) ≡ map f xs ++ map f ys
map_append f [] ys = refl
map_append f (x ∷ xs) ys = ap (λ l. f x ∷ l) (map_append f xs ys)

somes : (xs ys : List ℕ) → map Some (xs ++ ys) ≡ map Some xs ++ map Some ys
somes [] ys = refl
somes (x ∷ xs) ys = ap (λ l. Some x ∷ l) (somes xs ys)

same_answers : (lines : List Line) (a b : ℕ) (s : BoardState) → ((m : ℕ) → answer_at lines (s.reads ++ one_cell lines a) s.outputs (Cell b) ≡ answer_at lines s.reads s.outputs (Cell b)) →
    map (answer_at lines (s.reads ++ one_cell lines a) s.outputs) (one_cell lines b) ≡ map (answer_at lines s.reads s.outputs) (one_cell lines b)
same_answers lines a b s same = by_test (is_answered lines b)
  where
    by_test : (is : Bool) → map (answer_at lines (s.reads ++ one_cell lines a) s.outputs) (map (λ x. Cell x) (cond is (b ∷ []) [])) ≡ map (answer_at lines s.reads s.outputs) (map (λ x. Cell x) (cond is (b ∷ []) []))
    by_test true = ap (λ o. o ∷ []) (same 0)
    by_test false = refl

-- answers of as many bytes as places, one list after another
then_answered : (f : Place → Option ℕ) (ps qs : List Place) (bs cs : List ℕ) (m : Machine) → map f ps ≡ map Some bs → answered (ps ++ qs) (bs ++ cs) m ≡ answered qs cs (answered ps bs m)
then_answered f [] qs [] cs m same = refl
then_answered f [] qs (b ∷ bs) cs m same = absurd (cc)
then_answered f (p ∷ ps) qs [] cs m same = absurd (cc)
then_answered f (Port port ∷ ps) qs (b ∷ bs) cs m same = then_answered f ps qs bs cs (record m { inputs = slice_set m.inputs port (b ∷ []) }) (tails f (Port port) ps b bs same)
  where
    tails : (f : Place → Option ℕ) (p : Place) (ps : List Place) (b : ℕ) (bs : List ℕ) → map f (p ∷ ps) ≡ map Some (b ∷ bs) → map f ps ≡ map Some bs
    tails f p ps b bs h = let e : f p ∷ map f ps ≡ Some b ∷ map Some bs = h in cc
then_answered f (Cell address ∷ ps) qs (b ∷ bs) cs m same = then_answered f ps qs bs cs (record m { memory = slice_set m.memory address b }) (tails f (Cell address) ps b bs same)
  where
    tails : (f : Place → Option ℕ) (p : Place) (ps : List Place) (b : ℕ) (bs : List ℕ) → map f (p ∷ ps) ≡ map Some (b ∷ bs) → map f ps ≡ map Some bs
    tails f p ps b bs h = let e : f p ∷ map f ps ≡ Some b ∷ map Some bs = h in cc

all_append : (xs ys : List ℕ) → All (λ b. b < 256) xs → All (λ b. b < 256) ys → All (λ b. b < 256) (xs ++ ys)
all_append [] ys all more = more
all_append (x ∷ xs) ys all more = All-cons (λ b. b < 256) x (xs ++ ys) (all 0 x (omega arith)) (all_append xs ys (λ k d below. all (suc k) d (omega arith)) more)

pub two_answer : (lines : List Line) (a b : ℕ) (s : BoardState) (old mid new : Running) → (b == a) ≡ false → AnswersCells lines (answering_cells lines (a ∷ [])) s old mid →
    AnswersCells lines (answering_cells lines (b ∷ [])) (between s (answering_cells lines (a ∷ [])) mid) mid new → AnswersCells lines (answering_cells lines (a ∷ b ∷ [])) s old new
two_answer lines a b s old mid new other one two = subst (λ (ps : List Place). AnswersCells lines ps s old new) (sym (two_cells lines a b)) (record {
  bytes = one.bytes ++ two.bytes;
  answers = map_append (answer_at lines s.reads s.outputs) (one_cell lines a) (one_cell lines b)
      ∙ ap (λ l. l ++ map (answer_at lines s.reads s.outputs) (one_cell lines b)) one.answers
      ∙ ap (λ l. map Some one.bytes ++ l) (sym (same_answers lines a b s (λ m. unmoved lines a b s one.bytes other one.answers old)) ∙ two.answers)
      ∙ sym (somes one.bytes two.bytes);
  small = all_append one.bytes two.bytes one.small two.small;
  is = then_answered (answer_at lines s.reads s.outputs) (one_cell lines a) (one_cell lines b) one.bytes two.bytes s.machine one.answers
      ∙ ap (answered (one_cell lines b) two.bytes) one.is ∙ two.is;
  given = subst (λ (l : List Place). HaveGiven lines new.cursors.items l) (append_assoc s.reads (one_cell lines a) (one_cell lines b)) two.given;
})

pub two_empty : (lines : List Line) (a b : ℕ) (s : BoardState) (old mid : Running) (place : Place) → (b == a) ≡ false → AnswersCells lines (answering_cells lines (a ∷ [])) s old mid →
    find (is_empty_place lines (between s (answering_cells lines (a ∷ [])) mid)) (answering_cells lines (b ∷ [])) ≡ Some place → find (is_empty_place lines s) (answering_cells lines (a ∷ b ∷ [])) ≡ Some place
two_empty lines a b s old mid place other one empty = ap (find (is_empty_place lines s)) (two_cells lines a b) ∙ behind (one_cell lines a) one.bytes one.answers (one_cell lines b) ∙ second
  where
    behind : (ps : List Place) (bs : List ℕ) → map (answer_at lines s.reads s.outputs) ps ≡ map Some bs → (qs : List Place) → find (is_empty_place lines s) (ps ++ qs) ≡ find (is_empty_place lines s) qs
    behind [] bs h qs = refl
    behind (p ∷ ps) [] h qs = absurd (cc)
    behind (p ∷ ps) (x ∷ bs) h qs =
        let e : answer_at lines s.reads s.outputs p ≡ Some x = (let f : answer_at lines s.reads s.outputs p ∷ map (answer_at lines s.reads s.outputs) ps ≡ Some x ∷ map Some bs = h in cc) in
        let t : map (answer_at lines s.reads s.outputs) ps ≡ map Some bs = (let f : answer_at lines s.reads s.outputs p ∷ map (answer_at lines s.reads s.outputs) ps ≡ Some x ∷ map Some bs = h in cc) in
        ap (λ (o : Option ℕ). cond (not (is_some o)) (Some p) (find (is_empty_place lines s) (ps ++ qs))) e ∙ behind ps bs t qs

    second : find (is_empty_place lines s) (one_cell lines b) ≡ Some place
    second = sym (by_test (is_answered lines b)) ∙ empty
      where
        by_test : (is : Bool) → find (is_empty_place lines (between s (one_cell lines a) mid)) (map (λ x. Cell x) (cond is (b ∷ []) [])) ≡ find (is_empty_place lines s) (map (λ x. Cell x) (cond is (b ∷ []) []))
        by_test true = ap (λ (o : Option ℕ). cond (not (is_some o)) (Some (Cell b)) None) (unmoved lines a b s one.bytes other one.answers old)
        by_test false = refl

pub first_empty : (lines : List Line) (a b : ℕ) (s : BoardState) (place : Place) → find (is_empty_place lines s) (answering_cells lines (a ∷ [])) ≡ Some place → find (is_empty_place lines s) (answering_cells lines (a ∷ b ∷ [])) ≡ Some place
first_empty lines a b s place one = ap (find (is_empty_place lines s)) (two_cells lines a b) ∙ in_front (one_cell lines a) (one_cell lines b) one
  where
    in_front : (ps qs : List Place) → find (is_empty_place lines s) ps ≡ Some place → find (is_empty_place lines s) (ps ++ qs) ≡ Some place
    in_front [] qs h = absurd (cc)
    in_front (p ∷ ps) qs h = by_test (is_empty_place lines s p) (λ rest. in_front ps qs rest) h
      where
        by_test : (is : Bool) → (find (is_empty_place lines s) ps ≡ Some place → find (is_empty_place lines s) (ps ++ qs) ≡ Some place) → cond is (Some p) (find (is_empty_place lines s) ps) ≡ Some place → cond is (Some p) (find (is_empty_place lines s) (ps ++ qs)) ≡ Some place
        by_test true rest h = h
        by_test false rest h = rest h

-- the answers of two cells, one after the other
pub word_answers : {A : Type 0} (lines : List Line) (a b : ℕ) (s : BoardState) (old mid new : Running) (result : Result A ℕ) → (b == a) ≡ false → AnswersCells lines (answering_cells lines (a ∷ [])) s old mid →
    HaveAnswered lines (answering_cells lines (b ∷ [])) (between s (answering_cells lines (a ∷ [])) mid) mid new result → HaveAnswered lines (answering_cells lines (a ∷ b ∷ [])) s old new result
word_answers lines a b s old mid new (Ok u) other one two = two_answer lines a b s old mid new other one two
word_answers lines a b s old mid new (Err e) other one two = two_empty lines a b s old mid (Cell e) other one two

pub some_then : {A : Type 0} {P Q : Type 0} (o : Option A) → (P → Q) → IfSome o (λ x. P) → OnSome o Q
some_then (Some x) f h = f h
some_then None f h = tt
