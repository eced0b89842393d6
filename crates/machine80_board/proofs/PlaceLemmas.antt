-- Places, their slots, and what was read and put out at them.
use Rattle.std.proofs.Common.{◌≡◌, ◌≢◌, ℕ, ◌+◌, ◌-◌, ◌<◌, Bool, true, false, cond, List, [], ◌∷◌, ◌++◌, length, get_or, refl, ap}
use Rattle.std.proofs.Common.{sym, subst, ◌∙◌, arith, append-nil, length-append, get_or-set_same, get_or-set_other, eqb-true}
use Rattle.std.specs.Prelude.{slice_get, slice_set, filter, map, Option, Some, None}
use Rattle.std.proofs.lemmas.Bool.{eq-eqb, eqb-false}
use Rattle.std.proofs.lemmas.List.{map-append}
use Rattle.std.proofs.lemmas.List.Elements.{filter-append}
use Rattle.board80.specs.declared.answers.Answers.TheVariants.{Listed, By}
use Rattle.machine80_board.specs.declared.cursor.Cursor.{Cursor}
use Rattle.board80.specs.declared.line.Line.{Line}
use Rattle.board80.specs.declared.place.Place.{Place}
use Rattle.board80.specs.declared.place.Place.TheVariants.{Port, Cell}
use Rattle.board80.specs.Board.{IsPlace}
use Rattle.board80.specs.ByteList.{ListedBytes}
use Rattle.machine80_board.specs.Cursor.{IsAt}
use Rattle.board80.specs.Table.{TableRows}
use Rattle.machine80_board.specs.declared.output.Output.{Output}
use Rattle.machine80_board.specs.Exchanges.{answers_at, bytes_put, is_same, last_put, times_read}
use Rattle.machine80_board.specs.Keeping.{HaveGiven, HaveSeen}
use Rattle.machine80_board.specs.Slots.{HaveSlots, slot_count, slot_of}

pub is_one : (one other : Place) → is_same one other ≡ true → one ≡ other
is_one (Port a) (Port b) h = ap (λ n. Port n) (eqb-true a b h)
is_one (Cell a) (Cell b) h = ap (λ n. Cell n) (eqb-true a b h)
is_one (Port a) (Cell b) h = absurd (cc)
is_one (Cell a) (Port b) h = absurd (cc)

pub same_itself : (one : Place) → is_same one one ≡ true
same_itself (Port a) = eq-eqb a a refl
same_itself (Cell a) = eq-eqb a a refl

pub apart_slots : (one other : Place) → IsPlace one → IsPlace other → is_same one other ≡ false → slot_of one ≢ slot_of other
apart_slots (Port a) (Port b) p q h = λ e. eqb-false a b h e
apart_slots (Cell a) (Cell b) p q h = λ e. eqb-false a b h (omega (arith, e))
apart_slots (Port a) (Cell b) p q h = λ e. omega (arith, e, p, q)
apart_slots (Cell a) (Port b) p q h = λ e. omega (arith, e, p, q)

pub slot_within : (place : Place) → IsPlace place → slot_of place < slot_count
slot_within (Port a) p = omega (arith, p)
slot_within (Cell a) p = omega (arith, p)

-- how often a place was read after one more read
kept : (place here : Place) (is : Bool) → is_same place here ≡ is → filter (is_same place) (here ∷ []) ≡ cond is (here ∷ []) []
kept place here is h = ap (λ b. cond b (here ∷ []) []) h

pub read_again : (place : Place) (reads : List Place) (here : Place) → is_same place here ≡ true → times_read place (reads ++ here ∷ []) ≡ times_read place reads + 1
read_again place reads here h =
    ap length (filter-append (is_same place) reads (here ∷ [])) ∙ length-append (filter (is_same place) reads) (filter (is_same place) (here ∷ []))
    ∙ ap (λ l. length (filter (is_same place) reads) + length l) (kept place here true h)

pub read_other : (place : Place) (reads : List Place) (here : Place) → is_same place here ≡ false → times_read place (reads ++ here ∷ []) ≡ times_read place reads
read_other place reads here h =
    ap length (filter-append (is_same place) reads (here ∷ []) ∙ ap (λ l. filter (is_same place) reads ++ l) (kept place here false h)
    ∙ append-nil (filter (is_same place) reads))

some_is : {A : Type 0} {a b : A} → Some a ≡ Some b → a ≡ b
some_is {A} {a} {b} h = let e : Some a ≡ Some b = h in cc

listed_is : (a b : ListedBytes) → Some (Listed a) ≡ Some (Listed b) → a ≡ b
listed_is a b h = let e : Some (Listed a) ≡ Some (Listed b) = h in cc

-- the cursors after a byte of a list was given
pub given_more : (lines : List Line) (cursors : List Cursor) (reads : List Place) (place : Place) (list : ListedBytes) (new : Cursor) → HaveSlots cursors → IsPlace place → answers_at lines place ≡ Some (Listed list) →
    IsAt list new (times_read place reads + 1) → HaveGiven lines cursors reads → HaveGiven lines (slice_set cursors (slot_of place) new) (reads ++ place ∷ [])
given_more lines cursors reads place list new whole proper is at old = record {
  given = λ other others other_proper other_is d. more other others other_proper other_is d (is_same other place) refl;
}
  where
    more : (other : Place) (others : ListedBytes) → IsPlace other → answers_at lines other ≡ Some (Listed others) → (d : Cursor) → (same : Bool) → is_same other place ≡ same →
        IsAt others (get_or (slice_set cursors (slot_of place) new) (slot_of other) d) (times_read other (reads ++ place ∷ []))
    more other others other_proper other_is d true h =
        let e : other ≡ place = is_one other place h in
        let l : list ≡ others = listed_is list others (sym is ∙ ap (answers_at lines) (sym e) ∙ other_is) in
        let here : get_or (slice_set cursors (slot_of place) new) (slot_of place) d ≡ new = get_or-set_same cursors (slot_of place) new d (let w = slot_within place proper in omega (arith, w, whole)) in
        subst (λ (p : Place). IsAt others (get_or (slice_set cursors (slot_of place) new) (slot_of p) d) (times_read p (reads ++ place ∷ []))) (sym e)
        (subst (λ (c : Cursor). IsAt others c (times_read place (reads ++ place ∷ []))) (sym here)
        (subst (λ (n : ℕ). IsAt others new n) (sym (read_again place reads place (same_itself place)))
        (subst (λ (x : ListedBytes). IsAt x new (times_read place reads + 1)) l at)))
    more other others other_proper other_is d false h =
        let there : get_or (slice_set cursors (slot_of place) new) (slot_of other) d ≡ get_or cursors (slot_of other) d = get_or-set_other cursors (slot_of place) (slot_of other) new d (apart_slots other place other_proper proper h) in
        subst (λ (c : Cursor). IsAt others c (times_read other (reads ++ place ∷ []))) (sym there)
        (subst (λ (n : ℕ). IsAt others (get_or cursors (slot_of other) d) n) (sym (read_other other reads place h)) (old.given other others other_proper other_is d))

-- and after a table has answered
pub given_by : (lines : List Line) (cursors : List Cursor) (reads : List Place) (place : Place) (table : TableRows) → answers_at lines place ≡ Some (By table) →
    HaveGiven lines cursors reads → HaveGiven lines cursors (reads ++ place ∷ [])
given_by lines cursors reads place table is old = record {
  given = λ other others other_proper other_is d. more other others other_proper other_is d (is_same other place) refl;
}
  where
    more : (other : Place) (others : ListedBytes) → IsPlace other → answers_at lines other ≡ Some (Listed others) → (d : Cursor) → (same : Bool) → is_same other place ≡ same →
        IsAt others (get_or cursors (slot_of other) d) (times_read other (reads ++ place ∷ []))
    more other others other_proper other_is d true h =
        absurd (let e : Some (Listed others) ≡ Some (By table) = sym other_is ∙ ap (answers_at lines) (is_one other place h) ∙ is in cc)
    more other others other_proper other_is d false h =
        subst (λ (n : ℕ). IsAt others (get_or cursors (slot_of other) d) n) (sym (read_other other reads place h)) (old.given other others other_proper other_is d)

-- the last byte after one more output
last_of : (xs : List ℕ) (b : ℕ) → slice_get (xs ++ b ∷ []) (length (xs ++ b ∷ []) - 1) ≡ Some b
last_of xs b = ap (λ n. slice_get (xs ++ b ∷ []) n) (let e : length (xs ++ b ∷ []) ≡ length xs + 1 = length-append xs (b ∷ []) in let f : length (xs ++ b ∷ []) - 1 ≡ length xs = omega (arith, e) in f) ∙ at_end xs b
  where
    at_end : (xs : List ℕ) (b : ℕ) → slice_get (xs ++ b ∷ []) (length xs) ≡ Some b
    at_end [] b = refl
    at_end (x ∷ xs) b = at_end xs b

put_here : (place : Place) (outputs : List Output) (o : Output) (is : Bool) → is_same place o.place ≡ is → bytes_put place (outputs ++ o ∷ []) ≡ bytes_put place outputs ++ cond is (o.byte ∷ []) []
put_here place outputs o is h =
    ap (map (λ (x : Output). x.byte)) (filter-append (λ (x : Output). is_same place x.place) outputs (o ∷ []))
    ∙ map-append (λ (x : Output). x.byte) (filter (λ (x : Output). is_same place x.place) outputs) (filter (λ (x : Output). is_same place x.place) (o ∷ []))
    ∙ ap (λ l. bytes_put place outputs ++ l) (ap (λ b. map (λ (x : Output). x.byte) (cond b (o ∷ []) [])) h ∙ taken is)
  where
    taken : (b : Bool) → map (λ (x : Output). x.byte) (cond b (o ∷ []) []) ≡ cond b (o.byte ∷ []) []
    taken true = refl
    taken false = refl

pub seen_more : (last : List (Option ℕ)) (outputs : List Output) (o : Output) → HaveSlots last → IsPlace o.place → HaveSeen last outputs →
    HaveSeen (slice_set last (slot_of o.place) (Some o.byte)) (outputs ++ o ∷ [])
seen_more last outputs o whole proper old = record { seen = λ place place_proper. more place place_proper (is_same place o.place) refl }
  where
    more : (place : Place) → IsPlace place → (same : Bool) → is_same place o.place ≡ same →
        get_or (slice_set last (slot_of o.place) (Some o.byte)) (slot_of place) None ≡ last_put place (outputs ++ o ∷ [])
    more place place_proper true h =
        let e : place ≡ o.place = is_one place o.place h in
        ap (λ (p : Place). get_or (slice_set last (slot_of o.place) (Some o.byte)) (slot_of p) None) e
        ∙ get_or-set_same last (slot_of o.place) (Some o.byte) None (let w = slot_within o.place proper in omega (arith, w, whole))
        ∙ sym (last_of (bytes_put place outputs) o.byte)
        ∙ ap (λ l. slice_get l (length l - 1)) (sym (put_here place outputs o true h))
    more place place_proper false h =
        get_or-set_other last (slot_of o.place) (slot_of place) (Some o.byte) None (apart_slots place o.place place_proper proper h)
        ∙ old.seen place place_proper
        ∙ ap (λ l. slice_get l (length l - 1)) (sym (put_here place outputs o false h ∙ append-nil (bytes_put place outputs)))
