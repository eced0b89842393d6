-- What is known stays shown, small and on its way to its end when a point is added, a frame changes or a return is seen.
use Rattle.std.specs.Prelude.{◌≡◌, ◌≢◌, ◌⊎◌, ◌≤◌, ◌<◌, ◌+◌, ◌*◌, ◌-◌, ℕ, zero, suc, Bool, true, false, List, [], ◌∷◌, ◌++◌}
use Rattle.std.specs.Prelude.{length, sum_by, count_by, Option, Some, None, slice_get, slice_set, is_none, cond, Ok, Err, refl}
use Rattle.std.proofs.Common.{ap, sym, ◌∙◌, subst, arith, inl, inr, true≢false}
use Rattle.std.proofs.lemmas.List.Sums.{sum_by-cons, sum_by_push}
use Rattle.frames80.specs.declared.word.Word.{Word}
use Rattle.frames80.specs.declared.word.Word.TheVariants.{Own, Any}
use Rattle.frames80.specs.Word.{met}
use Rattle.frames80.specs.StackFrame.{StackFrame}
use Rattle.frames80.specs.Calls.{words_met, merged, agree}
use Rattle.frames80.specs.Places.{word_at, SameCounts, Covers}
use Rattle.frames80.specs.declared.procedure.Procedure.{Procedure}
use Rattle.frames80.specs.declared.procedure.Procedure.TheVariants.{Entry}
use Rattle.frames80.specs.Code.{Code}
use Rattle.verify80_flow.specs.declared.refusal.Refusal.TheVariants.{HeightsDiffer, TooManyPoints}
use Rattle.verify80_flow.specs.Faults.{most_points, Many, Differ}
use Rattle.verify80_flow.specs.Rows.{ReturnsWith}
use Rattle.verify80_flow.specs.Points.{Point, AreApart, IsPointAt, IsNoPoint, with_frame}
use Rattle.verify80_flow.specs.Shown.{Whole, Shows, IsShown, FrameLaws}
use Rattle.verify80_flow.specs.Known.{Known, is_exact, exit_of, IsWithin, IsSmall, Stands, owns_word, owns, weight, Flows}
use Rattle.verify80_flow.proofs.Slices.{IsLast, grown, length_grown, IsOther, changed_at, length_changed, sum_changed}
use Rattle.verify80_flow.proofs.ShownLemmas.{asks_whole, shown_lesser, covers_self, counts_agree, met_other, shown_merged, differ}

-- a point is added
abbrev pub added : Known → Point → Known
added known point = record known { points = known.points ++ point ∷ [] }

pub stands_added : (exact : Bool) (code : Code) (known : Known) (new : Point) → Stands exact code known → IsShown exact code new.procedure new.at new.frame → Stands exact code (added known new)
stands_added exact code known new stands shown = record { mode = stands.mode; points = λ i point is. by i point (grown known.points new i point is); exits = stands.exits }
  where
    by : (i : ℕ) (point : Point) → (slice_get known.points i ≡ Some point) ⊎ IsLast known.points new i point → IsShown exact code point.procedure point.at point.frame
    by i point (inl before) = stands.points i point before
    by i point (inr last) = subst (λ (p : Point). IsShown exact code p.procedure p.at p.frame) (sym last.is) shown

within_more : (n m : ℕ) (f : StackFrame) → n ≤ m → IsWithin n f → IsWithin m f
within_more n m f more is = record { taken = let t = is.taken in omega arith; words = let w = is.words in omega arith }

pub apart_added : (points : List Point) (new : Point) → AreApart points → IsNoPoint points new.procedure new.at → AreApart (points ++ new ∷ [])
apart_added points new apart none = record { apart = λ i j a b one other p at. by i j a b p at (grown points new i a one) (grown points new j b other) }
  where
    by : (i j : ℕ) (a b : Point) → a.procedure ≡ b.procedure → a.at ≡ b.at →
        (slice_get points i ≡ Some a) ⊎ IsLast points new i a → (slice_get points j ≡ Some b) ⊎ IsLast points new j b → i ≡ j
    by i j a b p at (inl one) (inl other) = apart.apart i j a b one other p at
    by i j a b p at (inl one) (inr other) = absurd (none.none i a one (p ∙ ap (λ (x : Point). x.procedure) other.is) (at ∙ ap (λ (x : Point). x.at) other.is))
    by i j a b p at (inr one) (inl other) = absurd (none.none j b other (sym p ∙ ap (λ (x : Point). x.procedure) one.is) (sym at ∙ ap (λ (x : Point). x.at) one.is))
    by i j a b p at (inr one) (inr other) = one.place ∙ sym other.place

pub small_added : (known : Known) (new : Point) → IsSmall known → length known.points < most_points → IsWithin (length known.points + 1) new.frame →
    IsNoPoint known.points new.procedure new.at → IsSmall (added known new)
small_added known new small room fits none = record {
  points = rw (length_grown known.points new) (omega arith);
  frames = λ i point is. rw (length_grown known.points new) (by i point (grown known.points new i point is));
  apart = apart_added known.points new small.apart none;
}
  where
    by : (i : ℕ) (point : Point) → (slice_get known.points i ≡ Some point) ⊎ IsLast known.points new i point → IsWithin (length known.points + 1) point.frame
    by i point (inl before) = within_more (length known.points) (length known.points + 1) point.frame (omega arith) (small.frames i point before)
    by i point (inr last) = subst (λ (p : Point). IsWithin (length known.points + 1) p.frame) (sym last.is) fits

-- a frame has no more return addresses than words and pairs
owns_one : (word : Word) → owns_word word ≤ 1
owns_one Own = omega arith
owns_one Any = omega arith

owns_words : (words : List Word) → sum_by owns_word words ≤ length words
owns_words [] = omega arith
owns_words (word ∷ words) =
    let one = owns_one word in
    let rest : sum_by owns_word words ≤ length words = owns_words words in
    rw (sum_by-cons owns_word word words) (omega arith)

owns_most : (f : StackFrame) → owns f ≤ length f.words + 3
owns_most f =
    let words = owns_words f.words in
    let bc = owns_one f.pairs.bc in
    let de = owns_one f.pairs.de in
    let hl = owns_one f.pairs.hl in
    omega arith

pub goes_added : (known : Known) (new : Point) → length known.points < most_points → IsWithin (length known.points + 1) new.frame → weight (added known new) < weight known
goes_added known new room fits =
    let most = owns_most new.frame in
    let words = fits.words in
    let points : sum_by (λ (p : Point). owns p.frame) (known.points ++ new ∷ []) ≡ sum_by (λ (p : Point). owns p.frame) known.points + owns new.frame =
    sum_by_push (λ (p : Point). owns p.frame) known.points new in
    let long = length_grown known.points new in
    rw (points, long) (falls (sum_by (λ (p : Point). owns p.frame) known.points) (owns new.frame) (length known.points) (count_by is_none known.exits) room (omega arith))
  where
    falls : (sum own n rest : ℕ) → n < most_points → own ≤ n + 4 →
        ((sum + own) + (most_points - (n + 1)) * (most_points + 8)) + rest < (sum + (most_points - n) * (most_points + 8)) + rest
    falls sum own n rest room few = omega arith

-- a point's frame is replaced by one with the same counts
abbrev pub replaced : Known → ℕ → StackFrame → Point → Known
replaced known at frame point = record known { points = slice_set known.points at (with_frame frame point) }

pub stands_replaced : (exact : Bool) (code : Code) (known : Known) (at : ℕ) (frame : StackFrame) (point : Point) → Stands exact code known → IsShown exact code point.procedure point.at frame →
    Stands exact code (replaced known at frame point)
stands_replaced exact code known at frame point stands shown = record { mode = stands.mode; points = λ i p is. by i p (changed_at known.points at (with_frame frame point) i p is); exits = stands.exits }
  where
    by : (i : ℕ) (p : Point) → ((i ≡ at) × (p ≡ with_frame frame point)) ⊎ IsOther known.points at i p → IsShown exact code p.procedure p.at p.frame
    by i p (inl here) = subst (λ (q : Point). IsShown exact code q.procedure q.at q.frame) (sym here.1) shown
    by i p (inr other) = stands.points i p other.before

pub small_replaced : (known : Known) (at : ℕ) (frame : StackFrame) (point : Point) → IsSmall known → slice_get known.points at ≡ Some point →
    SameCounts frame point.frame → IsSmall (replaced known at frame point)
small_replaced known at frame point small there same = record {
  points = rw long small.points;
  frames = λ i p is. rw long (by i p (changed_at known.points at (with_frame frame point) i p is));
  apart = record { apart = λ i j a b one other p a_at. apart i j a b p a_at (changed_at known.points at (with_frame frame point) i a one) (changed_at known.points at (with_frame frame point) j b other) };
}
  where
    long : length (slice_set known.points at (with_frame frame point)) ≡ length known.points
    long = length_changed known.points at (with_frame frame point)

    here_within : IsWithin (length known.points) frame
    here_within = let w = small.frames at point there in
        record { taken = let t = w.taken in let s = same.taken in omega arith; words = let t = w.words in let s = same.words in omega arith }

    by : (i : ℕ) (p : Point) → ((i ≡ at) × (p ≡ with_frame frame point)) ⊎ IsOther known.points at i p → IsWithin (length known.points) p.frame
    by i p (inl here) = subst (λ (q : Point). IsWithin (length known.points) q.frame) (sym here.1) here_within
    by i p (inr other) = small.frames i p other.before

    was : (i : ℕ) (p : Point) → ((i ≡ at) × (p ≡ with_frame frame point)) ⊎ IsOther known.points at i p → (q : Point) × (slice_get known.points i ≡ Some q) × (q.procedure ≡ p.procedure) × (q.at ≡ p.at)
    was i p (inl here) = (point, subst (λ k. slice_get known.points k ≡ Some point) (sym here.0) there, ap (λ (x : Point). x.procedure) (sym here.1), ap (λ (x : Point). x.at) (sym here.1))
    was i p (inr other) = (p, other.before, refl, refl)

    apart : (i j : ℕ) (a b : Point) → a.procedure ≡ b.procedure → a.at ≡ b.at →
        ((i ≡ at) × (a ≡ with_frame frame point)) ⊎ IsOther known.points at i a → ((j ≡ at) × (b ≡ with_frame frame point)) ⊎ IsOther known.points at j b → i ≡ j
    apart i j a b p a_at one other =
        let x = was i a one in
        let y = was j b other in
        small.apart.apart i j x.0 y.0 x.1 y.1 (x.2 ∙ p ∙ sym y.2) (x.3 ∙ a_at ∙ sym y.3)

-- where frames that meet make another one, a return address is lost
met_owns : (a b : Word) → owns_word (met a b) ≤ owns_word a
met_owns Own Own = omega arith
met_owns Own Any = omega arith
met_owns Any b = omega arith

met_same : (a b : Word) → owns_word (met a b) ≡ owns_word a → met a b ≡ a
met_same Own Own same = refl
met_same Own Any same = absurd (omega (arith, same))
met_same Any b same = refl

words_owns : (xs ys : List Word) → length xs ≡ length ys → sum_by owns_word (words_met xs ys) ≤ sum_by owns_word xs
words_owns [] ys long = omega arith
words_owns (x ∷ xs) [] long = absurd (omega arith)
words_owns (x ∷ xs) (y ∷ ys) long =
    let one = met_owns x y in
    let rest : sum_by owns_word (words_met xs ys) ≤ sum_by owns_word xs = words_owns xs ys (omega arith) in
    rw (sum_by-cons owns_word (met x y) (words_met xs ys), sum_by-cons owns_word x xs) (omega arith)

words_same : (xs ys : List Word) → length xs ≡ length ys → sum_by owns_word (words_met xs ys) ≡ sum_by owns_word xs → words_met xs ys ≡ xs
words_same [] ys long same = refl
words_same (x ∷ xs) [] long same = absurd (omega arith)
words_same (x ∷ xs) (y ∷ ys) long same =
    let one = met_owns x y in
    let rest : sum_by owns_word (words_met xs ys) ≤ sum_by owns_word xs = words_owns xs ys (omega arith) in
    let sums : owns_word (met x y) + sum_by owns_word (words_met xs ys) ≡ owns_word x + sum_by owns_word xs =
    sym (sum_by-cons owns_word (met x y) (words_met xs ys)) ∙ same ∙ sum_by-cons owns_word x xs in
    let head : met x y ≡ x = met_same x y (omega arith) in
    let tail : words_met xs ys ≡ xs = words_same xs ys (omega arith) (omega arith) in
    cc

below : (a b : ℕ) → a ≤ b → (a ≢ b) → a < b
below a b le ne = omega arith

pub owns_met : (f g : StackFrame) → SameCounts f g → (merged f g ≢ f) → owns (merged f g) < owns f
owns_met f g same apart = by (owns_le)
  where
    words : sum_by owns_word (words_met f.words g.words) ≤ sum_by owns_word f.words
    words = words_owns f.words g.words same.words

    bc : owns_word (met f.pairs.bc g.pairs.bc) ≤ owns_word f.pairs.bc
    bc = met_owns f.pairs.bc g.pairs.bc

    de : owns_word (met f.pairs.de g.pairs.de) ≤ owns_word f.pairs.de
    de = met_owns f.pairs.de g.pairs.de

    hl : owns_word (met f.pairs.hl g.pairs.hl) ≤ owns_word f.pairs.hl
    hl = met_owns f.pairs.hl g.pairs.hl

    equal : owns (merged f g) ≡ owns f → merged f g ≡ f
    equal sums =
        let e1 : words_met f.words g.words ≡ f.words = words_same f.words g.words same.words (let a = words in let b = bc in let c = de in let d = hl in omega arith) in
        let e2 : met f.pairs.bc g.pairs.bc ≡ f.pairs.bc = met_same f.pairs.bc g.pairs.bc (let a = words in let b = bc in let c = de in let d = hl in omega arith) in
        let e3 : met f.pairs.de g.pairs.de ≡ f.pairs.de = met_same f.pairs.de g.pairs.de (let a = words in let b = bc in let c = de in let d = hl in omega arith) in
        let e4 : met f.pairs.hl g.pairs.hl ≡ f.pairs.hl = met_same f.pairs.hl g.pairs.hl (let a = words in let b = bc in let c = de in let d = hl in omega arith) in
        λ i. record { taken = f.taken; words = e1 i; pairs = record { bc = e2 i; de = e3 i; hl = e4 i } }

    owns_le : owns (merged f g) ≤ owns f
    owns_le = let a = words in let b = bc in let c = de in let d = hl in omega arith

    by : owns (merged f g) ≤ owns f → owns (merged f g) < owns f
    by le = below (owns (merged f g)) (owns f) le (λ e. apart (equal e))

pub goes_replaced : (known : Known) (at : ℕ) (frame : StackFrame) (point : Point) → slice_get known.points at ≡ Some point → owns frame < owns point.frame →
    weight (replaced known at frame point) < weight known
goes_replaced known at frame point there less =
    let sums : sum_by (λ (p : Point). owns p.frame) (slice_set known.points at (with_frame frame point)) + owns point.frame ≡ sum_by (λ (p : Point). owns p.frame) known.points + owns frame =
    sum_changed (λ (p : Point). owns p.frame) known.points at point (with_frame frame point) there in
    rw (length_changed known.points at (with_frame frame point))
    (falls (sum_by (λ (p : Point). owns p.frame) (slice_set known.points at (with_frame frame point))) (sum_by (λ (p : Point). owns p.frame) known.points)
    (owns frame) (owns point.frame) ((most_points - length known.points) * (most_points + 8)) (count_by is_none known.exits) sums less)
  where
    falls : (new old own had more rest : ℕ) → new + had ≡ old + own → own < had → (new + more) + rest < (old + more) + rest
    falls new old own had more rest sums less = omega arith

-- a return is seen for the first time
abbrev pub with_exit : Known → ℕ → ℕ → Known
with_exit known entry taken = record known { exits = slice_set known.exits entry (Some taken) }

exit_after : (exits : List (Option ℕ)) (entry taken other seen : ℕ) → exit_of (slice_set exits entry (Some taken)) other ≡ Some seen →
    ((other ≡ entry) × (seen ≡ taken)) ⊎ (exit_of exits other ≡ Some seen)
exit_after [] entry taken other seen is = inr is
exit_after (x ∷ exits) zero taken zero seen is = inl (refl, cc)
exit_after (x ∷ exits) zero taken (suc other) seen is = inr is
exit_after (x ∷ exits) (suc entry) taken zero seen is = inr is
exit_after (x ∷ exits) (suc entry) taken (suc other) seen is = by (exit_after exits entry taken other seen is)
  where
    by : ((other ≡ entry) × (seen ≡ taken)) ⊎ (exit_of exits other ≡ Some seen) → ((suc other ≡ suc entry) × (seen ≡ taken)) ⊎ (exit_of exits other ≡ Some seen)
    by (inl here) = inl (ap suc here.0, here.1)
    by (inr before) = inr before

pub stands_exit : (exact : Bool) (code : Code) (known : Known) (entry taken : ℕ) → Stands exact code known → ReturnsWith code (Entry entry) taken → Stands exact code (with_exit known entry taken)
stands_exit exact code known entry taken stands returns = record { mode = stands.mode; points = stands.points; exits = λ other seen is. by other seen (exit_after known.exits entry taken other seen is) }
  where
    by : (other seen : ℕ) → ((other ≡ entry) × (seen ≡ taken)) ⊎ (exit_of known.exits other ≡ Some seen) → ReturnsWith code (Entry other) seen
    by other seen (inl here) = subst (λ n. ReturnsWith code (Entry other) n) (sym here.1) (subst (λ n. ReturnsWith code (Entry n) taken) (sym here.0) returns)
    by other seen (inr before) = stands.exits other seen before

pub goes_exit : (known : Known) (entry taken : ℕ) → slice_get known.exits entry ≡ Some None → weight (with_exit known entry taken) < weight known
goes_exit known entry taken there =
    let count = λ (x : Option ℕ). cond (is_none x) 1 0 in
    let sums : sum_by count (slice_set known.exits entry (Some taken)) + 1 ≡ sum_by count known.exits + 0 =
    sum_changed count known.exits entry None (Some taken) there in
    falls (sum_by (λ (p : Point). owns p.frame) known.points + (most_points - length known.points) * (most_points + 8)) (sum_by count (slice_set known.exits entry (Some taken))) (sum_by count known.exits) sums
  where
    falls : (rest new old : ℕ) → new + 1 ≡ old + 0 → rest + new < rest + old
    falls rest new old sums = omega arith

-- a number for each point of the list, and for one more
abbrev pick : List Point → Point → ℕ → Point
pick [] new n = new
pick (p ∷ ps) new zero = p
pick (p ∷ ps) new (suc n) = pick ps new n

record IsPast (points : List Point) (new : Point) (n : ℕ) : Type 0 where
  past : length points ≤ n
  is : pick points new n ≡ new

picked : (points : List Point) (new : Point) (n : ℕ) → (slice_get points n ≡ Some (pick points new n)) ⊎ IsPast points new n
picked [] new n = inr (record { past = omega arith; is = refl })
picked (p ∷ ps) new zero = inl refl
picked (p ∷ ps) new (suc n) = by (picked ps new n)
  where
    by : (slice_get ps n ≡ Some (pick ps new n)) ⊎ IsPast ps new n → (slice_get (p ∷ ps) (suc n) ≡ Some (pick (p ∷ ps) new (suc n))) ⊎ IsPast (p ∷ ps) new (suc n)
    by (inl there) = inl there
    by (inr past) = inr (record { past = let h = past.past in omega arith; is = past.is })

-- more points than are looked at
pub many : (exact : Bool) (code : Code) (known : Known) (new : Point) → Stands exact code known → IsSmall known → length known.points ≡ most_points → IsShown exact code new.procedure new.at new.frame →
    IsNoPoint known.points new.procedure new.at → Many code (most_points + 1)
many exact code known new stands small full shown none = record {
  procedure = λ n. (pick known.points new n).procedure;
  at = λ n. (pick known.points new n).at;
  frame = λ n. (seen n).frame;
  walk = λ n _. (seen n).walk;
  apart = λ n m n_few m_few p at. apart n m n_few m_few p at (picked known.points new n) (picked known.points new m);
}
  where
    seen_by : (n : ℕ) → (slice_get known.points n ≡ Some (pick known.points new n)) ⊎ IsPast known.points new n →
        IsShown exact code (pick known.points new n).procedure (pick known.points new n).at (pick known.points new n).frame
    seen_by n (inl there) = stands.points n (pick known.points new n) there
    seen_by n (inr past) = subst (λ (p : Point). IsShown exact code p.procedure p.at p.frame) (sym past.is) shown

    seen : (n : ℕ) → Shows code (pick known.points new n).procedure (pick known.points new n).at (pick known.points new n).frame Whole
    seen n = (seen_by n (picked known.points new n)).by Whole (asks_whole exact) tt

    apart : (n m : ℕ) → n < most_points + 1 → m < most_points + 1 → (pick known.points new n).procedure ≡ (pick known.points new m).procedure →
        (pick known.points new n).at ≡ (pick known.points new m).at → (slice_get known.points n ≡ Some (pick known.points new n)) ⊎ IsPast known.points new n →
        (slice_get known.points m ≡ Some (pick known.points new m)) ⊎ IsPast known.points new m → n ≡ m
    apart n m n_few m_few p at (inl one) (inl other) = small.apart.apart n m (pick known.points new n) (pick known.points new m) one other p at
    apart n m n_few m_few p at (inl one) (inr other) =
        absurd (none.none n (pick known.points new n) one (p ∙ ap (λ (x : Point). x.procedure) other.is) (at ∙ ap (λ (x : Point). x.at) other.is))
    apart n m n_few m_few p at (inr one) (inl other) =
        absurd (none.none m (pick known.points new m) other (sym p ∙ ap (λ (x : Point). x.procedure) one.is) (sym at ∙ ap (λ (x : Point). x.at) one.is))
    apart n m n_few m_few p at (inr one) (inr other) = let a = one.past in let b = other.past in omega arith

-- a frame of the same counts is within as many points
within_counts : (n : ℕ) (k g : StackFrame) → SameCounts k g → IsWithin n g → IsWithin n k
within_counts n k g same is = record { taken = let t = is.taken in let s = same.taken in omega arith; words = let w = is.words in let s = same.words in omega arith }

-- what is kept of a shown frame is shown
shown_kept : (exact : Bool) (code : Code) (p : Procedure) (to : ℕ) (g k : StackFrame) (forgets : Bool) → exact ≡ is_exact forgets → Covers k g → (forgets ≡ false → k ≡ g) →
    IsShown exact code p to g → IsShown exact code p to k
shown_kept exact code p to g k true mode covers same shown =
    subst (λ e. IsShown e code p to k) (sym mode) (shown_lesser code p to g k covers (subst (λ e. IsShown e code p to g) mode shown))
shown_kept exact code p to g k false mode covers same shown = subst (IsShown exact code p to) (sym (same refl)) shown

-- what comes of a frame that leads to a point, case by case; a new point has what is kept of the frame
pub flows_added : (known : Known) (p : Procedure) (to : ℕ) (g k : StackFrame) → Covers k g → (known.forgets ≡ false → k ≡ g) → IsSmall known → length known.points < most_points →
    IsWithin (length known.points + 1) g → IsNoPoint known.points p to → Flows known (added known (record { procedure = p; at = to; frame = k })) p to g (Ok true)
flows_added known p to g k covers same small room fits none = record {
  small = small_added known (record { procedure = p; at = to; frame = k }) small room within none;
  more = let e = length_grown known.points (record { procedure = p; at = to; frame = k }) in omega arith;
  stands = λ exact code stands shown. stands_added exact code known (record { procedure = p; at = to; frame = k }) stands (shown_kept exact code p to g k known.forgets stands.mode covers same shown);
  goes = record { same = λ e. absurd (true≢false e); less = λ _. goes_added known (record { procedure = p; at = to; frame = k }) room within };
  there = λ e. absurd (true≢false e);
}
  where
    within : IsWithin (length known.points + 1) k
    within = within_counts (length known.points + 1) k g covers.counts fits

pub flows_too_many : (known new : Known) (p : Procedure) (to : ℕ) (g : StackFrame) → IsSmall known → most_points ≤ length known.points →
    IsNoPoint known.points p to → Flows known new p to g (Err TooManyPoints)
flows_too_many known new p to g small full none = record {
  small = tt;
  more = tt;
  goes = tt;
  there = tt;
  stands = λ exact code stands shown. many exact code known (record { procedure = p; at = to; frame = g }) stands small (let few = small.points in omega arith) shown none;
}

-- a frame that changes nothing where it is met is covered
covered_by_same : FrameLaws → (f g : StackFrame) → agree f g ≡ true → merged f g ≡ f → Covers f g
covered_by_same laws f g same unchanged = record {
  counts = counts_agree f g same;
  own = λ place own. met_other (word_at f place) (word_at g place) (sym (laws.meets f g place same) ∙ ap (λ (h : StackFrame). word_at h place) unchanged ∙ own);
}

pub flows_same : FrameLaws → (known : Known) (p : Procedure) (to i : ℕ) (g : StackFrame) → (at : IsPointAt known.points p to i) → IsSmall known →
    agree at.point.frame g ≡ true → merged at.point.frame g ≡ at.point.frame → Flows known known p to g (Ok false)
flows_same laws known p to i g at small same unchanged = record {
  small = small;
  more = omega arith;
  stands = λ exact code stands shown. stands;
  goes = record { same = λ _. refl; less = λ e. absurd (true≢false (sym e)) };
  there = λ _. record {
    number = i;
    point = at.point;
    there = at.stands;
    procedure = at.in_procedure;
    address = at.at_address;
    covers = covered_by_same laws at.point.frame g same unchanged;
  };
}

merged_counts : FrameLaws → (f g : StackFrame) → agree f g ≡ true → SameCounts (merged f g) f
merged_counts laws f g same = ((laws.covered f f (covers_self f)).meet g same).counts

shown_there : (exact : Bool) (code : Code) (point : Point) (p : Procedure) (to : ℕ) (g : StackFrame) → point.procedure ≡ p → point.at ≡ to → IsShown exact code p to g → IsShown exact code point.procedure point.at g
shown_there exact code point p to g procedure address shown =
    subst (λ (q : Procedure). IsShown exact code q point.at g) (sym procedure) (subst (λ a. IsShown exact code p a g) (sym address) shown)

pub flows_replaced : FrameLaws → (known : Known) (p : Procedure) (to i : ℕ) (g : StackFrame) → (at : IsPointAt known.points p to i) → IsSmall known →
    agree at.point.frame g ≡ true → (merged at.point.frame g ≢ at.point.frame) → Flows known (replaced known i (merged at.point.frame g) at.point) p to g (Ok true)
flows_replaced laws known p to i g at small same changed = record {
  small = small_replaced known i (merged at.point.frame g) at.point small at.stands (merged_counts laws at.point.frame g same);
  more = let e = length_changed known.points i (with_frame (merged at.point.frame g) at.point) in omega arith;
  stands = λ exact code stands shown. stands_replaced exact code known i (merged at.point.frame g) at.point stands
      (shown_merged laws exact code at.point.procedure at.point.at at.point.frame g (stands.points i at.point at.stands)
      (shown_there exact code at.point p to g at.in_procedure at.at_address shown) same);
  goes = record { same = λ e. absurd (true≢false e); less = λ _. goes_replaced known i (merged at.point.frame g) at.point at.stands (owns_met at.point.frame g (counts_agree at.point.frame g same) changed) };
  there = λ e. absurd (true≢false e);
}

pub flows_differ : (known new : Known) (p : Procedure) (to i : ℕ) (g : StackFrame) → (at : IsPointAt known.points p to i) →
    agree at.point.frame g ≡ false → Flows known new p to g (Err (HeightsDiffer to))
flows_differ known new p to i g at apart = record {
  small = tt;
  more = tt;
  goes = tt;
  there = tt;
  stands = λ exact code stands shown.
      subst (λ a. Differ code a) at.at_address
      (differ exact code at.point.procedure at.point.at at.point.frame g (stands.points i at.point at.stands) (shown_there exact code at.point p to g at.in_procedure at.at_address shown) apart);
}
