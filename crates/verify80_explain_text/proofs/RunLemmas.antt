-- The runs of points with one frame.
use Rattle.std.proofs.Common.{◌≡◌, ℕ, suc, ◌+◌, ◌<◌, ◌≤◌, Bool, true, false, not, cond, List, [], ◌∷◌, Option, Some, None, is_some, length, take}
use Rattle.std.proofs.Common.{drop, get_or, position, unwrap_or, refl, ap, sym, ◌∙◌, true≢false, ◌-◌, arith, take_all, nat_lt, one-add, ltb-false}
use Rattle.std.specs.List.{position_or_len}
use Rattle.std.proofs.lemmas.List.Sums.{prefix_len-le-length}
use Rattle.frames80.specs.StackFrame.{StackFrame}
use Rattle.frames80.specs.FrameEquality.{frame_eq, frame_decides}
use Rattle.verify80_walks.specs.declared.point.Point.{Point}
use Rattle.verify80_explain_text.specs.Explained.{has_other_frame, runs_of, with_point}

pub same_frame : (f : StackFrame) (p : Point) → has_other_frame f p ≡ false → f ≡ p.frame
same_frame f p same = (frame_decides f p.frame).0 (not_false (frame_eq f p.frame) same)
  where
    not_false : (b : Bool) → not b ≡ false → b ≡ true
    not_false true e = refl
    not_false false e = absurd (true≢false e)

pub own_frame : (p : Point) → has_other_frame p.frame p ≡ false
own_frame p = ap not ((frame_decides p.frame p.frame).1 refl)

-- how many points follow with this frame
abbrev pub ahead : StackFrame → List Point → ℕ
ahead f way = position_or_len (has_other_frame f) way

ahead_same : (f : StackFrame) (p : Point) (way : List Point) → has_other_frame f p ≡ false → ahead f (p ∷ way) ≡ suc (ahead f way)
ahead_same f p way same = rw same (one-add (ahead f way))

ahead_other : (f : StackFrame) (p : Point) (way : List Point) → has_other_frame f p ≡ true → ahead f (p ∷ way) ≡ 0
ahead_other f p way other = rw other refl

pub joins : (p q : Point) (run : List Point) (runs : List (List Point)) → has_other_frame p.frame q ≡ false →
    with_point p ((q ∷ run) ∷ runs) ≡ (p ∷ q ∷ run) ∷ runs
joins p q run runs same = rw same refl

pub stays : (p q : Point) (run : List Point) (runs : List (List Point)) → has_other_frame p.frame q ≡ true →
    with_point p ((q ∷ run) ∷ runs) ≡ (p ∷ []) ∷ (q ∷ run) ∷ runs
stays p q run runs other = rw other refl

-- a way is cut behind a given number of points
abbrev cut : Point → List Point → ℕ → List (List Point)
cut p way n = (p ∷ take n way) ∷ runs_of (drop n way)

first_before : (p q : Point) (way : List Point) → runs_of (q ∷ way) ≡ cut q way (ahead q.frame way) → (b : Bool) → has_other_frame p.frame q ≡ b →
    runs_of (p ∷ q ∷ way) ≡ cut p (q ∷ way) (ahead p.frame (q ∷ way))
first_before p q way rest true other =
    ap (with_point p) rest ∙ stays p q (take (ahead q.frame way) way) (runs_of (drop (ahead q.frame way) way)) other
    ∙ ap (λ (runs : List (List Point)). (p ∷ []) ∷ runs) (sym rest)
    ∙ ap (cut p (q ∷ way)) (sym (ahead_other p.frame q way other))
first_before p q way rest false same =
    ap (with_point p) rest ∙ joins p q (take (ahead q.frame way) way) (runs_of (drop (ahead q.frame way) way)) same
    ∙ ap (λ (f : StackFrame). (p ∷ q ∷ take (ahead f way) way) ∷ runs_of (drop (ahead f way) way)) (sym (same_frame p.frame q same))
    ∙ ap (cut p (q ∷ way)) (sym (ahead_same p.frame q way same))

-- the first run of a way, and the others
first_of : (p : Point) (way : List Point) → runs_of (p ∷ way) ≡ cut p way (ahead p.frame way)
first_of p [] = refl
first_of p (q ∷ way) = first_before p q way (first_of q way) (has_other_frame p.frame q) refl

pub first_is : (way : List Point) (p : Point) (n : ℕ) → 0 < length way
    → n ≡ position_or_len (has_other_frame (get_or way 0 p).frame) (take (length way - 1) (drop 1 way))
    → runs_of way ≡ take (1 + n) way ∷ runs_of (drop (1 + n) way)
first_is [] p n some is = absurd (omega (arith, some))
first_is (q ∷ way) p n some is =
    let enough : length way ≤ length (q ∷ way) - 1 = omega arith in
    let all : n ≡ ahead q.frame way = is ∙ ap (ahead q.frame) (take_all (length (q ∷ way) - 1) way enough) in
    first_of q way ∙ ap (λ (k : ℕ). take k (q ∷ way) ∷ runs_of (drop k (q ∷ way)))
    (sym (one-add n ∙ ap suc all))

some_is : (b : Bool) (n count : ℕ) → cond b (Some n) None ≡ Some count → count ≡ n
some_is true n count e = ap (λ (o : Option ℕ). unwrap_or o n) (sym e)
some_is false n count e = absurd (true≢false (sym (ap is_some e)))

-- what `position` answers is how many stand before it
pub counted : (test : Point → Bool) (xs : List Point) (count : ℕ) → position test xs ≡ Some count → count ≡ position_or_len test xs
counted test xs count e = some_is (nat_lt (position_or_len test xs) (length xs)) (position_or_len test xs) count e

none_is : (b : Bool) (n most : ℕ) → nat_lt n most ≡ b → n ≤ most → cond b (Some n) None ≡ None → most ≡ n
none_is true n most is within e = absurd (true≢false (ap is_some e))
none_is false n most is within e = let past : most ≤ n = ltb-false n most is in omega (arith, within, past)

pub all_counted : (test : Point → Bool) (xs : List Point) → position test xs ≡ None → length xs ≡ position_or_len test xs
all_counted test xs e =
    none_is (nat_lt (position_or_len test xs) (length xs)) (position_or_len test xs) (length xs) refl (prefix_len-le-length _ xs) e

pub few_counted : (test : Point → Bool) (xs : List Point) → position_or_len test xs ≤ length xs
few_counted test xs = prefix_len-le-length _ xs
