-- Words that meet one after another.
use Rattle.std.specs.Prelude.{◌≡◌, ℕ, ◌<◌, Bool, true, false, ◌||◌, ◌↔◌, List, [], ◌∷◌, ◌++◌, zero, suc, length, reverse, slice_set, refl}
use Rattle.std.proofs.Common.{sym, ◌∙◌, ap, arith, get_or}
use Rattle.std.proofs.lemmas.List.{reverse-append, reverse-reverse, length-reverse}
use Rattle.frames80.specs.declared.word.Word.{Word}
use Rattle.frames80.specs.Word.{met}
use Rattle.frames80.specs.StackFrame.{StackFrame}
use Rattle.frames80.specs.Calls.{words_met}

-- the words when a given number of from the front have met
abbrev pub met_to : ℕ → List Word → List Word → List Word
met_to zero xs ys = xs
met_to (suc i) [] ys = []
met_to (suc i) (x ∷ xs) [] = x ∷ xs
met_to (suc i) (x ∷ xs) (y ∷ ys) = met x y ∷ met_to i xs ys

pub met_to-whole : (xs ys : List Word) → length xs ≡ length ys → met_to (length xs) xs ys ≡ words_met xs ys
met_to-whole [] ys long = refl
met_to-whole (x ∷ xs) [] long = absurd (omega arith)
met_to-whole (x ∷ xs) (y ∷ ys) long = ap (λ zs. met x y ∷ zs) (met_to-whole xs ys (omega arith))

-- the words x and y at place i, before they meet
pub record AreAt (i : ℕ) (xs ys : List Word) (x y : Word) : Type 0 where
  pub within : i < length xs
  pub long : length xs ≡ length ys
  pub mine : x ≡ get_or (met_to i xs ys) i x
  pub other : y ≡ get_or ys i y

rest_at : (i : ℕ) (a b : Word) (xs ys : List Word) (x y : Word) → AreAt (suc i) (a ∷ xs) (b ∷ ys) x y → AreAt i xs ys x y
rest_at i a b xs ys x y at = record {
  within = let w = at.within in omega arith;
  long = let l = at.long in omega arith;
  mine = at.mine;
  other = at.other;
}

-- one more pair of words meets
pub met_to_more : (i : ℕ) (xs ys : List Word) (x y : Word) → AreAt i xs ys x y → slice_set (met_to i xs ys) i (met x y) ≡ met_to (suc i) xs ys
met_to_more i [] ys x y at = absurd (let w = at.within in omega arith)
met_to_more i (a ∷ xs) [] x y at = absurd (let l = at.long in omega arith)
met_to_more zero (a ∷ xs) (b ∷ ys) x y at = let p = at.mine in let q = at.other in cc
met_to_more (suc i) (a ∷ xs) (b ∷ ys) x y at = ap (λ zs. met a b ∷ zs) (met_to_more i xs ys x y (rest_at i a b xs ys x y at))

-- they are as they were where they were and the one that meets is
pub met_to_stays : (i : ℕ) (xs ys : List Word) (x y : Word) → AreAt i xs ys x y → met_to i xs ys ≡ xs → met x y ≡ x → met_to (suc i) xs ys ≡ xs
met_to_stays i [] ys x y at same here = absurd (let w = at.within in omega arith)
met_to_stays i (a ∷ xs) [] x y at same here = absurd (let l = at.long in omega arith)
met_to_stays zero (a ∷ xs) (b ∷ ys) x y at same here = let p = at.mine in let q = at.other in cc
met_to_stays (suc i) (a ∷ xs) (b ∷ ys) x y at same here =
    let head : met a b ≡ a = cc in
    let tail : met_to i xs ys ≡ xs = cc in
    let more : met_to (suc i) xs ys ≡ xs = met_to_stays i xs ys x y (rest_at i a b xs ys x y at) tail here in
    cc

-- and only there
pub met_to_stayed : (i : ℕ) (xs ys : List Word) → met_to (suc i) xs ys ≡ xs → met_to i xs ys ≡ xs
met_to_stayed zero xs ys same = refl
met_to_stayed (suc i) [] ys same = refl
met_to_stayed (suc i) (a ∷ xs) [] same = refl
met_to_stayed (suc i) (a ∷ xs) (b ∷ ys) same =
    let head : met a b ≡ a = cc in
    let tail : met_to (suc i) xs ys ≡ xs = cc in
    let less : met_to i xs ys ≡ xs = met_to_stayed i xs ys tail in
    cc

pub met_stayed : (i : ℕ) (xs ys : List Word) (x y : Word) → AreAt i xs ys x y → met_to (suc i) xs ys ≡ xs → met x y ≡ x
met_stayed i [] ys x y at same = absurd (let w = at.within in omega arith)
met_stayed i (a ∷ xs) [] x y at same = absurd (let l = at.long in omega arith)
met_stayed zero (a ∷ xs) (b ∷ ys) x y at same = let p = at.mine in let q = at.other in cc
met_stayed (suc i) (a ∷ xs) (b ∷ ys) x y at same =
    let tail : met_to (suc i) xs ys ≡ xs = cc in
    met_stayed i xs ys x y (rest_at i a b xs ys x y at) tail

both_false : (p q : Bool) → (p || q) ≡ false → (p ≡ false) × (q ≡ false)
both_false true q no_ = absurd (let e : true ≡ false = no_ in cc)
both_false false q no_ = (refl, no_)

-- whether a word has changed so far
pub changed_more : (i : ℕ) (xs ys : List Word) (x y : Word) (before here : Bool) → AreAt i xs ys x y →
    ((before ≡ false) ↔ (met_to i xs ys ≡ xs)) → ((here ≡ false) ↔ (met x y ≡ x)) → ((before || here) ≡ false) ↔ (met_to (suc i) xs ys ≡ xs)
changed_more i xs ys x y before here at earlier now = (
  λ none. let both = both_false before here none in met_to_stays i xs ys x y at (earlier.0 both.0) (now.0 both.1),
  λ same.
      let p : before ≡ false = earlier.1 (met_to_stayed i xs ys same) in
      let q : here ≡ false = now.1 (met_stayed i xs ys x y at same) in
      rw (p, q) refl,
)

words_met-append : (xs ys us vs : List Word) → length xs ≡ length us → words_met (xs ++ ys) (us ++ vs) ≡ words_met xs us ++ words_met ys vs
words_met-append [] ys [] vs long = refl
words_met-append [] ys (u ∷ us) vs long = absurd (omega arith)
words_met-append (x ∷ xs) ys [] vs long = absurd (omega arith)
words_met-append (x ∷ xs) ys (u ∷ us) vs long = ap (λ zs. met x u ∷ zs) (words_met-append xs ys us vs (omega arith))

-- words that meet from the top are those that meet from the bottom
pub words_met-reverse : (xs ys : List Word) → length xs ≡ length ys → words_met (reverse xs) (reverse ys) ≡ reverse (words_met xs ys)
words_met-reverse [] [] long = refl
words_met-reverse [] (y ∷ ys) long = absurd (omega arith)
words_met-reverse (x ∷ xs) [] long = absurd (omega arith)
words_met-reverse (x ∷ xs) (y ∷ ys) long =
    let same : length xs ≡ length ys = omega arith in
    let lengths : length (reverse xs) ≡ length (reverse ys) = length-reverse xs ∙ same ∙ sym (length-reverse ys) in
    let mine : reverse (x ∷ xs) ≡ reverse xs ++ (x ∷ []) = reverse-append (x ∷ []) xs in
    let other : reverse (y ∷ ys) ≡ reverse ys ++ (y ∷ []) = reverse-append (y ∷ []) ys in
    let both : reverse (met x y ∷ words_met xs ys) ≡ reverse (words_met xs ys) ++ (met x y ∷ []) = reverse-append (met x y ∷ []) (words_met xs ys) in
    rw (mine, other, both) (words_met-append (reverse xs) (x ∷ []) (reverse ys) (y ∷ []) lengths ∙ ap (λ zs. zs ++ (met x y ∷ [])) (words_met-reverse xs ys same))

-- words with the same view are the same
pub reverse_same : (xs ys : List Word) → reverse xs ≡ reverse ys → xs ≡ ys
reverse_same xs ys same = sym (reverse-reverse xs) ∙ ap reverse same ∙ reverse-reverse ys

-- a frame by its parts, and with its words from bottom to top
abbrev pub the_frame : ℕ → List Word → Word → Word → Word → StackFrame
the_frame taken words bc de hl = record { taken = taken; words = words; pairs = record { bc = bc; de = de; hl = hl } }

abbrev pub frame_from : ℕ → List Word → Word → Word → Word → StackFrame
frame_from taken words bc de hl = the_frame taken (reverse words) bc de hl

-- frames with the same parts
pub same_frame : (taken : ℕ) (ws vs : List Word) (b b' d d' h h' : Word) → ws ≡ vs → b ≡ b' → d ≡ d' → h ≡ h' →
    the_frame taken ws b d h ≡ the_frame taken vs b' d' h'
same_frame taken ws vs b b' d d' h h' e1 e2 e3 e4 = rw (e1, e2, e3, e4) refl

-- a frame has changed where one of its parts has
pub changed_frame : (taken : ℕ) (ws ws' : List Word) (b b' d d' h h' : Word) (p q r s : Bool) →
    ((p ≡ false) ↔ (ws' ≡ ws)) → ((q ≡ false) ↔ (b' ≡ b)) → ((r ≡ false) ↔ (d' ≡ d)) → ((s ≡ false) ↔ (h' ≡ h)) →
    ((((p || q) || r) || s) ≡ false) ↔ (frame_from taken ws' b' d' h' ≡ frame_from taken ws b d h)
changed_frame taken ws ws' b b' d d' h h' p q r s words bc de hl = (
  λ none.
      let last = both_false ((p || q) || r) s none in
      let third = both_false (p || q) r last.0 in
      let first = both_false p q third.0 in
      let e1 = words.0 first.0 in let e2 = bc.0 first.1 in let e3 = de.0 third.1 in let e4 = hl.0 last.1 in
      rw (e1, e2, e3, e4) refl,
  λ same.
      let e1 : p ≡ false = words.1 (reverse_same ws' ws (ap (λ (f : StackFrame). f.words) same)) in
      let e2 : q ≡ false = bc.1 (ap (λ (f : StackFrame). f.pairs.bc) same) in
      let e3 : r ≡ false = de.1 (ap (λ (f : StackFrame). f.pairs.de) same) in
      let e4 : s ≡ false = hl.1 (ap (λ (f : StackFrame). f.pairs.hl) same) in
      rw (e1, e2, e3, e4) refl,
)
