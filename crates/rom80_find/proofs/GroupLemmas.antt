-- Bytes that are fitted one target after another.
use Rattle.std.specs.Prelude.{◌≡◌, ◌≢◌, ℕ, zero, suc, ◌+◌, ◌%◌, ◌<◌, ◌≤◌, ◌==◌, ◌&&◌, if◌then◌else◌, Bool, true, Some, List, [], ◌∷◌, ◌++◌, length, take, drop}
use Rattle.std.specs.List.{AllByRecursion}
use Rattle.std.specs.List.Sorted.{IsPermutation}
use Rattle.std.proofs.Common.{refl, sym, ◌∙◌, ap, subst, arith, get_or}
use Rattle.std.proofs.lemmas.List.{get_or-drop, length-drop}
use Rattle.std.proofs.lemmas.Bool.{and_parts, and_from, eqb-true, eq-eqb, ne_eqb}
use Rattle.std.proofs.lemmas.List.Elements.{All-from_recursion, recursion_from_All}
use Rattle.std.proofs.lemmas.List.Sorted.{All-permutation}
use Rattle.rom80_find.specs.Dump.{DumpValue, dump_byte}
use Rattle.rom80_pattern.specs.declared.code_byte.CodeByte.{CodeByte}
use Rattle.rom80_pattern.specs.CodeBytes.{number_of, byte_by, half_of}
use Rattle.rom80_find.specs.Blocks.{IsBest, IsFitted, IsNarrowed}
use Rattle.rom80_find.specs.Fixups.{AreApart, AreOf, AreSorted, HasWord, all_fit, are_there, first_number}
use Rattle.rom80_find.specs.Marks.{has_row}
use Rattle.rom80_find.specs.Places.{LiesAt, fits, is_known}
use Rattle.rom80_find.proofs.CodeLieLemmas.{from_fits, has_fits, known_fits}
use Rattle.rom80_find.proofs.PassLemmas.{HasAll}

-- ---- one more target

-- the values, with a word for one number
abbrev put : (value : ℕ → ℕ) (number word n : ℕ) → ℕ
put value number word n = if n == number then word else value n

zero_put : (value : ℕ → ℕ) (address number word : ℕ) → value 0 ≡ 0 → is_known address number word ≡ true → put value number word 0 ≡ 0
zero_put value address zero word z k = eqb-true word 0 k
zero_put value address (suc n) word z k = ap (λ (t : Bool). if t then word else value 0) (ne_eqb 0 (suc n) (λ e. omega (arith, e))) ∙ z

one_put : (value : ℕ → ℕ) (address number word : ℕ) → value 1 ≡ address → is_known address number word ≡ true → put value number word 1 ≡ address
one_put value address zero word o k = o
one_put value address (suc zero) word o k = eqb-true word address k
one_put value address (suc (suc n)) word o k =
    ap (λ (t : Bool). if t then word else value 1) (ne_eqb 1 (suc (suc n)) (λ e. omega (arith, e))) ∙ o

module _ (dump : DumpValue) (address number : ℕ) where
  new_have : (value : ℕ → ℕ) (word : ℕ) → word < 65536 → (bytes : List CodeByte) → AreOf number bytes → all_fit dump address bytes word ≡ true
      → HasAll dump address (put value number word) bytes
  new_have value word small [] of fit = tt
  new_have value word small (b ∷ bs) of fit =
      let parts = and_parts (fits dump address b word) (all_fit dump address bs word) fit in
      let is : put value number word (number_of b.target) % 65536 ≡ word =
      ap (λ (t : Bool). (if t then word else value (number_of b.target)) % 65536) (eq-eqb (number_of b.target) number of.0) ∙ whole word small in (
        from_fits (dump_byte dump ((address + b.offset) % 65536)) b (put value number word)
            (subst (λ (w : ℕ). fits dump address b w ≡ true) (sym is) parts.0),
        new_have value word small bs of.1 parts.1,
      )
    where
      whole : (w : ℕ) → w < 65536 → w % 65536 ≡ w
      whole w lt = omega (arith, lt)

  old_have : (value : ℕ → ℕ) (word : ℕ) (done : List CodeByte) → AllByRecursion (λ b. number_of b.target ≢ number) done
      → HasAll dump address value done → HasAll dump address (put value number word) done
  old_have value word [] apart all = tt
  old_have value word (b ∷ bs) apart all = (
    all.0 ∙ ap (λ (v : ℕ). Some (half_of b.half ((v + b.addend) % 65536)))
        (sym (ap (λ (t : Bool). if t then word else value (number_of b.target)) (ne_eqb (number_of b.target) number apart.0))),
    old_have value word bs apart.1 all.1,
  )

  both_have : (value : ℕ → ℕ) (xs ys : List CodeByte) → HasAll dump address value xs → HasAll dump address value ys → HasAll dump address value (xs ++ ys)
  both_have value [] ys h k = k
  both_have value (x ∷ xs) ys h k = (h.0, both_have value xs ys h.1 k)

  pub one_more : (done bytes : List CodeByte) → AllByRecursion (λ b. number_of b.target ≢ number) done → AreOf number bytes
      → LiesAt dump done address → HasWord dump address number bytes → LiesAt dump (done ++ bytes) address
  one_more done bytes apart of l w = record {
    value = put l.value number w.word;
    lies = record {
      absolute = zero_put l.value address number w.word l.lies.absolute w.known;
      here = one_put l.value address number w.word l.lies.here w.known;
      bytes = both_have (put l.value number w.word) done bytes (old_have l.value w.word done apart l.lies.bytes) (new_have l.value w.word w.small bytes of w.fit);
    };
  }

  -- and the other way
  first_have : (value : ℕ → ℕ) (xs ys : List CodeByte) → HasAll dump address value (xs ++ ys) → HasAll dump address value xs
  first_have value [] ys h = tt
  first_have value (x ∷ xs) ys h = (h.0, first_have value xs ys h.1)

  second_have : (value : ℕ → ℕ) (xs ys : List CodeByte) → HasAll dump address value (xs ++ ys) → HasAll dump address value ys
  second_have value [] ys h = h
  second_have value (x ∷ xs) ys h = second_have value xs ys h.1

  pub but_last : (done bytes : List CodeByte) → LiesAt dump (done ++ bytes) address → LiesAt dump done address
  but_last done bytes l = record {
    value = l.value;
    lies = record { absolute = l.lies.absolute; here = l.lies.here; bytes = first_have l.value done bytes l.lies.bytes };
  }

  all_have : (value : ℕ → ℕ) (bytes : List CodeByte) → AreOf number bytes → HasAll dump address value bytes → all_fit dump address bytes (value number % 65536) ≡ true
  all_have value [] of h = refl
  all_have value (b ∷ bs) of h =
      and_from (fits dump address b (value number % 65536)) (all_fit dump address bs (value number % 65536))
      (subst (λ (n : ℕ). fits dump address b (value n % 65536) ≡ true) of.0 (has_fits dump address b value h.0))
      (all_have value bs of.1 h.1)

  pub last_word : (done bytes : List CodeByte) → address < 65536 → AreOf number bytes → LiesAt dump (done ++ bytes) address → HasWord dump address number bytes
  last_word done bytes lt of l = record {
    word = l.value number % 65536;
    small = rest_small (l.value number);
    known = known_fits address l.value number lt l.lies.absolute l.lies.here;
    fit = all_have l.value bytes of (second_have l.value done bytes l.lies.bytes);
  }
    where
      rest_small : (n : ℕ) → n % 65536 < 65536
      rest_small n = omega arith

  -- so a mark that is narrowed is fitted
  pub fitted_more : (done bytes : List CodeByte) (first old new : ℕ) → address < 65536
      → AllByRecursion (λ b. number_of b.target ≢ number) done → AreOf number bytes
      → IsFitted dump done address first old → IsNarrowed dump address number bytes old new → IsFitted dump (done ++ bytes) address first new
  fitted_more done bytes first old new lt apart of h n = record {
    before = λ e. h.before (n.before e);
    yes = λ e. one_more done bytes apart of (h.yes (n.before e)) (n.yes e);
    no = λ e l. n.no (h.no e (but_last done bytes l)) (last_word done bytes lt of l);
  }

-- no byte
pub none_fitted : (dump : DumpValue) (address mark : ℕ) → IsFitted dump [] address mark mark
none_fitted dump address mark = record {
  before = λ e. e;
  yes = λ e. record { value = λ n. if n == 1 then address else 0; lies = record { absolute = refl; here = refl; bytes = tt } };
  no = λ e l. e;
}

-- ---- a target's bytes

-- marks of which the bytes were compared with the best word
pub best_narrowed : (dump : DumpValue) (address number value old new : ℕ) (bytes : List CodeByte) → IsBest dump address number bytes value
    → (new == 0) ≡ (old == 0 && all_fit dump address bytes value) → IsNarrowed dump address number bytes old new
best_narrowed dump address number value old new bytes h is = record {
  before = λ e. eqb-true old 0 (parts e).0;
  yes = λ e. record { word = value; small = h.small; known = h.known; fit = (parts e).1 };
  no = λ e w. eqb-true new 0 (is ∙ and_from (old == 0) (all_fit dump address bytes value) (eq-eqb old 0 e) (h.best w.word w.small w.known w.fit));
}
  where
    parts : new ≡ 0 → (old == 0 ≡ true) × (all_fit dump address bytes value ≡ true)
    parts e = and_parts (old == 0) (all_fit dump address bytes value) (sym is ∙ eq-eqb new 0 e)

-- the value of a known target is the only one
pub known_best : (dump : DumpValue) (address number value : ℕ) (bytes : List CodeByte) → value < 65536 → is_known address number value ≡ true
    → ((word : ℕ) → is_known address number word ≡ true → word ≡ value) → IsBest dump address number bytes value
known_best dump address number value bytes small known only = record {
  small = small;
  known = known;
  best = λ w lt k fit. subst (λ (n : ℕ). all_fit dump address bytes n ≡ true) (only w k) fit;
}

-- ---- in another order

all_permuted : {A : Type 0} (P : A → Type 0) (xs ys : List A) → IsPermutation xs ys → AllByRecursion P xs → AllByRecursion P ys
all_permuted P xs ys same h = recursion_from_All P ys (All-permutation P xs ys same (All-from_recursion P xs h))

pub lies_permuted : (dump : DumpValue) (code sorted : List CodeByte) (address : ℕ) → IsPermutation code sorted
    → LiesAt dump code address → LiesAt dump sorted address
lies_permuted dump code sorted address same h = record {
  value = h.value;
  lies = record {
    absolute = h.lies.absolute;
    here = h.lies.here;
    bytes = all_permuted (λ (b : CodeByte). dump_byte dump ((address + b.offset) % 65536) ≡ Some (byte_by h.value b)) code sorted same h.lies.bytes;
  };
}

there_all : (dump : DumpValue) (address : ℕ) (bytes : List CodeByte) → are_there dump address bytes ≡ true
    → AllByRecursion (λ (b : CodeByte). has_row dump 256 ((address + b.offset) % 65536) ≡ true) bytes
there_all dump address [] h = tt
there_all dump address (b ∷ bs) h =
    let parts = and_parts (has_row dump 256 ((address + b.offset) % 65536)) (are_there dump address bs) h in
    (parts.0, there_all dump address bs parts.1)

all_there : (dump : DumpValue) (address : ℕ) (bytes : List CodeByte) → AllByRecursion (λ (b : CodeByte). has_row dump 256 ((address + b.offset) % 65536) ≡ true) bytes
    → are_there dump address bytes ≡ true
all_there dump address [] h = refl
all_there dump address (b ∷ bs) h = and_from (has_row dump 256 ((address + b.offset) % 65536)) (are_there dump address bs) h.0 (all_there dump address bs h.1)

pub there_permuted : (dump : DumpValue) (code sorted : List CodeByte) (address : ℕ) → IsPermutation code sorted
    → are_there dump address code ≡ true → are_there dump address sorted ≡ true
there_permuted dump code sorted address same h =
    all_there dump address sorted
    (all_permuted (λ (b : CodeByte). has_row dump 256 ((address + b.offset) % 65536) ≡ true) code sorted same (there_all dump address code h))

pub there_first : (dump : DumpValue) (address : ℕ) (xs ys : List CodeByte) → are_there dump address (xs ++ ys) ≡ true → are_there dump address xs ≡ true
there_first dump address [] ys h = refl
there_first dump address (x ∷ xs) ys h =
    let parts = and_parts (has_row dump 256 ((address + x.offset) % 65536)) (are_there dump address (xs ++ ys)) h in
    and_from (has_row dump 256 ((address + x.offset) % 65536)) (are_there dump address xs) parts.0 (there_first dump address xs ys parts.1)

pub there_second : (dump : DumpValue) (address : ℕ) (xs ys : List CodeByte) → are_there dump address (xs ++ ys) ≡ true → are_there dump address ys ≡ true
there_second dump address [] ys h = h
there_second dump address (x ∷ xs) ys h =
    there_second dump address xs ys (and_parts (has_row dump 256 ((address + x.offset) % 65536)) (are_there dump address (xs ++ ys)) h).1

-- ---- parts of a list

pub apart_first : (done rest : List CodeByte) → 0 < length rest → AreApart done rest → AllByRecursion (λ b. number_of b.target ≢ first_number rest) done
apart_first done [] some h = elim some [ ]
apart_first [] (c ∷ rest) some h = tt
apart_first (b ∷ done) (c ∷ rest) some h = (h.0.0, apart_first done (c ∷ rest) some h.1)

all_later : {A : Type 0} (P : A → Type 0) (n : ℕ) (xs : List A) → AllByRecursion P xs → AllByRecursion P (drop n xs)
all_later P zero xs h = h
all_later P (suc n) [] h = tt
all_later P (suc n) (x ∷ xs) h = all_later P n xs h.1

pub apart_later : (done rest : List CodeByte) (n : ℕ) → AreApart done rest → AreApart done (drop n rest)
apart_later [] rest n h = tt
apart_later (b ∷ done) rest n h = (all_later (λ c. number_of b.target ≢ number_of c.target) n rest h.0, apart_later done rest n h.1)

pub apart_both : (done bytes others : List CodeByte) → AreApart done others → AreApart bytes others → AreApart (done ++ bytes) others
apart_both [] bytes others h k = k
apart_both (b ∷ done) bytes others h k = (h.0, apart_both done bytes others h.1 k)

pub first_taken : (n : ℕ) (rest : List CodeByte) → 0 < n → first_number (take n rest) ≡ first_number rest
first_taken zero rest some = elim some [ ]
first_taken (suc n) [] some = refl
first_taken (suc n) (b ∷ rest) some = refl

pub parts_of : {A : Type 0} (n : ℕ) (xs : List A) → take n xs ++ drop n xs ≡ xs
parts_of zero xs = refl
parts_of (suc n) [] = refl
parts_of (suc n) (x ∷ xs) = ap (λ (l : List _). x ∷ l) (parts_of n xs)

pub later_sorted : (n : ℕ) (rest : List CodeByte) → n ≤ length rest → AreSorted rest → AreSorted (drop n rest)
later_sorted n rest le h = λ i j d less lt.
    subst (λ (m : ℕ). m ≤ number_of (get_or (drop n rest) j d).target) (sym (ap (λ (b : CodeByte). number_of b.target) (get_or-drop n rest i d)))
    (subst (λ (m : ℕ). number_of (get_or rest (n + i) d).target ≤ m) (sym (ap (λ (b : CodeByte). number_of b.target) (get_or-drop n rest j d)))
    (h (n + i) (n + j) d (omega (arith, less)) (omega (arith, lt, length-drop n rest, le))))

-- bytes from one on whose number is another than the first one's
pub apart_from : (n : ℕ) (rest : List CodeByte) → 0 < length rest → AreSorted rest → AreOf (first_number rest) (take n rest)
    → ((d : CodeByte) → n < length rest → number_of (get_or rest n d).target ≢ first_number rest) → AreApart (take n rest) (drop n rest)
apart_from n [] some sorted of ne = elim some [ ]
apart_from n (b ∷ rest) some sorted of ne = each (take n (b ∷ rest)) of
  where
    later : (xs : List CodeByte) (m : ℕ) → ((j : ℕ) (d : CodeByte) → j < length xs → m ≢ number_of (get_or xs j d).target) → AllByRecursion (λ c. m ≢ number_of c.target) xs
    later [] m h = tt
    later (x ∷ xs) m h = (h 0 x (omega arith), later xs m (λ j d lt. h (suc j) d (omega (arith, lt))))

    more : (j : ℕ) (d : CodeByte) → j < length (drop n (b ∷ rest)) → number_of b.target ≢ number_of (get_or (drop n (b ∷ rest)) j d).target
    more j d lt e =
        let inside : n + j < length (b ∷ rest) = omega (arith, lt, length-drop n (b ∷ rest)) in
        let here : n < length (b ∷ rest) = omega (arith, inside) in
        let at : number_of (get_or (drop n (b ∷ rest)) j d).target ≡ number_of (get_or (b ∷ rest) (n + j) d).target = ap (λ (c : CodeByte). number_of c.target) (get_or-drop n (b ∷ rest) j d) in
        let least : number_of b.target ≤ number_of (get_or (b ∷ rest) n d).target = sorted 0 n d (omega arith) here in
        let further : number_of (get_or (b ∷ rest) n d).target ≤ number_of (get_or (b ∷ rest) (n + j) d).target = sorted n (n + j) d (omega arith) inside in
        ne d here (omega (arith, least, further, e, at))

    each : (bs : List CodeByte) → AreOf (number_of b.target) bs → AreApart bs (drop n (b ∷ rest))
    each [] h = tt
    each (c ∷ bs) h = (
      later (drop n (b ∷ rest)) (number_of c.target) (λ j d lt. subst (λ (m : ℕ). m ≢ number_of (get_or (drop n (b ∷ rest)) j d).target) (sym h.0) (more j d lt)),
      each bs h.1,
    )

-- the first one's number
pub first_is : (bytes : List CodeByte) (d : CodeByte) → 0 < length bytes → number_of (get_or bytes 0 d).target ≡ first_number bytes
first_is [] d some = elim some [ ]
first_is (b ∷ bytes) d some = refl

pub nothing_left : {A : Type 0} (done rest : List A) → length rest ≡ 0 → done ≡ done ++ rest
nothing_left [] [] e = refl
nothing_left [] (x ∷ rest) e = elim (some (length rest) e) [ ]
  where
    some : (n : ℕ) → suc n ≡ 0 → ⊥
    some n e = omega (arith, e)
nothing_left (x ∷ done) rest e = ap (λ (l : List _). x ∷ l) (nothing_left done rest e)
