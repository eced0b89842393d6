-- Boards, line after line, and what their texts spell.
use Rattle.std.proofs.Common.{◌≡◌, ◌≢◌, ℕ, ◌+◌, true, false, cond, List, [], ◌∷◌, ◌++◌, length, drop, map, append_assoc, append-nil, refl, ap, sym, subst, ◌∙◌}
use Rattle.std.specs.Prelude.{All, Result, Ok, Err, IfErr}
use Rattle.std.specs.List.{flat_map, join_with_byte, onto_first}
use Rattle.std.proofs.lemmas.List.{map-append}
use Rattle.std.proofs.lemmas.List.Elements.{All-nil, All-cons, All-head, All-tail}
use Rattle.std.proofs.lemmas.List.Splits.{join_with_byte-slice_split}
use Rattle.image80.specs.Lines.{is_line_feed, parts, text_of}
use Rattle.board80.specs.declared.fault.BoardFault.{BoardFault}
use Rattle.board80.specs.declared.fault.BoardFault.TheVariants.{BadVersion, BadLine, RangesOverlap, PortTwice, AddressTwice, OutsideDevice, Memory as NoMemory}
use Rattle.board80.specs.declared.line.Kind.TheVariants.{Rom, Ram, Device}
use Rattle.board80.specs.declared.line.Line.{Line}
use Rattle.board80.specs.declared.line.Line.TheVariants.{Memory, Interrupt, Reads}
use Rattle.board80.specs.declared.place.Place.TheVariants.{Port, Cell}
use Rattle.board80.specs.Board.{Fits, GoodStart, IsBadLine, IsBoard, IsFirstBadLine, IsFree, IsOutside, IsProper, IsTaken, Misfits, Refuses, Spells, taken_fault}
use Rattle.board80.specs.Board.IsFirstBadLine.{in_heading, after}
use Rattle.board80.specs.BoardText.{board_text, heading, line_text}
use Rattle.board80.proofs.FeedLemmas.{IsLine, parts-text_of}
use Rattle.board80.proofs.FeedLemmas as feed
use Rattle.board80.proofs.SameLemmas.{line_same}

pub board_none : IsBoard []
board_none [] line later same = cc
board_none (b ∷ bs) line later same = cc

-- where a line stands among lines and one more
data Stands (ls : List Line) (l : Line) (before : List Line) (m : Line) : Type 0 where
  last : before ≡ ls → m ≡ l → Stands ls l before m
  inner : (rest : List Line) → ls ≡ before ++ m ∷ rest → Stands ls l before m

stands_later : (x : Line) (ls : List Line) (l : Line) (bs : List Line) (m : Line) → Stands ls l bs m → Stands (x ∷ ls) l (x ∷ bs) m
stands_later x ls l bs m (last same is) = last (ap (λ t. x ∷ t) same) is
stands_later x ls l bs m (inner rest same) = inner rest (ap (λ t. x ∷ t) same)

stands : (ls : List Line) (l : Line) (before : List Line) (m : Line) (after' : List Line) → ls ++ l ∷ [] ≡ before ++ m ∷ after' → Stands ls l before m
stands [] l [] m after' same = last refl (let both : m ≡ l = cc in both)
stands [] l (b ∷ bs) m after' same = absurd (none bs (ap (λ t. drop 1 t) same))
  where
    none : (bs : List Line) → [] ≡ bs ++ m ∷ after' → ⊥
    none [] is = cc
    none (c ∷ cs) is = cc
stands (x ∷ xs) l [] m after' same = inner xs (let head : x ≡ m = cc in ap (λ y. y ∷ xs) head)
stands (x ∷ xs) l (b ∷ bs) m after' same =
    let head : x ≡ b = cc in
    subst (λ y. Stands (x ∷ xs) l (y ∷ bs) m) head (stands_later x xs l bs m (stands xs l bs m after' (ap (λ t. drop 1 t) same)))

-- one more line that fits
pub board_more : (ls : List Line) (l : Line) → IsBoard ls → Fits ls l → IsBoard (ls ++ l ∷ [])
board_more ls l rules fits before m after' same = go (stands ls l before m after' same)
  where
    go : Stands ls l before m → Fits before m
    go (last is one) = subst (λ b. Fits b m) (sym is) (subst (λ x. Fits ls x) (sym one) fits)
    go (inner rest is) = rules before m rest is

-- the lines of a board are proper
proper_from : (done ls : List Line) → IsBoard (done ++ ls) → All IsProper ls
proper_from done [] rules = All-nil IsProper
proper_from done (l ∷ ls) rules =
    All-cons IsProper l ls (rules done l ls refl).proper (proper_from (done ++ l ∷ []) ls (subst IsBoard (sym (append_assoc done (l ∷ []) ls)) rules))

pub all_proper : (ls : List Line) → IsBoard ls → All IsProper ls
all_proper ls rules = proper_from [] ls rules

-- a split has a first part
pub record IsCons (xs : List (List ℕ)) : Type 0 where
  pub first : List ℕ
  pub others : List (List ℕ)
  pub is : xs ≡ first ∷ others

onto_first-cons : (x : ℕ) (xs : List (List ℕ)) → IsCons (onto_first x xs)
onto_first-cons x [] = record { first = x ∷ []; others = []; is = refl }
onto_first-cons x (y ∷ ys) = record { first = x ∷ y; others = ys; is = refl }

pub parts-cons : (text : List ℕ) → IsCons (parts text)
parts-cons [] = record { first = []; others = []; is = refl }
parts-cons (x ∷ xs) =
    elim (is_line_feed x) as (λ b. IsCons (cond b ([] ∷ parts xs) (onto_first x (parts xs))))
    [ true ↦ record { first = []; others = parts xs; is = refl } | false ↦ onto_first-cons x (parts xs) ]

-- one more good line
pub good_more : (whole rest part after' : List ℕ) (ls : List Line) (l : Line) → GoodStart whole ls (parts rest) → parts rest ≡ part ∷ parts after' →
    part ≡ line_text l → Fits ls l → GoodStart whole (ls ++ l ∷ []) (parts after')
good_more whole rest part after' ls l good is spelled fits =
    record {
      cut = good.cut ∙ ap (λ others. heading ∷ (map line_text ls ++ others)) (is ∙ ap (λ t. t ∷ parts after') spelled)
          ∙ ap (λ ts. heading ∷ ts) (sym (append_assoc (map line_text ls) (line_text l ∷ []) (parts after')) ∙ ap (λ ts. ts ++ parts after') (sym (map-append line_text ls (l ∷ []))));
      rules = board_more ls l good.rules fits;
    }

-- the first line
pub good_none : (whole text : List ℕ) → parts whole ≡ heading ∷ parts text → GoodStart whole [] (parts text)
good_none whole text is = record { cut = is; rules = board_none }

-- the text ends behind good lines
pub good_end : (whole rest : List ℕ) (ls : List Line) → GoodStart whole ls (parts rest) → rest ≡ [] → GoodStart whole ls ([] ∷ [])
good_end whole rest ls good empty = subst (λ r. GoodStart whole ls (parts r)) empty good

pub bad_end : (whole rest : List ℕ) (ls : List Line) (number : ℕ) → GoodStart whole ls (parts rest) → parts rest ≡ rest ∷ [] → rest ≢ [] → number ≡ length ls + 2 → IsFirstBadLine whole number
bad_end whole rest ls number good alone some counted = after ls rest [] (subst (λ others. GoodStart whole ls others) alone good) some counted

pub bad_line : (whole rest part after' : List ℕ) (ls : List Line) (number : ℕ) → GoodStart whole ls (parts rest) → parts rest ≡ part ∷ parts after' →
    ((l : Line) → IsProper l → part ≢ line_text l) → number ≡ length ls + 2 → IsFirstBadLine whole number
bad_line whole rest part after' ls number good is none counted =
    let cut = parts-cons after' in
    after ls part (cut.first ∷ cut.others) (subst (λ others. GoodStart whole ls others) (is ∙ ap (λ others. part ∷ others) cut.is) good) none counted

pub misfit : (whole rest part after' : List ℕ) (ls : List Line) (l : Line) (number : ℕ) (Wrong : List Line → Line → Type 0) → GoodStart whole ls (parts rest) → parts rest ≡ part ∷ parts after' →
    part ≡ line_text l → IsProper l → Wrong ls l → number ≡ length ls + 2 → Misfits whole number Wrong
misfit whole rest part after' ls l number Wrong good is spelled proper wrong counted =
    let cut = parts-cons after' in
    record {
      lines = ls;
      line = l;
      next = cut.first;
      others = cut.others;
      start = subst (λ others. GoodStart whole ls others) (is ∙ ap (λ t. t ∷ parts after') spelled ∙ ap (λ others. line_text l ∷ others) cut.is) good;
      proper = proper;
      wrong = wrong;
      counted = counted;
    }

-- a line that takes what is taken is refused by its kind
pub taken_refuses : (whole rest part after' : List ℕ) (ls : List Line) (l : Line) (number : ℕ) → GoodStart whole ls (parts rest) → parts rest ≡ part ∷ parts after' →
    part ≡ line_text l → IsProper l → ¬ (IsFree ls l) → number ≡ length ls + 2 → Refuses whole (taken_fault l number)
taken_refuses whole rest part after' ls (Memory k r) number good is spelled proper wrong counted =
    misfit whole rest part after' ls (Memory k r) number (IsTaken (RangesOverlap number) number) good is spelled proper (record { taken = wrong; named = refl }) counted
taken_refuses whole rest part after' ls (Interrupt a) number good is spelled proper wrong counted =
    misfit whole rest part after' ls (Interrupt a) number (IsTaken (AddressTwice number) number) good is spelled proper (record { taken = wrong; named = refl }) counted
taken_refuses whole rest part after' ls (Reads (Cell c) a) number good is spelled proper wrong counted =
    misfit whole rest part after' ls (Reads (Cell c) a) number (IsTaken (AddressTwice number) number) good is spelled proper (record { taken = wrong; named = refl }) counted
taken_refuses whole rest part after' ls (Reads (Port p) a) number good is spelled proper wrong counted =
    misfit whole rest part after' ls (Reads (Port p) a) number (IsTaken (PortTwice number) number) good is spelled proper (record { taken = wrong; named = refl }) counted

-- the text whose parts are lines and an empty one
joined : (ls : List (List ℕ)) → join_with_byte 10 (ls ++ [] ∷ []) ≡ text_of ls
joined [] = refl
joined (l ∷ []) = sym (append-nil (l ++ 10 ∷ []))
joined (l ∷ m ∷ ls) = ap (λ t. l ++ 10 ∷ t) (joined (m ∷ ls)) ∙ sym (append_assoc l (10 ∷ []) (text_of (m ∷ ls)))

pub good_text : (text : List ℕ) (ls : List Line) → GoodStart text ls ([] ∷ []) → Spells text ls
good_text text ls good =
    record {
      same = sym (join_with_byte-slice_split 10 text) ∙ ap (λ ps. join_with_byte 10 ps) good.cut ∙ joined (heading ∷ map line_text ls);
      rules = good.rules;
    }

-- the parts of a board's text
pub parts_of_board : (text : List ℕ) (ls : List Line) → Spells text ls → parts text ≡ heading ∷ (map line_text ls ++ [] ∷ [])
parts_of_board text ls spelled =
    ap parts spelled.same
    ∙ parts-text_of (heading ∷ map line_text ls) (All-cons IsLine heading (map line_text ls) feed.first (feed.lines ls (all_proper ls spelled.rules)))

line_some : (l : Line) → line_text l ≢ []
line_some (Memory Rom r) empty = cc
line_some (Memory Ram r) empty = cc
line_some (Memory Device r) empty = cc
line_some (Interrupt a) empty = cc
line_some (Reads (Port p) a) empty = cc
line_some (Reads (Cell c) a) empty = cc

-- the lines of a text, and of a good start of it
record IsStart (ms ls : List Line) (others : List (List ℕ)) : Type 0 where
  rest : List Line
  begins : ms ≡ ls ++ rest
  left : map line_text rest ++ [] ∷ [] ≡ others

starts : (ms ls : List Line) (others : List (List ℕ)) → All IsProper ms → All IsProper ls → map line_text ms ++ [] ∷ [] ≡ map line_text ls ++ others → IsStart ms ls others
starts ms [] others ms_in ls_in same = record { rest = ms; begins = refl; left = same }
starts [] (l ∷ ls) others ms_in ls_in same = absurd (line_some l (cc))
starts (m ∷ ms) (l ∷ ls) others ms_in ls_in same =
    let here : m ≡ l = line_same m l (All-head IsProper m ms ms_in) (All-head IsProper l ls ls_in) (cc) in
    let later : IsStart ms ls others = starts ms ls others (All-tail IsProper m ms ms_in) (All-tail IsProper l ls ls_in) (cc) in
    record { rest = later.rest; begins = ap (λ x. x ∷ ms) here ∙ ap (λ xs. l ∷ xs) later.begins; left = later.left }

started : (text : List ℕ) (ms ls : List Line) (others : List (List ℕ)) → Spells text ms → GoodStart text ls others → IsStart ms ls others
started text ms ls others spelled good =
    starts ms ls others (all_proper ms spelled.rules) (all_proper ls good.rules) (ap (λ ts. drop 1 ts) (sym (parts_of_board text ms spelled) ∙ good.cut))

none_left : (ls : List Line) → map line_text ls ++ [] ∷ [] ≡ [] ∷ [] → ls ≡ []
none_left [] same = refl
none_left (l ∷ ls) same = absurd (line_some l (cc))

-- a text spells one board at most
pub one_reading : (text : List ℕ) (ls ms : List Line) → Spells text ls → Spells text ms → ls ≡ ms
one_reading text ls ms ls_spelled ms_spelled =
    let start = started text ls ms ([] ∷ []) ls_spelled (record { cut = parts_of_board text ms ms_spelled; rules = ms_spelled.rules }) in
    start.begins ∙ ap (λ rest. ms ++ rest) (none_left start.rest start.left) ∙ append-nil ms

-- no line of a board misfits
no_misfit : (text : List ℕ) (ms : List Line) (number : ℕ) (Wrong : List Line → Line → Type 0) → Spells text ms → Misfits text number Wrong →
    ((ls : List Line) (l : Line) → Fits ls l → Wrong ls l → ⊥) → ⊥
no_misfit text ms number Wrong spelled wrong never =
    let start = started text ms wrong.lines (line_text wrong.line ∷ wrong.next ∷ wrong.others) spelled wrong.start in
    go start.rest start.begins start.left
  where
    go : (rest : List Line) → ms ≡ wrong.lines ++ rest → map line_text rest ++ [] ∷ [] ≡ line_text wrong.line ∷ wrong.next ∷ wrong.others → ⊥
    go [] begins left = let none : [] ≡ wrong.next ∷ wrong.others = ap (λ ts. drop 1 ts) left in cc
    go (r ∷ rs) begins left =
        let fits : Fits wrong.lines r = spelled.rules wrong.lines r rs begins in
        let same : r ≡ wrong.line = line_same r wrong.line fits.proper wrong.proper (cc) in
        never wrong.lines wrong.line (subst (λ x. Fits wrong.lines x) same fits) wrong.wrong

-- nor is a line bad
no_bad_line : (text : List ℕ) (ms : List Line) (number : ℕ) → Spells text ms → IsFirstBadLine text number → ⊥
no_bad_line text ms number spelled (in_heading one alone) = some (map line_text ms) (ap (λ ts. drop 1 ts) (sym (parts_of_board text ms spelled) ∙ alone))
  where
    some : (ts : List (List ℕ)) → ts ++ [] ∷ [] ≡ [] → ⊥
    some [] is = cc
    some (t ∷ ts) is = cc
no_bad_line text ms number spelled (after ls part others good bad counted) =
    let start = started text ms ls (part ∷ others) spelled good in
    go start.rest others start.begins start.left bad
  where
    go : (rest : List Line) (others : List (List ℕ)) → ms ≡ ls ++ rest → map line_text rest ++ [] ∷ [] ≡ part ∷ others → IsBadLine part others → ⊥
    go [] [] begins left bad = bad (let is : [] ≡ part = cc in sym is)
    go [] (o ∷ os) begins left bad = let none : [] ≡ o ∷ os = ap (λ ts. drop 1 ts) left in cc
    go (r ∷ []) [] begins left bad = let none : [] ∷ [] ≡ [] = ap (λ ts. drop 1 ts) left in cc
    go (r ∷ s ∷ rs) [] begins left bad = let none : line_text s ∷ (map line_text rs ++ [] ∷ []) ≡ [] = ap (λ ts. drop 1 ts) left in cc
    go (r ∷ rs) (o ∷ os) begins left bad = bad r (spelled.rules ls r rs begins).proper (let is : line_text r ≡ part = cc in sym is)

free_or_taken : (fault : BoardFault) (number : ℕ) (ls : List Line) (l : Line) → Fits ls l → IsTaken fault number ls l → ⊥
free_or_taken fault number ls l fits wrong = wrong.taken fits.free

inside_or_outside : (ls : List Line) (l : Line) → Fits ls l → IsOutside ls l → ⊥
inside_or_outside ls l fits wrong = let both : true ≡ false = sym fits.inside ∙ wrong.outside in cc

-- the text of a board is not refused
pub not_refused : (text : List ℕ) (ms : List Line) (fault : BoardFault) → Spells text ms → Refuses text fault → fault ≡ NoMemory
not_refused text ms BadVersion spelled refused = absurd (refused (map line_text ms ++ [] ∷ []) (parts_of_board text ms spelled))
not_refused text ms (BadLine number) spelled refused = absurd (no_bad_line text ms number spelled refused)
not_refused text ms (RangesOverlap number) spelled refused = absurd (no_misfit text ms number (IsTaken (RangesOverlap number) number) spelled refused (free_or_taken (RangesOverlap number) number))
not_refused text ms (PortTwice number) spelled refused = absurd (no_misfit text ms number (IsTaken (PortTwice number) number) spelled refused (free_or_taken (PortTwice number) number))
not_refused text ms (AddressTwice number) spelled refused = absurd (no_misfit text ms number (IsTaken (AddressTwice number) number) spelled refused (free_or_taken (AddressTwice number) number))
not_refused text ms (OutsideDevice number) spelled refused = absurd (no_misfit text ms number IsOutside spelled refused inside_or_outside)
not_refused text ms NoMemory spelled refused = refl

pub spells_itself : (ls : List Line) → IsBoard ls → Spells (board_text ls) ls
spells_itself ls rules = record { same = refl; rules = rules }

-- a text that has the first line is not refused for it
pub known_version : {T : Type 0} (result : Result T BoardFault) (text : List ℕ) (others : List (List ℕ)) → parts text ≡ heading ∷ others → IfErr result (λ fault. Refuses text BadVersion → fault ≡ BadVersion)
known_version (Ok value) text others is = tt
known_version (Err fault) text others is = λ refused. absurd (refused others is)

-- the lines that are written are the text
lines_joined : (ls : List Line) → flat_map (λ l. line_text l ++ 10 ∷ []) ls ≡ text_of (map line_text ls)
lines_joined [] = refl
lines_joined (l ∷ ls) = ap (λ t. (line_text l ++ 10 ∷ []) ++ t) (lines_joined ls)

pub text_is : (front fed whole : List ℕ) (ls : List Line) → front ≡ heading → fed ≡ front ++ 10 ∷ [] → whole ≡ fed ++ flat_map (λ l. line_text l ++ 10 ∷ []) ls → whole ≡ board_text ls
text_is front fed whole ls first feed more =
    more ∙ ap (λ t. t ++ flat_map (λ l. line_text l ++ 10 ∷ []) ls) (feed ∙ ap (λ t. t ++ 10 ∷ []) first) ∙ ap (λ t. (heading ++ 10 ∷ []) ++ t) (lines_joined ls)
