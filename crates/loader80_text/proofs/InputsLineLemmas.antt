-- The first line `INPUTS`.
use Rattle.std.specs.Prelude.{◌≡◌, ◌<◌, ℕ, Bool, true, false, Option, None, Some, codes, List, [], ◌∷◌, ◌++◌, length, IsTrue, if◌then◌else◌, refl}
use Rattle.std.specs.List.{AllByRecursion}
use Rattle.std.specs.Option.{option_map}
use Rattle.std.specs.Str.{bytes_eq}
use Rattle.std.proofs.Common.{◌∙◌, ap, sym, arith}
use Rattle.std.proofs.lemmas.Option.{same_Some}
use Rattle.loader80_text.specs.BundleText.{Sides, sides_after, sides_of, text_joined}
use Rattle.loader80_text.specs.InputsLineLaws.{lines_text, IsParted, PartedAtTheFirst}

-- what is more before the line of the parts that follow
more : (line : List ℕ) (ps : List (List ℕ)) (o : Option Sides) (sides : Sides) → sides_of ps ≡ o → ((s : Sides) → sides_of ps ≡ Some s → IsParted ps s) → bytes_eq line (codes "INPUTS") ≡ false
    → option_map (sides_after (line ++ 10 ∷ [])) o ≡ Some sides → IsParted (line ∷ ps) sides
more line ps None sides is later other e = absurd cc
more line ps (Some s) sides is later other e =
    let r : IsParted ps s = later s is in
    let same : sides_after (line ++ 10 ∷ []) s ≡ sides = same_Some (sides_after (line ++ 10 ∷ []) s) sides e in
    record {
      earlier = line ∷ r.earlier;
      line = r.line;
      later = r.later;
      whole = ap (λ ls. line ∷ ls) r.whole;
      is = r.is;
      others = (other, r.others);
      followed = r.followed;
      before = ap (λ (x : Sides). x.before) (sym same) ∙ ap (λ text. (line ++ 10 ∷ []) ++ text) r.before;
      after = ap (λ (x : Sides). x.after) (sym same) ∙ r.after;
    }

step : (line next : List ℕ) (lines : List (List ℕ)) (sides : Sides) (b : Bool) → bytes_eq line (codes "INPUTS") ≡ b → ((s : Sides) → sides_of (next ∷ lines) ≡ Some s → IsParted (next ∷ lines) s)
    → (if b then Some (record { before = []; after = text_joined (next ∷ lines) }) else option_map (sides_after (line ++ 10 ∷ [])) (sides_of (next ∷ lines))) ≡ Some sides → IsParted (line ∷ next ∷ lines) sides
step line next lines sides true is later e =
    let here : Sides = record { before = []; after = text_joined (next ∷ lines) } in
    let same : here ≡ sides = same_Some here sides e in
    record {
      earlier = [];
      line = line;
      later = next ∷ lines;
      whole = refl;
      is = is;
      others = tt;
      followed = omega arith;
      before = ap (λ (x : Sides). x.before) (sym same);
      after = ap (λ (x : Sides). x.after) (sym same);
    }
step line next lines sides false is later e = more line (next ∷ lines) (sides_of (next ∷ lines)) sides refl later is e

found : (ps : List (List ℕ)) (sides : Sides) → sides_of ps ≡ Some sides → IsParted ps sides
found [] sides e = absurd cc
found (last ∷ []) sides e = absurd cc
found (line ∷ next ∷ lines) sides e = step line next lines sides (bytes_eq line (codes "INPUTS")) refl (λ s is. found (next ∷ lines) s is) e

abbrev parted : List (List ℕ) → List (List ℕ) → Sides
parted earlier later = record { before = lines_text earlier; after = text_joined later }

past : (line next : List ℕ) (lines : List (List ℕ)) → bytes_eq line (codes "INPUTS") ≡ false → sides_of (line ∷ next ∷ lines) ≡ option_map (sides_after (line ++ 10 ∷ [])) (sides_of (next ∷ lines))
past line next lines other = ap (λ (b : Bool). if b then Some (record { before = []; after = text_joined (next ∷ lines) }) else option_map (sides_after (line ++ 10 ∷ [])) (sides_of (next ∷ lines))) other

answered : (earlier : List (List ℕ)) (line : List ℕ) (later : List (List ℕ)) → AllByRecursion (λ l. bytes_eq l (codes "INPUTS") ≡ false) earlier → IsTrue (bytes_eq line (codes "INPUTS")) → 0 < length later
    → sides_of (earlier ++ line ∷ later) ≡ Some (parted earlier later)
answered [] line [] others is followed = absurd (omega (arith, followed))
answered [] line (next ∷ later) others is followed =
    ap (λ (b : Bool). if b then Some (parted [] (next ∷ later)) else option_map (sides_after (line ++ 10 ∷ [])) (sides_of (next ∷ later))) is
answered (x ∷ []) line later others is followed =
    past x line later others.0 ∙ ap (option_map (sides_after (x ++ 10 ∷ []))) (answered [] line later tt is followed)
answered (x ∷ y ∷ ys) line later others is followed =
    past x y (ys ++ line ∷ later) others.0 ∙ ap (option_map (sides_after (x ++ 10 ∷ []))) (answered (y ∷ ys) line later others.1 is followed)

first_answered : (ps : List (List ℕ)) (sides : Sides) → IsParted ps sides → sides_of ps ≡ Some sides
first_answered ps sides r =
    ap sides_of r.whole ∙ answered r.earlier r.line r.later r.others r.is r.followed
    ∙ ap (λ (b : List ℕ). Some (record { before = b; after = text_joined r.later })) (sym r.before)
    ∙ ap (λ (a : List ℕ). Some (record { before = sides.before; after = a })) (sym r.after)

pub parted_at_the_first : PartedAtTheFirst
parted_at_the_first parts sides = (found parts sides, first_answered parts sides)
