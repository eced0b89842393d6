-- Lines of a text, one after another.
use Rattle.std.specs.Prelude.{◌≡◌, ℕ, zero, suc, ◌+◌, ◌-◌, ◌<◌, ◌≤◌, List, [], ◌∷◌, ◌++◌, length, take, drop, refl}
use Rattle.std.specs.List.{flat_map, range_with_len}
use Rattle.std.proofs.Common.{◌∙◌, ap, sym, subst, arith, append_assoc, append-nil, get_or}
use Rattle.std.proofs.lemmas.List.{take_all}
use Rattle.image80_source.specs.declared.line.Line.{Line}
use Rattle.image80_source.specs.Labels.{LabelTables}
use Rattle.image80_source.specs.Lines.{bytes_of}
use Rattle.image80_source.specs.SourceText.{begins, label_equate, label_equates, line_text, lines_text, origin_if, port_equate, port_equates}

-- what numbers from one on are printed as
unfoldable pub rest_of : (ℕ → List ℕ) → (at left : ℕ) → List ℕ
rest_of f at left = flat_map f (range_with_len at left)

pub rest_next : (f : ℕ → List ℕ) (at left : ℕ) (old new whole : List ℕ) → 0 < left → old ++ rest_of f at left ≡ whole → new ≡ old ++ f at →
    new ++ rest_of f (at + 1) (left - 1) ≡ whole
unfolding rest_of
rest_next f at zero old new whole some so_far made = absurd (omega (arith, some))
rest_next f at (suc left) old new whole some so_far made =
    let less : suc left - 1 ≡ left = omega arith in
    ap (λ (n : ℕ). new ++ flat_map f (range_with_len (at + 1) n)) less
    ∙ ap (λ (l : List ℕ). l ++ flat_map f (range_with_len (at + 1) left)) made
    ∙ append_assoc old (f at) (flat_map f (range_with_len (at + 1) left)) ∙ so_far

-- the same of all numbers below a last one
pub rest_more : (f : ℕ → List ℕ) (last at : ℕ) (old new whole : List ℕ) → at < last → old ++ rest_of f at (last - at) ≡ whole → new ≡ old ++ f at →
    new ++ rest_of f (at + 1) (last - (at + 1)) ≡ whole
rest_more f last at old new whole inside so_far made =
    let less : last - at - 1 ≡ last - (at + 1) = omega arith in
    subst (λ (n : ℕ). new ++ rest_of f (at + 1) n ≡ whole) less (rest_next f at (last - at) old new whole (omega (arith, inside)) so_far made)

pub rest_none : (f : ℕ → List ℕ) (at left : ℕ) (shown whole : List ℕ) → left ≡ 0 → shown ++ rest_of f at left ≡ whole → shown ≡ whole
unfolding rest_of
rest_none f at zero shown whole none so_far = sym (append-nil shown) ∙ so_far
rest_none f at (suc left) shown whole none so_far = absurd (omega (arith, none))

pub all_ports : (labels : LabelTables) → rest_of (port_equate labels) 0 256 ≡ port_equates labels
unfolding rest_of port_equates
all_ports labels = refl

pub all_equates : (labels : LabelTables) (lines : List Line) → rest_of (λ address. label_equate labels (begins lines address) address) 0 65536 ≡ label_equates labels lines
unfolding rest_of label_equates
all_equates labels lines = refl

-- ---- lines

pub lines_next : (labels : LabelTables) (behind : ℕ) (rest : List Line) (d : Line) (old mid new : List ℕ) (at size : ℕ) (whole : List ℕ) → 1 ≤ length rest →
    old ++ lines_text labels behind rest ≡ whole → mid ≡ old ++ origin_if (get_or rest 0 d).at behind → new ≡ mid ++ line_text labels (get_or rest 0 d) →
    at ≡ (get_or rest 0 d).at → size ≡ length (bytes_of (get_or rest 0 d).content) →
    new ++ lines_text labels (at + size) (take (length rest - 1) (drop 1 rest)) ≡ whole
unfolding lines_text
lines_next labels behind [] d old mid new at size whole some so_far first second here long = absurd (omega (arith, some))
lines_next labels behind (line ∷ after) d old mid new at size whole some so_far first second here long =
    let others : List ℕ = lines_text labels (line.at + length (bytes_of line.content)) after in
    let all : length after ≤ suc (length after) - 1 = omega arith in
    ap (λ (l : List Line). new ++ lines_text labels (at + size) l) (take_all (suc (length after) - 1) after all)
    ∙ ap (λ (n : ℕ). new ++ lines_text labels (n + size) after) here
    ∙ ap (λ (n : ℕ). new ++ lines_text labels (line.at + n) after) long
    ∙ ap (λ (l : List ℕ). l ++ others) (second ∙ ap (λ (l : List ℕ). l ++ line_text labels line) first)
    ∙ append_assoc (old ++ origin_if line.at behind) (line_text labels line) others
    ∙ append_assoc old (origin_if line.at behind) (line_text labels line ++ others)
    ∙ so_far

pub lines_end : (labels : LabelTables) (behind : ℕ) (rest : List Line) (shown whole : List ℕ) → length rest < 1 → shown ++ lines_text labels behind rest ≡ whole → shown ≡ whole
unfolding lines_text
lines_end labels behind [] shown whole none so_far = sym (append-nil shown) ∙ so_far
lines_end labels behind (line ∷ lines) shown whole none so_far = absurd (omega (arith, none))
