use Rattle.std.proofs.Common.{rules, ◌≡◌, ◌++◌, ◌+◌, ◌-◌, ◌%◌, ◌≤◌, ◌∙◌, sym, ap, ℕ, List, [], refl, arith, append_assoc, append-nil}
use Rattle.image80_text.specs.Listing.{bytes_from, instruction_of, lines_from, list_line}
use Rattle.image80_text.proofs.ListingLemmas.{lines_from-line}
use Rattle.image80_text.proofs.list_text.append_range.Goals as goal

pub loop-left-preserved : goal.loop-left-preserved
loop-left-preserved c =
    let memory : List ℕ = c.args.memory.now in
    let n : ℕ = c.in_ok-length.length in
    let line : List ℕ = list_line c.loop-left.at (bytes_from memory c.loop-left.at) (instruction_of (bytes_from memory c.loop-left.at) c.loop-left.left) in
    let rest : List ℕ = lines_from memory ((c.loop-left.at + n) % 65536) 0 (c.loop-left.left - n) in
    let within : n ≤ c.loop-left.left = c.in_ok-length.ensures.within in
    let step : lines_from memory c.loop-left.at 0 c.loop-left.left ≡ line ++ rest =
    lines_from-line memory c.loop-left.at c.loop-left.left n (c.loop-left.left - n) (search rules) c.in_ok-length.ensures.length c.in_ok-length.ensures.some.0 (omega arith) in
    let made : c.append_line.new.text.items ≡ c.loop-left.text.items ++ line = search rules in
    ap (λ (t : List ℕ). t ++ rest) made ∙ append_assoc c.loop-left.text.items line rest ∙ ap (λ (t : List ℕ). c.loop-left.text.items ++ t) (sym step) ∙ c.loop-left.invariant

pub returns : goal.returns
unfolding lines_from
returns c =
    let none : c.loop-left.left ≡ 0 = omega arith in
    let past : lines_from c.args.memory.now c.loop-left.at 0 c.loop-left.left ≡ [] = rw none refl in
    sym (append-nil c.loop-left.text.items) ∙ ap (λ (t : List ℕ). c.loop-left.text.items ++ t) (sym past) ∙ c.loop-left.invariant
