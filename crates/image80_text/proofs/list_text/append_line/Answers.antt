use Rattle.std.proofs.Common.{rules, ◌≡◌, ◌++◌, ◌∙◌, sym, ap, ℕ, List, [], ◌∷◌, codes, take}
use Rattle.std.specs.Prelude.{None}
use Rattle.image80_text.specs.Listing.{bytes_from, columns, instruction_of}
use Rattle.image80_text.proofs.ListingLemmas.{list_line-alone}
use Rattle.image80_text.proofs.list_text.append_line.Goals as goal

pub returns-in_ok-extend_from_slice-in-None-clause-line :
    goal.returns-in_ok-extend_from_slice-in-None-clause-line
returns-in_ok-extend_from_slice-in-None-clause-line c =
    let bytes : List ℕ = bytes_from c.args.memory.now c.args.at in
    let none : instruction_of bytes c.args.left ≡ None =
    ap (λ (b : List ℕ). instruction_of b c.args.left) (sym c.bytes_at-bytes.ensures) ∙ sym c.instruction_in.ensures.value ∙ c.in-None.is in
    let made : c.extend_from_slice.new.self.items ≡ (c.args.text.now.items ++ columns c.args.at (take 1 bytes)) ++ (codes "??" ++ 10 ∷ []) = search rules in
    made ∙ list_line-alone c.args.at bytes c.args.text.now.items (instruction_of bytes c.args.left) none
