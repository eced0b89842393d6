-- What is named, address by address.
use Rattle.std.proofs.Common.{◌≡◌, inl, inr, ℕ, Bool, true, false, List, ◌++◌, get_or, refl}
use Rattle.std.specs.Prelude.{Ok}
use Rattle.std.proofs.lemmas.List.Elements.{Contains-append_left, Contains-append_right, Contains-append_cases}
use Rattle.image80.specs.Image.{Located, memory_of}
use Rattle.verify80_cases.specs.Reach.{given}
use Rattle.decode80.specs.declared.fetching.Fetched.{Fetched}
use Rattle.verify80.specs.LookLaws.{fetch_at}
use Rattle.verify80_suggest.specs.Names.{Marks, first_name, names_at, second_name}

pub marks_both : (a b c : List Bool) (xs ys : List ℕ) → Marks a xs b → Marks b ys c → Marks a (xs ++ ys) c
marks_both a b c xs ys one two = record {
  size = two.size;
  marked = λ address has. elim (Contains-append_cases xs ys address has) [
    | inl left ↦ two.kept address (one.marked address left)
    | inr right ↦ two.marked address right
  ];
  kept = λ address is. two.kept address (one.kept address is);
  only = λ address is. elim (two.only address is) [
    | inr new ↦ inr (Contains-append_right xs ys address new)
    | inl before ↦ elim (one.only address before) [
      | inl old ↦ inl old
      | inr new ↦ inr (Contains-append_left xs ys address new)
    ]
  ];
}

-- what the instruction at a marked address names
pub names_found : (image : Located) (reached : List Bool) (at : ℕ) (found : Fetched) → get_or reached at false ≡ true →
    fetch_at image.regions (memory_of image.chunks) at ≡ Ok found → names_at image reached at ≡ given (first_name found.instr) ++ given (second_name found.instr)
unfolding names_at
names_found image reached at found marked is = rw (marked, is) refl
