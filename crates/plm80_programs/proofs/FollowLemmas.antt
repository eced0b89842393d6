-- The stack of an image that is followed.
use Rattle.plm80_programs.proofs.Names.{◌≡◌, ◌∙◌, ap, Located}
use Rattle.image80.specs.declared.range.Range.{Range}

-- the length of the stack of the same image, seen as a value
pub room_is : (stack : Range) (inside value : Located) → stack ≡ inside.regions.stack → inside ≡ value → stack.length ≡ value.regions.stack.length
room_is stack inside value is same = ap (λ (r : Range). r.length) is ∙ ap (λ (i : Located). i.regions.stack.length) same
