use Rattle.std.proofs.Common.{Bor, List, Option, find, option_copied, refl, ◌∙◌, ap, inl, inr, sym}
use Rattle.image80.specs.{declared.range.Range.Range, Image.Located, Range.in_range}
use Rattle.plm80_names.proofs.refusal_words.place_of.Goals as goal

pub returns-in-Some-range_of-clause-some : goal.returns-in-Some-range_of-clause-some
returns-in-Some-range_of-clause-some c =
    inr (inl (
      refl,
      ap (λ (i : Located). find (λ r. in_range r c.args.address) i.regions.data_ranges) (sym c.image.view_is)
          ∙ ap (λ (l : List Range). find (λ r. in_range r c.args.address) l) (sym c.data_ranges.ensures.ranges)
          ∙ sym c.range_of-2.ensures ∙ ap (λ (o : Option (Bor Range)). option_copied o) c.in-Some-range_of.is,
    ))
