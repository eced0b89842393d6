use Rattle.std.specs.Prelude.{List, [], ◌∷◌}
use Rattle.std.specs.List.{AllByRecursion}
use Rattle.std.proofs.Common.{◌≡◌, ◌∙◌, refl, ap, sym, subst}
use Rattle.std.proofs.lemmas.Result.{on_ok_weaker}
use Rattle.omf_model.specs.declared.symbols.Public.{Public}
use Rattle.omf_model.specs.Modules.{ModuleValue}
use Rattle.omf_module.specs.Spelled.{SpellsFile}
use Rattle.omf_module.specs.Writing.{file_bytes}
use Rattle.image80_file.specs.ImageFile.{named_module}
use Rattle.place80.specs.declared.placed_segments.Placed.{Placed}
use Rattle.place80_text.specs.ImagePublics.{publics_at}
use Rattle.place80_text.proofs.writing.write_image_with_publics.Goals as goal

-- publics at their addresses are in the absolute segment
are_absolute : (segments : List Placed) (publics : List Public) → AllByRecursion (λ p. p.segment ≡ 0) (publics_at segments publics)
are_absolute segments [] = tt
are_absolute segments (public ∷ publics) = (refl, are_absolute segments publics)

pub image_module-requires : goal.image_module-requires
image_module-requires c =
    subst (λ (l : List Public). AllByRecursion (λ p. p.segment ≡ 0) l) (sym c.in_ok-placed_publics.ensures)
    (are_absolute c.args.segments.now c.args.publics.now)

pub returns-clause-image : goal.returns-clause-image
returns-clause-image c =
    let publics = publics_at c.args.segments.now c.args.publics.now in
    let made = c.in_ok-named.ensures.made ∙ ap (named_module c.args.image.now) c.in_ok-placed_publics.ensures in
    on_ok_weaker c.write_file.result (λ file. record {
      modules = named_module c.args.image.now publics ∷ [];
      file = subst (λ (m : ModuleValue). SpellsFile (file_bytes (m ∷ [])) (m ∷ [])) made file;
      is = c.written_image_is_spelled.ensures.named c.args.image.now publics;
    }) c.write_file.ensures.read
