use Rattle.plm80_regions.proofs.Names.{◌≡◌, true, rules, IsFinding, is_open}
use Rattle.plm80_regions.specs.Cases.IsFoundAt.{here}
use Rattle.plm80_regions.proofs.cases.found_at.Goals as goal

pub returns : goal.returns
returns c =
    let image = c.args.image.now in
    let searched = c.args.search.now in
    let opened : is_open image searched.reached c.args.at ≡ true = search rules in
    let found = c.in_ok-found.found in
    let finding : IsFinding image searched.reached searched.taken (record { at = c.args.at; found = found; note = c.note-note.result }) =
    search rules in
    here opened found finding c.case_of.ensures
