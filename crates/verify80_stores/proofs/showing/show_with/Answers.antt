use Rattle.std.specs.Global.{Vec}
use Rattle.verify80_stores.proofs.Names.{◌≡◌, Option, List, IfSome, subst, ap, map, range_with_len, Located, Areas, Note, is_quiet, AreNotes, AreShown, noted_by_both}
use Rattle.verify80_stores.proofs.ShownLemmas.{shown_first, shown_more}
use Rattle.verify80_stores.proofs.showing.show_with.Goals as goal

pub returns-in_ok-all_noted-in-Some : goal.returns-in_ok-all_noted-in-Some
returns-in_ok-all_noted-in-Some c =
    let image = c.args.image.now in
    let quiet = is_quiet image.regions c.args.quiet.now in
    let reached = c.args.reached.now in
    let table = c.args.table.now in
    let notes = c.in_ok-notes.notes.items in
    let before = c.in-Some.before.items in
    let both = c.in_ok-all_noted-in-Some.field-0.items in
    let are : AreNotes image.regions reached table notes = subst (λ (r : Areas). AreNotes r reached table notes) (ap (λ (i : Located). i.regions) c.image.view_is) c.in_ok-notes.ensures in
    let shown : AreShown image quiet reached before = subst (λ (o : Option (Vec Note)). IfSome o (λ s. AreShown image quiet reached s.items)) c.in-Some.is c.requires.shown in
    let is : both ≡ map (noted_by_both before notes) (range_with_len 0 65536) =
    subst (λ (l : List Note). both ≡ map (noted_by_both before l) (range_with_len 0 65536)) c.deref-in-Some.ensures.value
    (subst (λ (l : List Note). both ≡ map (noted_by_both l c.deref-in-Some.result.now) (range_with_len 0 65536)) c.deref.ensures.value c.in_ok-all_noted-in-Some.ensures) in
    shown_more image quiet reached table notes before both c.requires.whole c.requires.kept are shown is

pub returns-in-None : goal.returns-in-None
returns-in-None c =
    let image = c.args.image.now in
    let reached = c.args.reached.now in
    let notes = c.in_ok-notes.notes.items in
    shown_first image (is_quiet image.regions c.args.quiet.now) reached c.args.table.now notes c.requires.kept
    (subst (λ (r : Areas). AreNotes r reached c.args.table.now notes) (ap (λ (i : Located). i.regions) c.image.view_is) c.in_ok-notes.ensures)
