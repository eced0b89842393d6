use Rattle.plm80_programs.proofs.Names.{◌++◌, ◌∙◌, ap, codes, List, ℕ}
use Rattle.image80_text.specs.NameText.{named_text}
use Rattle.verify80_follow.specs.FollowText.{ways_lines}
use Rattle.plm80_programs.proofs.follow.followed_text.Goals as goal

pub returns : goal.returns
returns c =
    let image = c.args.image.now in
    let names = c.args.names.now in
    let tables = c.args.tables in
    let ways = named_text image.regions.code names (codes "WAY ") (ways_lines tables.table.now.ways.items tables.handlers.now) in
    c.in_ok-extend_from_slice-2.ensures.items
    ∙ ap (λ (l : List ℕ). c.args.first.items ++ l)
    (c.deref-2.ensures.value ∙ c.in_ok-extend_from_slice.ensures.items ∙ ap (λ (l : List ℕ). c.in_ok-lines.lines.items ++ l) (c.deref.ensures.value ∙ c.in_ok-ways.ensures)
    ∙ ap (λ (l : List ℕ). l ++ ways) c.in_ok-lines.ensures)
