use Rattle.std.proofs.Common.{◌≡◌, ◌∙◌, ap, sym, subst, ℕ, List, []}
use Rattle.image80.specs.Image.{Located, memory_of}
use Rattle.machine80.specs.declared.cpu.Cpu.{Cpu}
use Rattle.machine80.specs.Cpu.{started}
use Rattle.machine80.specs.Step.{machine}
use Rattle.machine80_board.specs.BoardRun.{no_inputs}
use Rattle.machine80_board.proofs.RunLemmas.{given_first, seen_of_copies}
use Rattle.machine80_board.proofs.running.start.Goals as goal

pub returns-clause-starts : goal.returns-clause-starts
returns-clause-starts c = λ lines.
    let cpu : c.start.result ≡ started c.args.image.now.start c.args.image.now.regions = subst (λ (i : Located). c.start.result ≡ started i.start i.regions) c.image.view_is c.start.ensures in
    let h = c.in_ok-vec.ensures.items_if_clones_equal in
    let g = c.in_ok-vec-2.ensures.items_if_clones_equal in
    record {
      is = ap (λ (x : Cpu). machine x (memory_of c.args.image.now.chunks) no_inputs []) (sym cpu) ∙ ap (λ (b : List ℕ). machine c.start.result b no_inputs []) (sym c.in_ok-new.ensures);
      outputs = sym c.new-2.ensures.items;
      given = given_first lines c.in_ok-vec.field-0.items c.start-2.result (h (λ y e. e)) c.start-2.ensures;
      seen = seen_of_copies _ c.in_ok-vec-2.field-0.items g (λ b h. h);
    }
