use Rattle.std.specs.Prelude.{◌≡◌, ◌++◌, ◌∷◌, [], codes}
use Rattle.std.proofs.Common.{rules, ◌∙◌, ap}
use Rattle.text80.specs.Digits.{word_text}
use Rattle.place80.specs.declared.placed_segments.Placed.{Placed}
use Rattle.place80.specs.Layout.{place_among, placed_in}
use Rattle.place80.specs.Causes.{placed_line, start_line}
use Rattle.place80.proofs.TextLemmas.{joined, some_piece}
use Rattle.place80.proofs.causes.lines.append_start.Goals as goal

pub returns : goal.returns
returns c =
    let word = word_text (place_among c.args.segments.now c.in-Some.start.0 c.in-Some.start.1) in
    let line = placed_line c.args.commons.now (placed_in c.args.segments.now 1) in
    let first : c.extend_from_slice.new.self.items ≡ c.args.text.now.items ++ codes "  START " =
    search (rules, c.in_ok-extend_from_slice.ensures, c.as_slice.ensures) in
    let second : c.extend_from_slice-2.new.self.items ≡ c.extend_from_slice.new.self.items ++ word =
    search (rules, c.in_ok-extend_from_slice-2.ensures, c.word_digits.ensures, c.place_of.ensures) in
    let fourth : c.append_placed.new.text.items ≡ c.push.new.self.items ++ line =
    c.in_ok-append_placed.ensures ∙ ap (λ (p : Placed). c.push.new.self.items ++ placed_line c.args.commons.now p) c.placed_in.ensures in
    some_piece (start_line c.args.commons.now c.args.segments.now) c.args.start c.in-Some.start c.args.text.now.items
    c.append_placed.new.text.items c.in-Some.is
    (joined c.args.text.now.items (codes "  START ") c.extend_from_slice.new.self.items (word ++ 10 ∷ line) c.append_placed.new.text.items first
    (joined c.extend_from_slice.new.self.items word c.extend_from_slice-2.new.self.items (10 ∷ line) c.append_placed.new.text.items second
    (joined c.extend_from_slice-2.new.self.items (10 ∷ []) c.push.new.self.items line c.append_placed.new.text.items
    c.in_ok-push.ensures.items fourth)))
