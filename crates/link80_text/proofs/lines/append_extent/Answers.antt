use Rattle.std.specs.Prelude.{◌≡◌, ◌++◌, codes}
use Rattle.std.proofs.Common.{rules}
use Rattle.text80.specs.Digits.{word_text}
use Rattle.link80_text.proofs.TextLemmas.{grown_by_numbers}
use Rattle.link80_text.proofs.lines.append_extent.Goals as goal

pub returns : goal.returns
returns c =
    let first : c.extend_from_slice.new.self.items ≡ c.args.text.now.items ++ codes "PART " =
    search (rules, c.in_ok-extend_from_slice.ensures, c.as_slice.ensures) in
    let second : c.extend_from_slice-2.new.self.items ≡ c.extend_from_slice.new.self.items ++ word_text c.args.start =
    search (rules, c.in_ok-extend_from_slice-2.ensures, c.word_digits.ensures) in
    let fourth : c.extend_from_slice-3.new.self.items ≡ c.push.new.self.items ++ word_text c.args.length =
    search (rules, c.in_ok-extend_from_slice-3.ensures, c.word_digits-2.ensures) in
    grown_by_numbers c.args.text.now.items (codes "PART ") (word_text c.args.start) (word_text c.args.length)
    c.extend_from_slice.new.self.items c.extend_from_slice-2.new.self.items c.push.new.self.items c.extend_from_slice-3.new.self.items
    c.push-2.new.self.items first second c.in_ok-push.ensures.items fourth c.in_ok-push-2.ensures.items
