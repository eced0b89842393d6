use Rattle.std.specs.Prelude.{◌≡◌, ◌++◌, codes, option_copied}
use Rattle.std.proofs.Common.{rules, ◌∙◌, ap}
use Rattle.place80.specs.Causes.{alike_line}
use Rattle.place80.proofs.TextLemmas.{joined, some_piece}
use Rattle.place80.proofs.causes.lines.append_alike.Goals as goal

pub returns : goal.returns
returns c =
    let first : c.extend_from_slice.new.self.items ≡ c.args.text.now.items ++ codes "  the public " =
    c.in_ok-extend_from_slice.ensures.items ∙ ap (λ l. c.args.text.now.items ++ l) c.as_slice.ensures in
    let second : c.extend_from_slice-2.new.self.items ≡ c.extend_from_slice.new.self.items ++ c.in-Some.public.now.name =
    search (rules, c.in_ok-extend_from_slice-2.ensures, c.bytes.ensures) in
    let third : c.extend_from_slice-3.new.self.items ≡ c.extend_from_slice-2.new.self.items ++ codes " differs in case alone\n" =
    c.in_ok-extend_from_slice-3.ensures.items ∙ ap (λ l. c.extend_from_slice-2.new.self.items ++ l) c.as_slice-2.ensures in
    some_piece alike_line (option_copied c.args.public) c.in-Some.public.now c.args.text.now.items c.extend_from_slice-3.new.self.items
    (ap option_copied c.in-Some.is)
    (joined c.args.text.now.items (codes "  the public ") c.extend_from_slice.new.self.items
    (c.in-Some.public.now.name ++ codes " differs in case alone\n") c.extend_from_slice-3.new.self.items first
    (joined c.extend_from_slice.new.self.items c.in-Some.public.now.name c.extend_from_slice-2.new.self.items
    (codes " differs in case alone\n") c.extend_from_slice-3.new.self.items second third))
