use Rattle.std.proofs.Common.{arith, sym, subst, length, ℕ, ◌≡◌, ◌∙◌, ◌<◌, ap, List}
use Rattle.std.proofs.lemmas.List.{with_items_is}
use Rattle.rom80_find.specs.declared.candidates.Candidates.{Candidates}
use Rattle.rom80_find.specs.Dump.{dump_of}
use Rattle.rom80_find.specs.Places.{AreBelow, LiesAt}
use Rattle.rom80_find.specs.Words.{AreSingle}
use Rattle.rom80_find.proofs.CodeLieLemmas.{described_lies, none_lies}
use Rattle.rom80_find.proofs.WordLemmas.{only_words}
use Rattle.rom80_find.proofs.words.words_at.Goals as goal

pub returns-then-solve-code-clause-none : goal.returns-then-solve-code-clause-none
returns-then-solve-code-clause-none c =
    let less : c.solve.result < length c.args.code.now = omega (arith, c.if-solve-code.true) in
    none_lies (dump_of c.args.dump) c.args.code.now c.args.address (omega arith) (c.solve.ensures.no less)

pub returns-clause-some : goal.returns-clause-some
returns-clause-some c =
    let whole : length c.solve.new.table ≡ c.args.count = c.solve.ensures.whole ∙ (ap (λ (l : List Candidates). length l) c.deref_mut.ensures.value ∙ c.in_ok-table.ensures.whole) in
    let shown : c.deref.result.now ≡ c.solve.new.table =
    c.deref.ensures.value ∙ with_items_is c.in_ok-table.table c.solve.new.table (omega (arith, c.solve.ensures.whole, ap (λ (l : List Candidates). length l) c.deref_mut.ensures.value, c.in_ok-table.table.ok.0)) in
    let all : c.solve.result ≡ length c.args.code.now = omega (arith, c.if-solve-code.false, c.solve.ensures.within) in
    let table = c.solve.ensures.yes all in
    let lies : LiesAt (dump_of c.args.dump) c.args.code.now c.args.address =
    described_lies (dump_of c.args.dump) c.args.code.now c.args.address c.solve.new.table (omega arith) (omega (arith, whole, c.requires.two)) table
    (subst (λ (n : ℕ). AreBelow n c.args.code.now) (sym whole) c.requires.below) in
    let single : AreSingle c.solve.new.table (length c.solve.new.table) c.in_ok-words.words.items =
    subst (λ (l : List Candidates). AreSingle l (length l) c.in_ok-words.words.items) shown c.in_ok-words.ensures.single in
    only_words (dump_of c.args.dump) c.args.code.now c.args.address c.args.count c.solve.new.table c.in_ok-words.words.items (omega arith) c.requires.below whole table lies
    (subst (λ (n : ℕ). AreSingle c.solve.new.table n c.in_ok-words.words.items) whole single)
