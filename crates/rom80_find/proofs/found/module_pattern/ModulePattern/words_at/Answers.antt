use Rattle.std.proofs.Common.{◌≡◌, ◌∙◌, sym, subst, arith, List, length, eqb-true, Option, IfSome, Vec, Global}
use Rattle.std.specs.List.{AllByRecursion}
use Rattle.std.proofs.lemmas.Bool.{true≢false, eq-eqb}
use Rattle.rom80_find.specs.Dump.{dump_of}
use Rattle.rom80_pattern.specs.declared.code_byte.CodeByte.{CodeByte}
use Rattle.rom80_find.specs.declared.words.Word.{Word}
use Rattle.rom80_find.specs.Places.{AreBelow}
use Rattle.rom80_find.specs.Words.{AreOnlyWords, IsOfATarget}
use Rattle.rom80_find.proofs.EmptyLemmas.{empty_nowhere, has_bytes}
use Rattle.rom80_find.proofs.found.module_pattern.ModulePattern.words_at.Goals as goal

pub returns-then-is_empty-clause-none : goal.returns-then-is_empty-clause-none
returns-then-is_empty-clause-none c =
    let code = c.code-code.result.now in
    let none : length code ≡ 0 = eqb-true (length code) 0 (sym c.is_empty.ensures ∙ c.if-is_empty.true) in
    empty_nowhere c.patterns_lie_as_modules.ensures (dump_of c.args.dump) c.args.self.now c.code-code.ensures.rules.sound c.code-code.ensures.short code c.code-code.ensures.bytes none c.args.address (omega arith)

pub returns-in-Some-clause-some : goal.returns-in-Some-clause-some
returns-in-Some-clause-some c =
    let dump = dump_of c.args.dump in
    let m = c.args.self.now in
    let code = c.code-code.result.now in
    let short = c.code-code.ensures.short in
    let some = has_bytes c.patterns_lie_as_modules.ensures dump m c.code-code.ensures.rules.sound c.code-code.ensures.short code c.code-code.ensures.bytes
    (λ e. true≢false (sym (c.is_empty.ensures ∙ eq-eqb (length code) 0 e) ∙ c.if-is_empty.false)) in
    let below : AreBelow c.count_of_values.result _ = subst (λ (l : List CodeByte). AreBelow c.count_of_values.result l) c.code-code.ensures.bytes c.count_of_values.ensures.below in
    let only = subst (λ (o : Option (Vec Word Global)). IfSome o (λ words. AreOnlyWords dump code c.args.address c.count_of_values.result words.items)) c.in-Some.is c.in_ok-found.ensures.some in
    c.pattern_words_are_module_words.ensures dump m c.args.address c.count_of_values.result c.in-Some.words.items c.code-code.ensures.rules.sound (omega (arith, short)) some (omega arith) below
    (subst (λ (l : List CodeByte). AreOnlyWords dump l c.args.address c.count_of_values.result c.in-Some.words.items) c.code-code.ensures.bytes only)

pub returns-in-Some-clause-listed : goal.returns-in-Some-clause-listed
returns-in-Some-clause-listed c =
    let dump = dump_of c.args.dump in
    let code = c.code-code.result.now in
    let only = subst (λ (o : Option (Vec Word Global)). IfSome o (λ words. AreOnlyWords dump code c.args.address c.count_of_values.result words.items)) c.in-Some.is c.in_ok-found.ensures.some in
    let targets = subst (λ (o : Option (Vec Word Global)). IfSome o (λ words. AllByRecursion IsOfATarget words.items)) c.in-Some.is c.in_ok-found.ensures.targets in
    c.pattern_words_may_be_listed.ensures dump c.args.self.now c.args.address c.count_of_values.result c.in-Some.words.items c.code-code.ensures.rules.sound
    (subst (λ (l : List CodeByte). AreOnlyWords dump l c.args.address c.count_of_values.result c.in-Some.words.items) c.code-code.ensures.bytes only) targets
