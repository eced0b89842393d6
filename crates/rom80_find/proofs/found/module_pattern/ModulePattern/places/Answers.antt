use Rattle.std.proofs.Common.{◌≡◌, ◌∙◌, sym, subst, arith, List, length, eqb-true}
use Rattle.std.proofs.lemmas.Bool.{true≢false, eq-eqb}
use Rattle.std.specs.Prelude.{[]}
use Rattle.rom80_pattern.specs.declared.code_byte.CodeByte.{CodeByte}
use Rattle.rom80_find.specs.Lies.{AreModulePlaces}
use Rattle.rom80_find.specs.Places.{ArePlaces}
use Rattle.rom80_find.proofs.EmptyLemmas.{empty_places, has_bytes}
use Rattle.rom80_find.proofs.PlaceLemmas.{lists_as}
use Rattle.rom80_find.proofs.found.module_pattern.ModulePattern.places.Goals as goal

pub returns-then-is_empty : goal.returns-then-is_empty
returns-then-is_empty c =
    let code = c.code-code.result.now in
    let none : length code ≡ 0 = eqb-true (length code) 0 (sym c.is_empty.ensures ∙ c.if-is_empty.true) in
    record {
      all = [];
      are = empty_places c.patterns_lie_as_modules.ensures c.args.dump.now c.args.self.now c.code-code.ensures.rules.sound c.code-code.ensures.short code c.code-code.ensures.bytes none;
      shows = c.new.ensures;
    }

pub returns : goal.returns
returns c =
    let dump = c.args.dump.now in
    let m = c.args.self.now in
    let code = c.code-code.result.now in
    let sound = c.code-code.ensures.rules.sound in
    let short = c.code-code.ensures.short in
    let some = has_bytes c.patterns_lie_as_modules.ensures dump m sound short code c.code-code.ensures.bytes
    (λ e. true≢false (sym (c.is_empty.ensures ∙ eq-eqb (length code) 0 e) ∙ c.if-is_empty.false)) in
    lists_as (ArePlaces dump code 65536) (AreModulePlaces dump m) c.in_ok-found.found
    (λ all are. c.pattern_places_are_module_places.ensures dump m all sound (omega (arith, short)) some
    (subst (λ (l : List CodeByte). ArePlaces dump l 65536 all) c.code-code.ensures.bytes are))
    c.in_ok-found.ensures
