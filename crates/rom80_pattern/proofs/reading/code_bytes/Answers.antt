use Rattle.std.proofs.Common.{◌≡◌, ◌∙◌, ◌+◌, arith, subst, List, ℕ, ap, IfOk}
use Rattle.std.specs.Prelude.{filter_map}
use Rattle.std.specs.List.{range_with_len}
use Rattle.rom80_pattern.specs.declared.code_byte.CodeByte.{CodeByte}
use Rattle.omf_model.specs.Modules.{ModuleValue}
use Rattle.rom80_pattern.specs.Modules.{code_bytes, code_byte_at, IsTable}
use Rattle.rom80_pattern.proofs.ReadingLemmas.{given}
use Rattle.rom80_pattern.proofs.reading.code_bytes.Goals as goal

pub returns-clause-bytes : goal.returns-clause-bytes
returns-clause-bytes c =
    let t = c.in_ok-table.table.items in
    let m = c.args.source.now in
    let are = subst (λ (m : ModuleValue). IsTable m t) c.in_ok-resolved.ensures c.in_ok-table.ensures.table in
    let all : filter_map (λ b. b) t ≡ code_bytes m =
    given (code_byte_at m) t 0 (λ o lt. let zero-o : o ≡ 0 + o = omega arith in are.each o (omega (arith, lt, are.whole)) ∙ ap (code_byte_at m) zero-o) ∙ ap (λ (n : ℕ). filter_map (code_byte_at m) (range_with_len 0 n)) are.whole in
    subst (λ (l : List CodeByte). IfOk c.defined_bytes.result (λ bytes. bytes.items ≡ l)) (ap (λ l. filter_map (λ b. b) l) c.deref.ensures.value ∙ all) c.defined_bytes.ensures
