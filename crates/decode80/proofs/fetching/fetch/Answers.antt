use Rattle.std.proofs.Common.{◌≡◌, ◌≤◌, ◌∙◌, sym, ℕ, arith, length, rules}
use Rattle.decode80.specs.Spelling.{spelling}
use Rattle.decode80.specs.declared.instr.Instr.{Instr}
use Rattle.decode80.proofs.Spellings.{sizes}
use Rattle.decode80.proofs.FetchLemmas.{fetched}
use Rattle.decode80.proofs.fetching.fetch.Goals as goal

-- a number that is an instruction's length
size : (i : Instr) (n : ℕ) → n ≡ length (spelling i) → (1 ≤ n) × (n ≤ 3)
size i n is =
    let some : 1 ≤ length (spelling i) = (sizes i).0 in
    let few : length (spelling i) ≤ 3 = (sizes i).1 in
    (omega arith, omega arith)

pub all_code-requires-clause-some : goal.all_code-requires-clause-some
all_code-requires-clause-some g c = (size c.in-Some.instr c.in-Some.length ((c.decode.ensures.found c.in-Some.instr c.in-Some.length).0 c.in-Some.is).1).0

pub all_code-requires-clause-few : goal.all_code-requires-clause-few
all_code-requires-clause-few g c = (size c.in-Some.instr c.in-Some.length ((c.decode.ensures.found c.in-Some.instr c.in-Some.length).0 c.in-Some.is).1).1

pub overflow_cast-length : goal.overflow_cast-length
overflow_cast-length g c =
    let small : c.in-Some.length ≤ 3 = (size c.in-Some.instr c.in-Some.length ((c.decode.ensures.found c.in-Some.instr c.in-Some.length).0 c.in-Some.is).1).1 in
    search rules

pub returns-in-Some : goal.returns-in-Some
returns-in-Some g c =
    let some : 1 ≤ c.in-Some.length = (size c.in-Some.instr c.in-Some.length ((c.decode.ensures.found c.in-Some.instr c.in-Some.length).0 c.in-Some.is).1).0 in
    fetched (g.P.Program.code c.args.program.now) (g.P.Program.held c.args.program.now) c.args.address c.ahead.result c.ahead-2.result c.byte.result c.byte-2.result c.byte-3.result c.in-Some.length c.ahead-in-Some.result c.in-Some.instr c.decode.result
    c.ahead.ensures c.ahead-2.ensures c.byte.ensures c.byte-2.ensures c.byte-3.ensures c.decode.ensures.value c.in-Some.is some (sym c.all_code.ensures ∙ c.if-all_code.true) c.ahead-in-Some.ensures
