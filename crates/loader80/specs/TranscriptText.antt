-- What is printed of a run, and of an image that is refused.
use Rattle.std.specs.Prelude.{ℕ, List, [], ◌∷◌, ◌++◌, Option, None, Some, codes}
use Rattle.std.specs.Fmt.{decimal}
use Rattle.std.specs.List.{flat_map}
use Rattle.machine80.specs.declared.end.End.{End}
use Rattle.machine80.specs.declared.end.End.TheVariants.{Halt, InputEnd, OutputRefused, StoreOutside, JumpOutside, Fetch, Stack, Direct}
use Rattle.text80.specs.Digits.{byte_text, word_text}
use Rattle.verify80_flow.specs.declared.refusal.Refusal.{Refusal}
use Rattle.verify80_flow.specs.declared.refusal.Refusal.TheVariants.{StackTooSmall}
use Rattle.verify80_flow.specs.Refusal.{refusal_code, refusal_name, refusal_address}

-- the bytes of stack that the program is known to need at most
abbrev pub stack_line : ℕ → List ℕ
stack_line bytes = codes "STACK " ++ decimal bytes ++ 10 ∷ []

-- one output: the port and the byte
abbrev pub output_line : ℕ × ℕ → List ℕ
output_line output = codes "OUT " ++ byte_text output.0 ++ 32 ∷ byte_text output.1 ++ 10 ∷ []

-- how many steps were made, the ending one too
abbrev pub after_steps : ℕ → List ℕ
after_steps steps = codes " AFTER " ++ decimal steps ++ 10 ∷ []

-- how the run ended, None if the steps were used up; a verified program has none of the wrong ends, and no line is for them
abbrev pub end_line : Option End → ℕ → ℕ → List ℕ
end_line None at steps = codes "STEPS" ++ after_steps steps
end_line (Some Halt) at steps = codes "HALT " ++ word_text at ++ after_steps steps
end_line (Some (InputEnd port)) at steps = codes "INPUT " ++ byte_text port ++ after_steps steps
end_line (Some (OutputRefused port)) at steps = codes "OUTPUT " ++ byte_text port ++ after_steps steps
end_line (Some (StoreOutside address)) at steps = codes "STORE " ++ word_text address ++ after_steps steps
end_line (Some (JumpOutside address)) at steps = codes "JUMP " ++ word_text address ++ after_steps steps
end_line (Some (Fetch address)) at steps = []
end_line (Some (Stack address)) at steps = []
end_line (Some (Direct address)) at steps = []

-- the transcript of a run: the stack bytes, the outputs in order, and the end, where `at` is the pc
abbrev pub transcript : ℕ → List (ℕ × ℕ) → Option End → ℕ → ℕ → List ℕ
transcript stack_bytes outputs «end» at steps = stack_line stack_bytes ++ flat_map output_line outputs ++ end_line «end» at steps

-- what a refusal names after its name: the address, or the numbers that it compares
abbrev pub named_text : Refusal → Option ℕ → List ℕ
named_text refusal (Some at) = codes " AT " ++ (word_text at ++ 10 ∷ [])
named_text (StackTooSmall need has) None = 32 ∷ (decimal need ++ (32 ∷ (decimal has ++ 10 ∷ [])))
named_text refusal None = 10 ∷ []

-- the line for an image that is refused: the refusal's number and name, and what it names
abbrev pub refusal_line : Refusal → List ℕ
refusal_line refusal = codes "REFUSED "
    ++ (decimal (refusal_code refusal) ++ (32 ∷ (refusal_name refusal ++ named_text refusal (refusal_address refusal))))
