-- A run of a vouched image.
use Rattle.std.specs.Prelude.{◌≡◌, ℕ, Bool, true, false, List, Option, None, Some, IfSome, length, refl}
use Rattle.std.proofs.Common.{subst, sym}
use Rattle.image80.specs.Regions.{Areas}
use Rattle.image80.specs.Image.{Located, memory_of}
use Rattle.machine80.specs.declared.cpu.Cpu.{Cpu}
use Rattle.machine80.specs.Cpu.{started}
use Rattle.machine80.specs.declared.end.End.{End}
use Rattle.machine80.specs.Step.{Machine, machine}
use Rattle.machine80.specs.World.{world_at_start, IsProperEnd, NeverGoesWrong}
use Rattle.machine80.specs.Run.{IsRun, Agrees, world_of}
use Rattle.machine80_quick.specs.Quick.{StaysRight}

-- some number of outputs agrees with each run
pub most_for : Bool → List (ℕ × ℕ) → Option ℕ
most_for true outputs = Some (length outputs)
most_for false outputs = None

pub most_agrees : (b : Bool) (outputs : List (ℕ × ℕ)) → Agrees b (most_for b outputs) outputs
unfolding most_for
most_agrees true outputs = refl
most_agrees false outputs = tt

-- a run ends properly, if it ends
pub ends_properly : (bytes : ℕ) (image : Located) (inputs : List (List ℕ)) (outputs : List (ℕ × ℕ)) (most : Option ℕ) (limit steps : ℕ) (m : Machine) (ending : Option End) → NeverGoesWrong image bytes →
    IsRun image.regions most (world_at_start image inputs outputs) limit steps m ending → IfSome ending IsProperEnd
ends_properly bytes image inputs outputs most limit steps m None never run = tt
ends_properly bytes image inputs outputs most limit steps m (Some e) never run = never.ends most run.1.last e (record { inputs = inputs; outputs = outputs; steps = run.1.before; is = run.1.at }) run.1.stops

-- a run from the parts of the start is one from the start
pub parts_run : (image : Located) (regions : Areas) (cpu : Cpu) (memory : List ℕ) (inputs : List (List ℕ)) (outputs : List (ℕ × ℕ)) (most : Option ℕ) (limit steps : ℕ) (m : Machine) (ending : Option End) →
    regions ≡ image.regions → cpu ≡ started image.start image.regions → memory ≡ memory_of image.chunks →
    IsRun regions most (world_of (machine cpu memory inputs outputs)) limit steps m ending → IsRun image.regions most (world_at_start image inputs outputs) limit steps m ending
parts_run image regions cpu memory inputs outputs most limit steps m ending e f g run =
    let run₁ : IsRun image.regions most (world_of (machine cpu memory inputs outputs)) limit steps m ending = subst (λ (r : Areas). IsRun r most (world_of (machine cpu memory inputs outputs)) limit steps m ending) e run in
    let run₂ : IsRun image.regions most (world_of (machine (started image.start image.regions) memory inputs outputs)) limit steps m ending = subst (λ (x : Cpu). IsRun image.regions most (world_of (machine x memory inputs outputs)) limit steps m ending) f run₁ in
    subst (λ (x : List ℕ). IsRun image.regions most (world_of (machine (started image.start image.regions) x inputs outputs)) limit steps m ending) g run₂

-- what stays right from the start does from its parts
pub parts_stay_right : (image : Located) (regions : Areas) (cpu : Cpu) (memory : List ℕ) (inputs : List (List ℕ)) (outputs : List (ℕ × ℕ)) →
    regions ≡ image.regions → cpu ≡ started image.start image.regions → memory ≡ memory_of image.chunks →
    StaysRight image.regions (world_at_start image inputs outputs) → StaysRight regions (world_of (machine cpu memory inputs outputs))
parts_stay_right image regions cpu memory inputs outputs e f g right =
    let right₁ : StaysRight image.regions (world_of (machine (started image.start image.regions) memory inputs outputs)) = subst (λ (x : List ℕ). StaysRight image.regions (world_of (machine (started image.start image.regions) x inputs outputs))) (sym g) right in
    let right₂ : StaysRight image.regions (world_of (machine cpu memory inputs outputs)) = subst (λ (x : Cpu). StaysRight image.regions (world_of (machine x memory inputs outputs))) (sym f) right₁ in
    subst (λ (r : Areas). StaysRight r (world_of (machine cpu memory inputs outputs))) (sym e) right₂
