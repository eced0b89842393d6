-- What a session answers and writes: a relation between the three texts, the answer and the text that is written.
use Rattle.std.specs.Prelude.{◌≡◌, ◌≢◌, ℕ, ◌⊎◌, List, [], None, Some, Result, Ok, Err}
use Rattle.image80.specs.declared.fault.RegionsFault.TheVariants.{Memory as RegionsMemory}
use Rattle.image80_file.specs.declared.image_fault.ImageFault.TheVariants.{Memory as ImageMemory}
use Rattle.image80.specs.Regions.{Areas}
use Rattle.image80.specs.RegionsText.{Spells, Refuses}
use Rattle.image80.specs.Image.{Located}
use Rattle.image80_file.specs.ImageFile.{SpellsImage, FaultsImage, without_regions}
use Rattle.machine80.specs.Ports.{lists_of}
use Rattle.machine80.specs.Step.{Machine}
use Rattle.machine80.specs.World.{world_at_start}
use Rattle.machine80.specs.Run.{IsRun}
use Rattle.loader80.specs.declared.replies.Outcome.{Outcome}
use Rattle.loader80.specs.declared.fault.SessionFault.{SessionFault}
use Rattle.loader80.specs.declared.fault.SessionFault.TheVariants.{Read, Write, Image, Regions, Inputs, Refused, Memory, TooLong}
use Rattle.verify80_flow.specs.declared.refusal.Refusal.{Refusal}
use Rattle.verify80_flow.specs.declared.refusal.Refusal.TheVariants.{Memory as NoMemory}
use Rattle.loader80.specs.Texts.{Texts}
use Rattle.loader80.specs.InputsText.{inputs_of, bad_line}
use Rattle.loader80.specs.TranscriptText.{transcript, refusal_line}
use Rattle.verify80_flow.specs.declared.report.ProcRow.{ProcRow}
use Rattle.verify80_flow.specs.Faults.{Holds}
use Rattle.verify80.specs.Looking.{code_of}
use Rattle.verify80.specs.Vouched.{IsVouched}

-- the image's bytes spell the image but for its regions, and the regions' text spells those
pub record SpellsProgram (t : Texts) (image : Located) : Type 0 where
  pub contents : SpellsImage t.image (without_regions image)
  pub regions : Spells t.regions image.regions

-- the text is the transcript of a run of at most a given number of steps on these inputs. Exactly as many outputs are taken as the
-- limit says, and the next one is refused
pub record IsTranscript (image : Located) (inputs : List (List ℕ)) (limit steps : ℕ) (o : Outcome) (text : List ℕ) : Type 0 where
  pub last : Machine
  pub run : IsRun image.regions (Some limit) (world_at_start image inputs []) steps o.steps last o.end
  pub at : o.at ≡ last.cpu.pc
  pub spells : text ≡ transcript o.stack_bytes last.outputs o.end o.at o.steps

-- the texts spell a program and its inputs, and the verifier accepts the program with the bytes that are printed
pub record Runs (limit steps : ℕ) (t : Texts) (o : Outcome) (text : List ℕ) : Type 0 where
  pub image : Located
  pub program : SpellsProgram t image
  pub inputs : bad_line t.inputs ≡ None
  pub rows : List ProcRow
  pub vouched : IsVouched image rows o.stack_bytes
  pub ran : IsTranscript image (lists_of (inputs_of t.inputs)) limit steps o text

-- the first fault of the texts, in the order regions, image, inputs, check
abbrev pub Faults : Texts → SessionFault → List ℕ → Type 0
Faults t (Regions f) text = Refuses t.regions f × (f ≢ RegionsMemory) × (text ≡ [])
Faults t (Image f) text = ((areas : Areas) × Spells t.regions areas) × FaultsImage t.image f × (f ≢ ImageMemory) × (text ≡ [])
Faults t (Inputs n) text = ((image : Located) × SpellsProgram t image) × (bad_line t.inputs ≡ Some n) × (text ≡ [])
Faults t (Refused r) text = ((image : Located) × SpellsProgram t image × Holds (code_of image) r) × (r ≢ NoMemory)
    × (bad_line t.inputs ≡ None) × (text ≡ refusal_line r)
Faults t Memory text = text ≡ []
Faults t (Read k) text = ⊥
Faults t Write text = ⊥
Faults t (TooLong k) text = ⊥

-- what is answered and written for three texts
abbrev pub Says : (limit steps : ℕ) → Texts → Result Outcome SessionFault → List ℕ → Type 0
Says limit steps t (Ok o) text = Runs limit steps t o text
Says limit steps t (Err f) text = Faults t f text

-- a refusal's line, or out of memory
abbrev pub IsRefused : Refusal → Result Outcome SessionFault → List ℕ → Type 0
IsRefused refusal answer text = ((answer ≡ Err Memory) × (text ≡ []))
    ⊎ ((answer ≡ Err (Refused refusal)) × (refusal ≢ NoMemory) × (text ≡ refusal_line refusal))

-- the transcript of a run of the image with the bytes that were found, or out of memory
abbrev pub Transcribes : Located → (bytes : ℕ) → List (List ℕ) → (limit steps : ℕ) → Result Outcome SessionFault → List ℕ → Type 0
Transcribes image bytes inputs limit steps (Ok o) text = (o.stack_bytes ≡ bytes) × IsTranscript image inputs limit steps o text
Transcribes image bytes inputs limit steps (Err fault) text = (fault ≡ Memory) × (text ≡ [])
