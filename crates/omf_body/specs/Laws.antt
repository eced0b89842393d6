-- What holds of all bodies. (It follows from the layout of records.)
use Rattle.std.specs.Prelude.{◌≡◌, ℕ, List, IsTrue}
use Rattle.omf_core.specs.Kind.{kind_byte}
use Rattle.omf_body.specs.declared.fault.BodyFault.{BodyFault}
use Rattle.omf_body.specs.declared.body.Body.{Body}
use Rattle.omf_body.specs.Bodies.{body_kind, body_bytes, is_sound_body, Spells}
use Rattle.omf_body.specs.FirstFault.{FirstFault}

-- No bytes spell two bodies.
abbrev pub OneBody : Type 0
OneBody = (type_byte : ℕ) (bytes : List ℕ) (b c : Body) → Spells type_byte bytes b → Spells type_byte bytes c → b ≡ c

-- No bytes have two first faults.
abbrev pub OneFault : Type 0
OneFault = (type_byte : ℕ) (bytes : List ℕ) (f g : BodyFault) → FirstFault type_byte bytes f → FirstFault type_byte bytes g →
    f ≡ g

-- No bytes that spell a body have a fault.
abbrev pub NeverBoth : Type 0
NeverBoth = (type_byte : ℕ) (bytes : List ℕ) (b : Body) (f : BodyFault) → Spells type_byte bytes b →
    FirstFault type_byte bytes f → ⊥

-- The bytes that are written of a sound body spell it.
abbrev pub WrittenIsSpelled : Type 0
WrittenIsSpelled = (b : Body) → IsTrue (is_sound_body b) → Spells (kind_byte (body_kind b)) (body_bytes b) b
