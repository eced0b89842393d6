-- What holds at each value of an operand's type holds of all.
use Rattle.decode80.specs.declared.register.Register.{Register}
use Rattle.decode80.specs.declared.register.Register.TheVariants.{B, C, D, E, H, L, A}
use Rattle.decode80.specs.declared.pair.Pair.{Pair}
use Rattle.decode80.specs.declared.pair.Pair.TheVariants.{Bc, De, Hl, Sp}
use Rattle.decode80.specs.declared.pair.StackPair.{StackPair}
use Rattle.decode80.specs.declared.pair.StackPair.TheVariants.{Bc as StackBc, De as StackDe, Hl as StackHl, Psw}
use Rattle.decode80.specs.declared.pair.IndexPair.{IndexPair}
use Rattle.decode80.specs.declared.pair.IndexPair.TheVariants.{Bc as IndexBc, De as IndexDe}
use Rattle.decode80.specs.declared.condition.Condition.{Condition}
use Rattle.decode80.specs.declared.condition.Condition.TheVariants.{NonZero, Zero, NoCarry, Carry, ParityOdd, ParityEven, Plus, Minus}
use Rattle.decode80.specs.declared.operation.Operation.{Operation}
use Rattle.decode80.specs.declared.operation.Operation.TheVariants.{Add, AddCarry, Subtract, SubtractBorrow, And, ExclusiveOr, Or, Compare}
use Rattle.decode80.specs.declared.rotation.Rotation.{Rotation}
use Rattle.decode80.specs.declared.rotation.Rotation.TheVariants.{Left, Right, LeftThroughCarry, RightThroughCarry}
use Rattle.decode80.specs.declared.restart.Restart.{Restart}
use Rattle.decode80.specs.declared.restart.Restart.TheVariants.{Vector0, Vector1, Vector2, Vector3, Vector4, Vector5, Vector6, Vector7}

pub by_register : (P : Register → Type 0) → P B → P C → P D → P E → P H → P L → P A → (r : Register) → P r
by_register P b c d e h l a B = b
by_register P b c d e h l a C = c
by_register P b c d e h l a D = d
by_register P b c d e h l a E = e
by_register P b c d e h l a H = h
by_register P b c d e h l a L = l
by_register P b c d e h l a A = a

pub by_pair : (P : Pair → Type 0) → P Bc → P De → P Hl → P Sp → (r : Pair) → P r
by_pair P b d h s Bc = b
by_pair P b d h s De = d
by_pair P b d h s Hl = h
by_pair P b d h s Sp = s

pub by_stack_pair : (P : StackPair → Type 0) → P StackBc → P StackDe → P StackHl → P Psw → (r : StackPair) → P r
by_stack_pair P b d h s StackBc = b
by_stack_pair P b d h s StackDe = d
by_stack_pair P b d h s StackHl = h
by_stack_pair P b d h s Psw = s

pub by_index_pair : (P : IndexPair → Type 0) → P IndexBc → P IndexDe → (r : IndexPair) → P r
by_index_pair P b d IndexBc = b
by_index_pair P b d IndexDe = d

pub by_condition : (P : Condition → Type 0) → P NonZero → P Zero → P NoCarry → P Carry → P ParityOdd → P ParityEven → P Plus → P Minus → (c : Condition) → P c
by_condition P nz z nc c po pe p m NonZero = nz
by_condition P nz z nc c po pe p m Zero = z
by_condition P nz z nc c po pe p m NoCarry = nc
by_condition P nz z nc c po pe p m Carry = c
by_condition P nz z nc c po pe p m ParityOdd = po
by_condition P nz z nc c po pe p m ParityEven = pe
by_condition P nz z nc c po pe p m Plus = p
by_condition P nz z nc c po pe p m Minus = m

pub by_operation : (P : Operation → Type 0) → P Add → P AddCarry → P Subtract → P SubtractBorrow → P And → P ExclusiveOr → P Or → P Compare → (o : Operation) → P o
by_operation P a ac s sb n x o c Add = a
by_operation P a ac s sb n x o c AddCarry = ac
by_operation P a ac s sb n x o c Subtract = s
by_operation P a ac s sb n x o c SubtractBorrow = sb
by_operation P a ac s sb n x o c And = n
by_operation P a ac s sb n x o c ExclusiveOr = x
by_operation P a ac s sb n x o c Or = o
by_operation P a ac s sb n x o c Compare = c

pub by_rotation : (P : Rotation → Type 0) → P Left → P Right → P LeftThroughCarry → P RightThroughCarry → (n : Rotation) → P n
by_rotation P l r lt rt Left = l
by_rotation P l r lt rt Right = r
by_rotation P l r lt rt LeftThroughCarry = lt
by_rotation P l r lt rt RightThroughCarry = rt

pub by_restart : (P : Restart → Type 0) → P Vector0 → P Vector1 → P Vector2 → P Vector3 → P Vector4 → P Vector5 → P Vector6 → P Vector7 → (n : Restart) → P n
by_restart P a b c d e f g h Vector0 = a
by_restart P a b c d e f g h Vector1 = b
by_restart P a b c d e f g h Vector2 = c
by_restart P a b c d e f g h Vector3 = d
by_restart P a b c d e f g h Vector4 = e
by_restart P a b c d e f g h Vector5 = f
by_restart P a b c d e f g h Vector6 = g
by_restart P a b c d e f g h Vector7 = h
