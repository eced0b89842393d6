use Rattle.verify80_states.proofs.{FetchBounds.operands_bounded, StepBytes.bytes_stay, StepBytes.length_stays}
use Rattle.verify80_states.proofs.bytes.bytes_stay_bytes.Goals as goal

pub returns-clause-bytes : goal.returns-clause-bytes
returns-clause-bytes c = bytes_stay (operands_bounded c.spelling_laws.ensures.decoded_in_range)

pub returns-clause-length : goal.returns-clause-length
returns-clause-length c = length_stays

pub returns-clause-operands : goal.returns-clause-operands
returns-clause-operands c = operands_bounded c.spelling_laws.ensures.decoded_in_range
