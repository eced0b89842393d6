use Rattle.plm80_names.proofs.refusing.judge.Goals as goal

pub returns-in-Ok : goal.returns-in-Ok
returns-in-Ok c = record { image_is = c.in-Ok.ensures.image; vouched = c.in-Ok.ensures.vouched }

pub returns-in_ok-line-in-Err : goal.returns-in_ok-line-in-Err
returns-in_ok-line-in-Err c = record {
  refusal = c.in-Err.refusal;
  holds = c.in-Err.ensures.refused;
  no_memory = c.in_ok-line-in-Err.ensures.no_memory;
  line_is = simp (c.in-Err.ensures.handed_back) at c.in_ok-line-in-Err.ensures.line;
}
