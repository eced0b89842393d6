use Rattle.verify80_follow.proofs.laws.step_laws.Goals as goal

pub returns : goal.returns
returns c =
    let known = c.known_is_followed.ensures in
    record {
      instructions = known.instructions;
      conditions = known.conditions;
      holds = known.holds;
      quiet = known.quiet;
      reads = c.fetch_reads_code_alone.ensures;
      bounded = c.bytes_stay_bytes.ensures.operands;
      facts = c.instructions_keep_to_facts.ensures;
      round = c.status_word_round_trip.ensures;
    }
