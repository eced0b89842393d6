use Rattle.plm80_programs.proofs.explain.with_chain.Goals as goal

pub returns : goal.returns
returns c =
    simp (c.image-image.ensures.image, c.publics.ensures, c.stack_bytes-bytes.ensures.bytes, c.in_ok-text.ensures) at c.in_ok-append_chain.ensures
