-- The three texts that a session reads: an object file of an image, its regions and the inputs of its run.
-- (The object file is one of Intel's OMF-80; the two other texts are this project's.)
use Rattle.std.specs.Prelude.{ℕ, List}
use Rattle.loader80.specs.declared.replies.SessionTexts.{SessionTexts}

pub record Texts : Type 0 where
  pub image : List ℕ
  pub regions : List ℕ
  pub inputs : List ℕ

-- the bytes of the texts that are lent for a session
abbrev pub texts_of : SessionTexts → Texts
texts_of lent = record { image = lent.image.now; regions = lent.regions.now; inputs = lent.inputs.now }
