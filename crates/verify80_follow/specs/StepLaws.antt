-- What other crates prove of steps, and of what is known of a machine behind them.
use Rattle.decode80.specs.Fetch.{FetchReadsCodeAlone}
use Rattle.machine80.specs.{ArithmeticLaws.StatusWordRoundTrip, FactsLaws.InstructionsKeepToFacts}
use Rattle.verify80_states.specs.Bytes.{FetchedOperandsAreBounded}
use Rattle.verify80_states.specs.Laws.{ConditionsLeaveKnown, InstructionsAreFollowed, KnownStaysQuiet, WhatHoldsOfBytes}

pub record StepLaws : Type 0 where
  pub instructions : InstructionsAreFollowed
  pub conditions : ConditionsLeaveKnown
  pub holds : WhatHoldsOfBytes
  pub quiet : KnownStaysQuiet
  pub reads : FetchReadsCodeAlone
  pub bounded : FetchedOperandsAreBounded
  pub facts : InstructionsKeepToFacts
  pub round : StatusWordRoundTrip
