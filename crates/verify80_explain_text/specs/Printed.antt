-- What is printed below a refusal or a report: what shows it, that this is too much to show, or nothing. (The form of the line is
-- this project's own.)
use Rattle.std.specs.Prelude.{◌≡◌, ℕ, List, ◌++◌, codes}
use Rattle.image80.specs.Image.{Located}
use Rattle.omf_model.specs.declared.symbols.Public.{Public}
use Rattle.verify80_flow.specs.declared.refusal.Refusal.{Refusal}
use Rattle.verify80.specs.Looking.{code_of}
use Rattle.verify80_explain.specs.declared.chain.Chain.{Chain}
use Rattle.verify80_explain.specs.declared.explanation.Explanation.{Explanation}
use Rattle.verify80_explain.specs.Chains.{ChainsTo}
use Rattle.verify80_explain.specs.Shows.{Shows}
use Rattle.verify80_explain_text.specs.Explained.{chain_text, explanation_text}

-- the line that there is too much to show
abbrev pub too_many : List ℕ
too_many = codes "TOO MANY WAYS TO SHOW\n"

-- a text goes on with what shows a refusal; or, if nothing was found, with that line, or it ends
pub data GoesOnWithWays (image : Located) (publics : List Public) (refusal : Refusal) (before text : List ℕ) : Type 0 where
  ways : (explanation : Explanation) → Shows (code_of image) refusal explanation
      → text ≡ before ++ explanation_text image publics refusal explanation → GoesOnWithWays image publics refusal before text
  past_limit : text ≡ before ++ too_many → GoesOnWithWays image publics refusal before text
  no_ways : text ≡ before → GoesOnWithWays image publics refusal before text

-- a text goes on with a chain of calls that adds up to a given number of bytes; or, if none was found, with that line, or it ends
pub data GoesOnWithChain (image : Located) (publics : List Public) (bytes : ℕ) (before text : List ℕ) : Type 0 where
  chain : (chain : Chain) → ChainsTo (code_of image) bytes chain
      → text ≡ before ++ chain_text image publics chain → GoesOnWithChain image publics bytes before text
  past_limit : text ≡ before ++ too_many → GoesOnWithChain image publics bytes before text
  no_chain : text ≡ before → GoesOnWithChain image publics bytes before text
