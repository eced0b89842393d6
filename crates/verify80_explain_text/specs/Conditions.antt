-- The lines of conditions, without which a refusal isn't reached. (The form of the lines is this project's own.)
use Rattle.std.specs.Prelude.{ℕ, Option, Some, None, List, [], ◌++◌, codes}
use Rattle.std.specs.List.{flat_map}
use Rattle.image80.specs.Image.{Located}
use Rattle.omf_model.specs.declared.symbols.Public.{Public}
use Rattle.verify80_explain.specs.declared.conditions.Conditions.{Conditions}
use Rattle.verify80_explain.specs.declared.reaching.Reach.{Reach}
use Rattle.verify80_explain_text.specs.Explained.{end_text, with_address}

-- that this holds of an address
abbrev pub condition_line : Located → List Public → (holds : List ℕ) → ℕ → List ℕ
condition_line image publics holds at = with_address (codes "IF ") at ++ (holds ++ end_text image publics at)

-- where the program begins anew, if it does
abbrev pub begins_line : Located → List Public → Option ℕ → List ℕ
begins_line image publics None = []
begins_line image publics (Some at) = condition_line image publics (codes " BEGINS ANEW") at

-- where the program begins anew, which instructions are passed over, and which procedures return
abbrev pub conditions_text : Located → List Public → Conditions → List ℕ
conditions_text image publics conditions =
    begins_line image publics conditions.begins
    ++ (flat_map (condition_line image publics (codes " IS PASSED OVER")) conditions.passed.items
    ++ flat_map (condition_line image publics (codes " RETURNS")) conditions.returning.items)

-- the same of all conditions on which walks reach what they do, from any of the beginnings on
abbrev pub reach_conditions : Located → List Public → Reach → List ℕ
reach_conditions image publics reach =
    flat_map (begins_line image publics) reach.begins.items
    ++ (flat_map (condition_line image publics (codes " IS PASSED OVER")) reach.conditions.passed.items
    ++ flat_map (condition_line image publics (codes " RETURNS")) reach.conditions.returning.items)
