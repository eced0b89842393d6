-- What stands before an address stays so as more is reached, and so do the targets of tables.
use Rattle.std.proofs.Common.{inl, inr, ℕ, Bool, List, All, Option, None, Some, IfSome, get_or}
use Rattle.image80.specs.Image.{Located}
use Rattle.verify80_cases.specs.declared.table.EntryRun.{EntryRun}
use Rattle.verify80_cases.specs.Reach.{IsMarked}
use Rattle.verify80_cases.specs.Reading.{AreRests, IsRest}
use Rattle.verify80_cases.specs.Standing.{GoesOn, LeadsTo, StandsBefore}
use Rattle.verify80_cases.specs.Standing.LeadsTo.{stands as before_it, jumps}
use Rattle.verify80_cases.specs.Standing.StandsBefore.{last, earlier}
use Rattle.verify80_cases.specs.Suggested.{AreLookedUp, GoesByTable, IsBegun, IsCount, IsLimit, IsLoaded, IsRoot, IsTableTarget, IsTested}
use Rattle.verify80_cases.specs.Suggested.IsBegun.{loads, looks_up}
use Rattle.verify80_cases.specs.Suggested.IsCount.{none as not_counted, counted}
use Rattle.verify80_cases.specs.Suggested.IsLimit.{none, compared}
use Rattle.verify80_cases.specs.declared.table.TableKind.{TableKind}

module _ (image : Located) (m m' : List Bool) (kept : (at : ℕ) → IsMarked m at → IsMarked m' at) where
  goes_on_kept : (at next : ℕ) → GoesOn image m at next → GoesOn image m' at next
  goes_on_kept at next goes = record { is_reached = kept at goes.is_reached; behind = goes.behind }

  stands_kept : (place at : ℕ) → StandsBefore image m place at → StandsBefore image m' place at
  stands_kept place _ (last at goes) = last at (goes_on_kept place at goes)
  stands_kept place _ (earlier before at stands goes) = earlier before at (stands_kept place before stands) (goes_on_kept before at goes)

  limit_kept : (at limit : ℕ) → IsLimit image m at limit → IsLimit image m' at limit
  limit_kept at limit (none is) = none is
  limit_kept at limit (compared cpi stands is) = compared cpi (stands_kept cpi at stands) is

  leads_kept : (place at : ℕ) → LeadsTo image m place at → LeadsTo image m' place at
  leads_kept place at (before_it before) = before_it (stands_kept place at before)
  leads_kept place at (jumps jump to before is_reached goes (inl here)) = jumps jump to (stands_kept place jump before) (kept jump is_reached) goes (inl here)
  leads_kept place at (jumps jump to before is_reached goes (inr further)) =
      jumps jump to (stands_kept place jump before) (kept jump is_reached) goes (inr (stands_kept to at further))

  count_kept : (at limit : ℕ) → IsCount image m at limit → IsCount image m' at limit
  count_kept at limit (not_counted is) = not_counted is
  count_kept at limit (counted mvi leads loaded) = counted mvi (leads_kept mvi at leads) loaded

  tested_kept : (lxi : ℕ) (key : Option ℕ) → IfSome key (IsTested image m lxi) → IfSome key (IsTested image m' lxi)
  tested_kept lxi None is = is
  tested_kept lxi (Some key) is = record { test = is.test; behind = stands_kept lxi is.test is.behind; tested = is.tested }

  looked_up_kept : (at : ℕ) (key : Option ℕ) (table limit : ℕ) → AreLookedUp image m at key table limit → AreLookedUp image m' at key table limit
  looked_up_kept at key table limit are = record {
    lxi = are.lxi;
    leads = leads_kept are.lxi at are.leads;
    loaded = are.loaded;
    is_tested = tested_kept are.lxi key are.is_tested;
    is_count = count_kept at limit are.is_count;
  }

  loaded_kept : (at table limit : ℕ) → IsLoaded image m at table limit → IsLoaded image m' at table limit
  loaded_kept at table limit begun = record {
    lxi = begun.lxi;
    before = stands_kept begun.lxi at begun.before;
    loaded = begun.loaded;
    is_limit = limit_kept at limit begun.is_limit;
  }

  begun_kept : (at : ℕ) (kind : TableKind) (table limit : ℕ) → IsBegun image m at kind table limit → IsBegun image m' at kind table limit
  begun_kept at kind table limit (loads plain is) = loads plain (loaded_kept at table limit is)
  begun_kept at kind table limit (looks_up order key is_kind are) = looks_up order key is_kind (looked_up_kept at key table limit are)

  by_kept : (at : ℕ) (kind : TableKind) (table limit : ℕ) → GoesByTable image m at kind table limit → GoesByTable image m' at kind table limit
  by_kept at kind table limit by = record { is_pchl = by.is_pchl; undeclared = by.undeclared; begun = begun_kept at kind table limit by.begun }

  pub target_kept : (target : ℕ) → IsTableTarget image m target → IsTableTarget image m' target
  target_kept target is = record {
    at = is.at;
    kind = is.kind;
    table = is.table;
    limit = is.limit;
    by = by_kept is.at is.kind is.table is.limit is.by;
    number = is.number;
    inside = is.inside;
    entries = is.entries;
    goal = is.goal;
  }

  root_kept : (entries : List ℕ) (root : ℕ) → IsRoot image entries m root → IsRoot image entries m' root
  root_kept entries root (inl is) = inl is
  root_kept entries root (inr is) = inr (target_kept root is)

  pub roots_kept : (entries roots : List ℕ) → All (IsRoot image entries m) roots → All (IsRoot image entries m') roots
  roots_kept entries roots all = λ k d inside. root_kept entries (get_or roots k d) (all k d inside)

  rest_kept : (rest : EntryRun) → IsRest image m rest → IsRest image m' rest
  rest_kept rest is = record {
    at = is.at;
    table = is.table;
    limit = is.limit;
    by = by_kept is.at rest.kind is.table is.limit is.by;
    number = is.number;
    first = is.first;
    left = is.left;
    passed = is.passed;
  }

  pub rests_kept : (rests : List EntryRun) → AreRests image m rests → AreRests image m' rests
  rests_kept rests all = λ k d inside. rest_kept (get_or rests k d) (all k d inside)
