-- What a trail has stands before the address that it leads to.
use Rattle.std.specs.Prelude.{◌≡◌, ◌⊎◌, ℕ, Bool, List, [], ◌∷◌, ◌++◌, All, Contains, IfSome, Option, None, Some}
use Rattle.std.proofs.Common.{inl, inr, subst, ◌∙◌}
use Rattle.std.proofs.lemmas.List.{get_or_default}
use Rattle.std.proofs.lemmas.List.Elements.{All-nil, All-push, Contains-append_left, Contains-push}
use Rattle.image80.specs.Image.{Located}
use Rattle.verify80_cases.specs.declared.table.EntryRun.{EntryRun}
use Rattle.verify80_cases.specs.declared.table.Table.{Table}
use Rattle.verify80_cases.specs.declared.trail.Trail.{Trail}
use Rattle.verify80_cases.specs.Reading.{IsLimitOf, IsRunOf}
use Rattle.verify80_cases.specs.Reading.IsLimitOf.{none as NoneOf, compared as ComparedOf}
use Rattle.verify80_cases.specs.Standing.{GoesOn, StandsBefore}
use Rattle.verify80_cases.specs.Standing.StandsBefore.{last, earlier}
use Rattle.verify80_cases.specs.Suggested.{IsBegun, IsLimit}
use Rattle.verify80_cases.specs.Suggested.IsBegun.{loads}
use Rattle.verify80_cases.specs.Suggested.IsLimit.{none, compared}
use Rattle.verify80_cases.specs.declared.table.TableKind.{TableKind}
use Rattle.verify80_cases.specs.declared.table.TableKind.TheVariants.{Words, Jumps}
use Rattle.verify80_cases.specs.Trails.{AreBefore, ArePassed, IsBefore, IsPassed, cpi_of, lxi_of}

-- the instructions that were passed stand before the place
abbrev pub Stand : Located → (reached : List Bool) → (place : ℕ) → List ℕ → Type 0
Stand image reached place passed = All (λ p. StandsBefore image reached p place) passed

-- a trail at a place, with those that were passed
pub record IsTrail (image : Located) (reached : List Bool) (place : ℕ) (trail : Trail) : Type 0 where
  pub passed : List ℕ
  pub stand : Stand image reached place passed
  pub are : ArePassed passed trail

-- a table of addresses or of JMPs
abbrev IsPlain : TableKind → Type 0
IsPlain kind = (kind ≡ Words) ⊎ (kind ≡ Jumps)

module _ (image : Located) (reached : List Bool) where
  pub no_trail : (place : ℕ) (trail : Trail) → ((passed : List ℕ) → ArePassed passed trail) → IsTrail image reached place trail
  no_trail place trail any = record { passed = []; stand = All-nil (λ p. StandsBefore image reached p place); are = any [] }

  more_passed : (passed : List ℕ) (one : ℕ) (place : Option ℕ) → IsPassed passed place → IsPassed (passed ++ one ∷ []) place
  more_passed passed one None is = is
  more_passed passed one (Some place) is = Contains-append_left passed (one ∷ []) place is

  pub trail_on : (place next : ℕ) (trail after : Trail) → IsTrail image reached place trail → GoesOn image reached place next →
      ((passed : List ℕ) → Contains passed place → ArePassed passed trail → ArePassed passed after) → IsTrail image reached next after
  trail_on place next trail after is goes along =
      let passed = is.passed in
      record {
        passed = passed ++ place ∷ [];
        stand = All-push (λ p. StandsBefore image reached p next) passed place (λ k d inside. earlier place next (is.stand k d inside) goes) (last next goes);
        are = along (passed ++ place ∷ []) (Contains-push passed place)
            (record {
              bc = more_passed passed place trail.bc is.are.bc;
              de = more_passed passed place trail.de is.are.de;
              load = more_passed passed place (lxi_of trail.load) is.are.load;
              bound = more_passed passed place (cpi_of trail.bound) is.are.bound;
            });
      }

  stands : (at : ℕ) (passed : List ℕ) (place : Option ℕ) → Stand image reached at passed → IsPassed passed place → IsBefore image reached at place
  stands at passed None all is = is
  stands at passed (Some place) all is =
      subst (λ p. StandsBefore image reached p at) (get_or_default passed is.0 0 place is.1 ∙ is.2) (all is.0 0 is.1)

  pub trail_before : (at : ℕ) (trail : Trail) → IsTrail image reached at trail → AreBefore image reached at trail
  trail_before at trail is = record {
    load = stands at is.passed (lxi_of trail.load) is.stand is.are.load;
    bound = stands at is.passed (cpi_of trail.bound) is.stand is.are.bound;
  }

  -- the table that a trail leads to
  before_of : (at : ℕ) (o : Option ℕ) (place : ℕ) → o ≡ Some place → IsBefore image reached at o → StandsBefore image reached place at
  before_of at o place is before = subst (IsBefore image reached at) is before

  pub begun_by : (at : ℕ) (trail : Trail) (table : Table) (run : EntryRun) → AreBefore image reached at trail → lxi_of trail.load ≡ Some table.lxi →
      IfSome table.comparison (λ cpi. cpi_of trail.bound ≡ Some cpi) → IsPlain table.kind → IsRunOf image table run → IsBegun image reached at run.kind run.first run.limit
  begun_by at trail table run before lxi comparison plain is = loads (plain_as plain)
      (record {
        lxi = table.lxi;
        before = before_of at (lxi_of trail.load) table.lxi lxi before.load;
        loaded = is.loaded;
        is_limit = limit table.comparison comparison is.is_limit;
      })
    where
      plain_as : IsPlain table.kind → IsPlain run.kind
      plain_as (inl words) = inl (is.kind ∙ words)
      plain_as (inr jumps) = inr (is.kind ∙ jumps)

      limit : (o : Option ℕ) → IfSome o (λ cpi. cpi_of trail.bound ≡ Some cpi) → IsLimitOf image o run.limit → IsLimit image reached at run.limit
      limit o said (NoneOf none_is) = none none_is
      limit o said (ComparedOf cpi is_cpi byte) =
          compared cpi (before_of at (cpi_of trail.bound) cpi (subst (λ x. IfSome x (λ c. cpi_of trail.bound ≡ Some c)) is_cpi said) before.bound) byte

  pub begun_if : (at : ℕ) (trail : Trail) (table : Table) → AreBefore image reached at trail → lxi_of trail.load ≡ Some table.lxi →
      IfSome table.comparison (λ cpi. cpi_of trail.bound ≡ Some cpi) → IsPlain table.kind → (r : Option EntryRun) → IfSome r (IsRunOf image table) →
      IfSome r (λ (run : EntryRun). IsBegun image reached at run.kind run.first run.limit)
  begun_if at trail table before lxi comparison plain None is = tt
  begun_if at trail table before lxi comparison plain (Some run) is = begun_by at trail table run before lxi comparison plain is
