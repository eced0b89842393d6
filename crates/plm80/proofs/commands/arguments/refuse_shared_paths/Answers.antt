-- in the table of the command the first number is the place of the argument that writes, the second one that of the other argument
use Rattle.std.proofs.Common.{◌≡◌, refl, arith}
use Rattle.plm80.proofs.ApartLemmas.{unless_refused}
use Rattle.plm80.proofs.commands.arguments.refuse_shared_paths.Goals as goal

pub returns-in-Link-clause-apart : goal.returns-in-Link-clause-apart
returns-in-Link-clause-apart g c = rw c.in-Link.is (unless_refused c.refuse_shared_paths.result c.refuse_shared_paths.ensures.apart (λ apart.
    (λ path is. apart 1 _ path refl is 4 _ refl (λ e. let bad : 4 ≡ 1 = e in absurd (omega arith)) refl)))

pub returns-in-Library-clause-apart : goal.returns-in-Library-clause-apart
returns-in-Library-clause-apart g c = rw c.in-Library.is (unless_refused c.refuse_shared_paths-in-Library.result c.refuse_shared_paths-in-Library.ensures.apart (λ apart.
    (λ path is. apart 0 _ path refl is 1 _ refl (λ e. let bad : 1 ≡ 0 = e in absurd (omega arith)) refl)))

pub returns-in-Locate-clause-apart : goal.returns-in-Locate-clause-apart
returns-in-Locate-clause-apart g c = rw c.in-Locate.is (unless_refused c.refuse_shared_paths-in-Locate.result c.refuse_shared_paths-in-Locate.ensures.apart (λ apart. (
  (λ path is. apart 1 _ path refl is 0 _ refl (λ e. let bad : 0 ≡ 1 = e in absurd (omega arith)) refl),
  (
    (λ path is. apart 1 _ path refl is 2 _ refl (λ e. let bad : 2 ≡ 1 = e in absurd (omega arith)) refl),
    (
      (λ path is. apart 2 _ path refl is 0 _ refl (λ e. let bad : 0 ≡ 2 = e in absurd (omega arith)) refl),
      (
        (λ path is. apart 1 _ path refl is 12 _ refl (λ e. let bad : 12 ≡ 1 = e in absurd (omega arith)) refl),
        (λ path is. apart 2 _ path refl is 12 _ refl (λ e. let bad : 12 ≡ 2 = e in absurd (omega arith)) refl),
      ),
    ),
  ),
)))

pub returns-in-Run-clause-apart : goal.returns-in-Run-clause-apart
returns-in-Run-clause-apart g c = rw c.in-Run.is (unless_refused c.refuse_shared_paths-in-Run.result c.refuse_shared_paths-in-Run.ensures.apart (λ apart. (
  (λ path is. apart 6 _ path refl is 0 _ refl (λ e. let bad : 0 ≡ 6 = e in absurd (omega arith)) refl),
  (
    (λ path is. apart 6 _ path refl is 1 _ refl (λ e. let bad : 1 ≡ 6 = e in absurd (omega arith)) refl),
    (λ path is. apart 6 _ path refl is 2 _ refl (λ e. let bad : 2 ≡ 6 = e in absurd (omega arith)) refl),
  ),
)))

pub returns-in-Cases-clause-apart : goal.returns-in-Cases-clause-apart
returns-in-Cases-clause-apart g c = rw c.in-Cases.is (unless_refused c.refuse_shared_paths-in-Cases.result c.refuse_shared_paths-in-Cases.ensures.apart (λ apart.
    (λ path is. apart 2 _ path refl is 0 _ refl (λ e. let bad : 0 ≡ 2 = e in absurd (omega arith)) refl)))

pub returns-in-Extract-clause-apart : goal.returns-in-Extract-clause-apart
returns-in-Extract-clause-apart g c = rw c.in-Extract.is (unless_refused c.refuse_shared_paths-in-Extract.result c.refuse_shared_paths-in-Extract.ensures.apart (λ apart.
    (λ path is. apart 1 _ path refl is 0 _ refl (λ e. let bad : 0 ≡ 1 = e in absurd (omega arith)) refl)))

pub returns-in-Absolute-clause-apart : goal.returns-in-Absolute-clause-apart
returns-in-Absolute-clause-apart g c = rw c.in-Absolute.is (unless_refused c.refuse_shared_paths-in-Absolute.result c.refuse_shared_paths-in-Absolute.ensures.apart (λ apart. (
  (λ path is. apart 1 _ path refl is 0 _ refl (λ e. let bad : 0 ≡ 1 = e in absurd (omega arith)) refl),
  (λ path is. apart 1 _ path refl is 5 _ refl (λ e. let bad : 5 ≡ 1 = e in absurd (omega arith)) refl),
)))

pub returns-in-Report-clause-apart : goal.returns-in-Report-clause-apart
returns-in-Report-clause-apart g c = rw c.in-Report.is (unless_refused c.refuse_shared_paths-in-Report.result c.refuse_shared_paths-in-Report.ensures.apart (λ apart. (
  (λ path is. apart 2 _ path refl is 0 _ refl (λ e. let bad : 0 ≡ 2 = e in absurd (omega arith)) refl),
  (λ path is. apart 2 _ path refl is 1 _ refl (λ e. let bad : 1 ≡ 2 = e in absurd (omega arith)) refl),
)))
