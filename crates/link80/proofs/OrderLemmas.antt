-- The causes in their order.
use Rattle.std.specs.Prelude.{◌≡◌, Bool, if◌then◌else◌, Option, Some, None, List}
use Rattle.std.specs.List.{list_any, enumerate_from}
use Rattle.std.specs.Option.{option_or}
use Rattle.std.proofs.Common.{◌∙◌, ap, sym}
use Rattle.omf_model.specs.Modules.{ModuleValue}
use Rattle.link80.specs.declared.fault.LinkFault.{LinkFault}
use Rattle.link80.specs.declared.fault.LinkFault.TheVariants.{HighNotPaged}
use Rattle.link80.specs.LinkFault.{duplicate_public, segment_too_long, two_mains, is_high_off_page, high_not_paged, too_many_commons, too_many_externals, link_fault}

-- what comes after causes that don't hold
pub from_second : (modules : List ModuleValue) → duplicate_public modules ≡ None →
    link_fault modules ≡ option_or (segment_too_long modules)
    (option_or (two_mains modules)
    (option_or (high_not_paged modules) (option_or (too_many_commons modules) (too_many_externals modules))))
from_second modules once =
    ap (λ o. option_or o (option_or (segment_too_long modules)
    (option_or (two_mains modules)
    (option_or (high_not_paged modules) (option_or (too_many_commons modules) (too_many_externals modules)))))) once

pub from_third : (modules : List ModuleValue) → duplicate_public modules ≡ None → segment_too_long modules ≡ None →
    link_fault modules ≡ option_or (two_mains modules)
    (option_or (high_not_paged modules) (option_or (too_many_commons modules) (too_many_externals modules)))
from_third modules once fit =
    from_second modules once
    ∙ ap (λ o. option_or o (option_or (two_mains modules)
    (option_or (high_not_paged modules) (option_or (too_many_commons modules) (too_many_externals modules))))) fit

pub from_fourth : (modules : List ModuleValue) → duplicate_public modules ≡ None → segment_too_long modules ≡ None
    → two_mains modules ≡ None →
    link_fault modules ≡ option_or (high_not_paged modules) (option_or (too_many_commons modules) (too_many_externals modules))
from_fourth modules once fit one = from_third modules once fit
    ∙ ap (λ o. option_or o (option_or (high_not_paged modules)
    (option_or (too_many_commons modules) (too_many_externals modules)))) one

pub from_fifth : (modules : List ModuleValue) → duplicate_public modules ≡ None → segment_too_long modules ≡ None
    → two_mains modules ≡ None → high_not_paged modules ≡ None →
    link_fault modules ≡ option_or (too_many_commons modules) (too_many_externals modules)
from_fifth modules once fit one paged = from_fourth modules once fit one
    ∙ ap (λ o. option_or o (option_or (too_many_commons modules) (too_many_externals modules))) paged

pub from_sixth : (modules : List ModuleValue) → duplicate_public modules ≡ None → segment_too_long modules ≡ None
    → two_mains modules ≡ None → high_not_paged modules ≡ None → too_many_commons modules ≡ None →
    link_fault modules ≡ too_many_externals modules
from_sixth modules once fit one paged few = from_fifth modules once fit one paged
    ∙ ap (λ o. option_or o (too_many_externals modules)) few

-- high bytes, by the test of the code
pub high_by : (modules : List ModuleValue) (off : Bool)
    → off ≡ list_any (λ m. list_any (λ c. list_any (is_high_off_page modules m.0) c.fixups) m.1.contents)
    (enumerate_from 0 modules) →
    high_not_paged modules ≡ (if off then Some HighNotPaged else None)
high_by modules off is = ap (λ b. if◌then◌else◌ {A = Option LinkFault} b (Some HighNotPaged) None) (sym is)

-- ---- each cause, where those before it don't hold

or_first : (first : Option LinkFault) (rest : Option LinkFault) (fault : LinkFault) → first ≡ Some fault
    → option_or first rest ≡ Some fault
or_first first rest fault is = ap (λ o. option_or o rest) is

pub mains_first : (modules : List ModuleValue) (fault : LinkFault) → duplicate_public modules ≡ None
    → segment_too_long modules ≡ None → two_mains modules ≡ Some fault → link_fault modules ≡ Some fault
mains_first modules fault once fit is = from_third modules once fit ∙ or_first (two_mains modules) _ fault is

pub high_first : (modules : List ModuleValue) (fault : LinkFault) → duplicate_public modules ≡ None
    → segment_too_long modules ≡ None → two_mains modules ≡ None → high_not_paged modules ≡ Some fault
    → link_fault modules ≡ Some fault
high_first modules fault once fit one is = from_fourth modules once fit one ∙ or_first (high_not_paged modules) _ fault is

pub commons_first : (modules : List ModuleValue) (fault : LinkFault) → duplicate_public modules ≡ None
    → segment_too_long modules ≡ None → two_mains modules ≡ None → high_not_paged modules ≡ None →
    too_many_commons modules ≡ Some fault → link_fault modules ≡ Some fault
commons_first modules fault once fit one paged is = from_fifth modules once fit one paged
    ∙ or_first (too_many_commons modules) _ fault is
