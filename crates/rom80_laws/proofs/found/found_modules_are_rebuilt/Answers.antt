use Rattle.rom80_laws.proofs.RebuiltLemmas.{rebuilt_laws, has_the_bytes, located_has, built_has}
use Rattle.rom80_laws.proofs.found.found_modules_are_rebuilt.Goals as goal

pub returns-clause-bytes : goal.returns-clause-bytes
returns-clause-bytes c =
    has_the_bytes (rebuilt_laws c.sound_modules_keep_rules.ensures c.segments_are_laid_out_in_one_way.ensures.laid_out c.segments_are_placed.ensures.placed
    c.segments_are_placed.ensures.places c.segments_are_kept.ensures.kept c.linked_module_keeps_rules.ensures.rules c.linking_keeps_bytes.ensures.chunks c.linking_keeps_bytes.ensures.bytes
    c.no_fault_where_segments_fit.ensures c.link_of_found_modules_has_the_bytes.ensures)

pub returns-clause-located : goal.returns-clause-located
returns-clause-located c =
    let laws = rebuilt_laws c.sound_modules_keep_rules.ensures c.segments_are_laid_out_in_one_way.ensures.laid_out c.segments_are_placed.ensures.placed
    c.segments_are_placed.ensures.places c.segments_are_kept.ensures.kept c.linked_module_keeps_rules.ensures.rules c.linking_keeps_bytes.ensures.chunks c.linking_keeps_bytes.ensures.bytes
    c.no_fault_where_segments_fit.ensures c.link_of_found_modules_has_the_bytes.ensures in
    λ dump options name modules chunks a rebuilt holds code. located_has laws dump options name modules a rebuilt chunks holds code

pub returns-clause-built : goal.returns-clause-built
returns-clause-built c =
    let laws = rebuilt_laws c.sound_modules_keep_rules.ensures c.segments_are_laid_out_in_one_way.ensures.laid_out c.segments_are_placed.ensures.placed
    c.segments_are_placed.ensures.places c.segments_are_kept.ensures.kept c.linked_module_keeps_rules.ensures.rules c.linking_keeps_bytes.ensures.chunks c.linking_keeps_bytes.ensures.bytes
    c.no_fault_where_segments_fit.ensures c.link_of_found_modules_has_the_bytes.ensures in
    λ dump options name modules image a rebuilt holds code. built_has laws dump options name modules a rebuilt image holds code
