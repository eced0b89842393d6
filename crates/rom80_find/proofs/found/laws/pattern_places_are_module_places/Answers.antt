use Rattle.rom80_find.proofs.found.laws.pattern_places_are_module_places.Goals as goal

pub returns : goal.returns
returns c = λ dump m places sound short some are. record {
  lies = λ address e. let there = are.lies address e in (there.0, (c.patterns_lie_as_modules.ensures dump m address sound short there.0).0 (some, there.1));
  all = λ address lt has. are.all address lt ((c.patterns_lie_as_modules.ensures dump m address sound short lt).1 has).1;
  ascending = are.ascending;
}
