use Rattle.std.proofs.Common.{sym, subst}
use Rattle.mz_symbol.specs.Symbols.{AreItems}
use Rattle.mz_symbol.specs.Readings.{state_of}
use Rattle.mz_model_roots.specs.StepsPlaces.{symbols_of}
use Rattle.mz_model_roots.proofs.ArrayCells.{places_there, line_is}
use Rattle.mz_model_roots.proofs.array_cells.lined.Goals as goal

pub kept-requires : goal.kept-requires
kept-requires c t h = subst (λ fs. AreItems t (symbols_of fs)) (sym c.deref.ensures.value) (places_there t c.many_places.new.run.arena c.args.number c.in_ok-places.places.items h c.in_ok-places.ensures.places.nodes)

pub returns-clause-line : goal.returns-clause-line
returns-clause-line c = record {
  value = λ r reads.
      let placed = c.in-Ok-kept.ensures.goes.back r reads in
      line_is r c.in-Ok.yes c.in-Ok-kept.line c.in_ok-places.places.items c.deref.result.now
      (state_of r c.args.run.now) (state_of r c.truth_node.new.self) (state_of r c.many_places.new.run) (state_of r c.kept.new.run)
      c.deref.ensures.value
      (c.in-Ok.ensures.means r (c.many_places.ensures.makes.goes.back r placed))
      (c.in-Ok-kept.ensures.means r reads);
}
