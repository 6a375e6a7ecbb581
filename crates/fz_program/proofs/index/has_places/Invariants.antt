use Rattle.std.proofs.Common.{◌≡◌, length, true}
use Rattle.std.specs.List.{list_all}
use Rattle.fz_program.specs.Flat.{place_count, is_index_range}
use Rattle.fz_program.proofs.index.has_places.Given as goal

abbrev pub invariant-loop-rest : goal.invariant-loop-rest
invariant-loop-rest l = record {
  ranges : list_all is_index_range l.rest ≡ true;
  to : place_count l.rest ≡ l.left → place_count l.ranges ≡ l.count;
  from : place_count l.ranges ≡ l.count → place_count l.rest ≡ l.left;
}

abbrev pub decreases-loop-rest : goal.decreases-loop-rest
decreases-loop-rest l = length l.rest
