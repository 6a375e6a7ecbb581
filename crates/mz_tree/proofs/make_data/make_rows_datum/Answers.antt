use Rattle.std.proofs.Common.{ap, List}
use Rattle.mz_tree.specs.declared.data.Datum.{the_lemmas}
use Rattle.mz_tree.specs.Data.{Value, value, rows, lines}
use Rattle.mz_tree.proofs.Maps.{map_map}
use Rattle.mz_tree.proofs.make_data.make_rows_datum.Goals as goal

pub returns : goal.returns
unfolding value
returns c = simp the_lemmas (ap (λ (ls : List (List Value)). rows (lines ls)) (map_map _ _ c.args.table.items))
