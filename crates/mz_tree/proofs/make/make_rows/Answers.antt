use Rattle.std.proofs.Common.{ap, List}
use Rattle.mz_tree.specs.declared.expr.Expr.{the_lemmas}
use Rattle.mz_tree.specs.Tree.{Tree, node, rows, rows_of}
use Rattle.mz_tree.specs.Views.{tree}
use Rattle.mz_tree.proofs.Maps.{map_map}
use Rattle.mz_tree.proofs.make.make_rows.Goals as goal

pub returns : goal.returns
unfolding tree
returns c = simp the_lemmas (ap (λ (ls : List (List Tree)). node c.args.span (rows (rows_of ls))) (map_map _ _ c.args.lines.items))
