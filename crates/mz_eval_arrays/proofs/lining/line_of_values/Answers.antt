use Rattle.std.proofs.Common.{◌∙◌, ap, arith}
use Rattle.mz_meaning.specs.Cells.{par_value}
use Rattle.mz_eval_arrays.proofs.ValueLists.{line_made}
use Rattle.mz_eval_arrays.proofs.lining.line_of_values.Goals as goal

pub returns : goal.returns
returns c = c.in_ok-k.ensures.of ∙ ap par_value (line_made c.args.items.items c.in_ok-index.index.items c.len.result c.in_ok-index.ensures (omega (arith, c.len.ensures, c.args.items.ok.0)))
