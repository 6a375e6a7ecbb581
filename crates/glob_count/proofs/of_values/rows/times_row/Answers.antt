use Rattle.std.proofs.Common.{sym, ap, ◌∙◌, rules}
use Rattle.mz_operations.specs.Arguments.{arguments}
use Rattle.glob_order.specs.Views.{listed}
use Rattle.glob_count.proofs.Counted.{times_are}
use Rattle.glob_count.proofs.of_values.rows.times_row.Goals as goal

pub returns : goal.returns
returns c =
    times_are c.args.relation (arguments c.args.args.now) c.in-Some.n c.in-Some-2.xs.items c.in-Some-int_at.v c.relates.result (sym c.int_at.ensures ∙ c.in-Some.is) (sym c.in_ok-xs.ensures ∙ ap listed c.in-Some-2.is) (sym c.int_at-2.ensures ∙ c.in-Some-int_at.is) (search rules)
