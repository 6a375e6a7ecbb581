use Rattle.std.proofs.Common.{◌≡◌, arith, rules, refl}
use Rattle.std.specs.Prelude.{Some, None}
use Rattle.mz_operations.specs.RowBounds.{as_ends}
use Rattle.mz_eval_cells.specs.Views.{known_bound}
use Rattle.mz_eval_row_bounds.proofs.Listing.{each_begins, each_stops, each_goes, each_ends}
use Rattle.mz_eval_row_bounds.proofs.arguments.all_ends.Goals as goal

pub loop-b-init : goal.loop-b-init
loop-b-init c = rw c.new-ends.ensures.items (each_begins _)

pub returns-in_default : goal.returns-in_default
returns-in_default c =
    let missing : as_ends (known_bound c.b-item.result) ≡ None = search rules in
    each_stops as_ends known_bound c.args.all.now c.loop-b.b-index c.b-item.result _ _ _ (omega arith) c.b-item.is missing refl c.loop-b.invariant

pub loop-b-preserved : goal.loop-b-preserved
loop-b-preserved c =
    let there : as_ends (known_bound c.b-item.result) ≡ Some c.in-Some.e = search rules in
    each_goes as_ends known_bound c.args.all.now c.loop-b.b-index c.b-item.result _ _ _ c.in-Some.e (omega arith) c.b-item.is there (search rules) c.loop-b.invariant

pub returns : goal.returns
returns c = each_ends as_ends known_bound c.args.all.now c.loop-b.b-index _ _ (omega arith) c.loop-b.invariant
