use Rattle.std.proofs.Common.{◌≡◌, arith, rules, refl}
use Rattle.std.specs.Prelude.{Some, None}
use Rattle.mz_eval_cells.specs.Views.{cell_of}
use Rattle.mz_eval_access.specs.Places.{cell_index}
use Rattle.mz_eval_access.proofs.Indices.{none_before, stops, goes, ends, of_known}
use Rattle.mz_eval_access.proofs.indexing.indices_of.Goals as goal

pub loop-k-init : goal.loop-k-init
loop-k-init c = rw c.new-all.ensures.items (none_before (of_known c.args.at.now))

pub returns-in_default : goal.returns-in_default
returns-in_default c =
    let lacks : cell_index (cell_of c.k-item.result) ≡ None = search rules in
    stops c.args.at.now c.loop-k.k-index c.k-item.result c.loop-k.all.items _ _ (omega arith) c.k-item.is lacks refl c.loop-k.invariant

pub loop-k-preserved : goal.loop-k-preserved
loop-k-preserved c =
    let is : cell_index (cell_of c.k-item.result) ≡ Some c.in-Some.n = search rules in
    goes c.args.at.now c.loop-k.k-index c.k-item.result c.loop-k.all.items _ _ c.in-Some.n (omega arith) c.k-item.is is (search rules) c.loop-k.invariant

pub returns : goal.returns
returns c = ends c.args.at.now c.loop-k.k-index c.loop-k.all.items _ (omega arith) c.loop-k.invariant
