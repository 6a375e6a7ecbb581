use Rattle.std.proofs.Common.{◌≡◌, arith, rules, refl}
use Rattle.std.specs.Prelude.{Some, None}
use Rattle.mz_eval_row_bounds.specs.StepsMade.{set_range, index_set_of}
use Rattle.mz_eval_row_bounds.proofs.Listing.{each_begins, each_stops, each_goes, each_ends}
use Rattle.mz_eval_row_bounds.proofs.made.index_ranges.Goals as goal

pub loop-s-init : goal.loop-s-init
loop-s-init c = rw c.new-ranges.ensures.items (each_begins _)

pub returns-in_default : goal.returns-in_default
returns-in_default c =
    let missing : set_range (index_set_of c.s-item.result) ≡ None = search rules in
    each_stops set_range index_set_of c.args.sets.now c.loop-s.s-index c.s-item.result _ _ _ (omega arith) c.s-item.is missing refl c.loop-s.invariant

pub loop-s-preserved : goal.loop-s-preserved
loop-s-preserved c =
    let there : set_range (index_set_of c.s-item.result) ≡ Some c.in-Some.r = search rules in
    each_goes set_range index_set_of c.args.sets.now c.loop-s.s-index c.s-item.result _ _ _ c.in-Some.r (omega arith) c.s-item.is there (search rules) c.loop-s.invariant

pub returns : goal.returns
returns c = each_ends set_range index_set_of c.args.sets.now c.loop-s.s-index _ _ (omega arith) c.loop-s.invariant
