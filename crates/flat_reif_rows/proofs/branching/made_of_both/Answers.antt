use Rattle.fz_program.specs.Arguments.{plain}
use Rattle.flat_reif_rows.proofs.ConstantBranches.{same_branches}
use Rattle.flat_reif_rows.proofs.branching.made_of_both.Goals as goal

pub returns-then-are_one : goal.returns-then-are_one
returns-then-are_one c = record { makes = same_branches c.args.build.now c.args.name (plain c.args.c) (plain c.args.y) (plain c.args.z) c.requires (c.are_one.ensures c.if-are_one.true) }
