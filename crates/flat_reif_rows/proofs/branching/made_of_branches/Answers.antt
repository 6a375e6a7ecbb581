use Rattle.fz_program.specs.Arguments.{plain}
use Rattle.flat_reif_rows.proofs.ConstantBranches.{constant_branch}
use Rattle.flat_reif_rows.proofs.branching.made_of_branches.Goals as goal

pub returns-in-Some : goal.returns-in-Some
returns-in-Some c = record { makes = constant_branch c.args.build.now c.args.name (plain c.args.c) (plain c.args.y) (plain c.args.z) c.requires c.in-Some.b (plain c.chosen.result) c.in-Some.ensures c.chosen.ensures }
