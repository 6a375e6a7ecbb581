use Rattle.std.proofs.Common.{subst, sym}
use Rattle.mz_operations.specs.declared.row.Row.{Row}
use Rattle.mz_operations.specs.Arguments.{arguments}
use Rattle.mz_operations.specs.Answers.{limited}
use Rattle.mz_operations.specs.Values.{value}
use Rattle.mz_builtin_apply.specs.Applied.{Answers}
use Rattle.mz_builtin_apply.proofs.Limited.{no_show, no_show_array}
use Rattle.mz_builtin_apply.proofs.applied.given.Goals as goal

pub unreachable-requires : goal.unreachable-requires
unreachable-requires c = no_show c.args.row c.in-Show.is c.requires

pub unreachable-requires-in-ShowArray : goal.unreachable-requires-in-ShowArray
unreachable-requires-in-ShowArray c = no_show_array c.args.row c.in-ShowArray.is c.requires

pub returns-in-Made : goal.returns-in-Made
returns-in-Made c = λ names. subst (λ (row : Row). Answers c.made_row.result c.args.at (limited (value names row (arguments c.args.args.now)))) (sym c.in-Made.is) (c.made_row.ensures names)

pub returns-in-Bounding : goal.returns-in-Bounding
returns-in-Bounding c = λ names. subst (λ (row : Row). Answers c.bounding_row.result c.args.at (limited (value names row (arguments c.args.args.now)))) (sym c.in-Bounding.is) (c.bounding_row.ensures names)
