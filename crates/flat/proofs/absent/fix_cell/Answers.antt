use Rattle.std.proofs.Common.{subst}
use Rattle.mz_arena.specs.Instances.{model_var, var_cell}
use Rattle.flat.specs.Absent.{IsOptionWhere}
use Rattle.flat.proofs.Absenting.{no_option}
use Rattle.flat.proofs.absent.fix_cell.Goals as goal

pub fix_option-requires-clause-option : goal.fix_option-requires-clause-option
fix_option-requires-clause-option c = subst (λ q. IsOptionWhere c.args.arena.now (model_var c.args.m.now) q (var_cell c.args.c.now)) c.in-Some.is c.requires.option.0

pub returns-in-None : goal.returns-in-None
returns-in-None c = no_option c.args.arena.now (var_cell c.args.c.now) c.args.roots.now.items c.requires.arena c.in-None.is
