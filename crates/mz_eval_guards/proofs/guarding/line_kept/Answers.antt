use Rattle.mz_eval_guards.proofs.RowLaws.{line_kept_is, line_whole}
use Rattle.mz_eval_guards.proofs.guarding.line_kept.Goals as goal

pub push_line-requires : goal.push_line-requires
push_line-requires c = line_whole 6 c.args.line c.args.d c.in_ok-both.both c.in_ok-found.found.0 _ _ c.in_ok-found.found.1.items c.in_ok-found.ensures.items c.in_ok-both.ensures.goes c.in_ok-both.ensures.says

pub returns-clause-line : goal.returns-clause-line
returns-clause-line c = line_kept_is 6 _ c.args.line c.args.d c.in_ok-both.both c.in_ok-found.found.0 c.in-Ok.made _ _ _ c.in_ok-found.found.1.items c.in_ok-found.ensures.items c.in_ok-both.ensures.goes c.in_ok-both.ensures.says c.in-Ok.ensures.goes c.in-Ok.ensures.means
