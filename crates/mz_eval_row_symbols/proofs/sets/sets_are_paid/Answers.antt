use Rattle.std.proofs.Common.{◌∙◌, ◌^◌, ◌<◌, subst, sym}
use Rattle.mz_eval_row_symbols.proofs.LineLaws.{sets_pay}
use Rattle.mz_eval_row_symbols.proofs.sets.sets_are_paid.Goals as goal

pub returns-then-takes_sets : goal.returns-then-takes_sets
returns-then-takes_sets c h =
    sets_pay c.args.w c.args.k.now (sym c.takes_sets.ensures ∙ c.if-takes_sets.true) (subst (λ n. n < 2 ^ 60) c.count_in.ensures (c.is_few.ensures h))
