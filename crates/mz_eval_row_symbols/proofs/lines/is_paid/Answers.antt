use Rattle.std.proofs.Common.{◌∙◌, ◌^◌, ◌<◌, subst, sym}
use Rattle.mz_eval_row_symbols.proofs.LineLaws.{array_pays}
use Rattle.mz_eval_row_symbols.proofs.lines.is_paid.Goals as goal

pub returns-then-takes_array : goal.returns-then-takes_array
returns-then-takes_array c h =
    array_pays c.args.w c.args.k.now (sym c.takes_array.ensures ∙ c.if-takes_array.true) (subst (λ n. n < 2 ^ 60) c.count_in.ensures (c.is_few.ensures h))
