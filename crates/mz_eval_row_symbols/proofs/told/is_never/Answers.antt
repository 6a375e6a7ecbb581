use Rattle.std.proofs.Common.{◌∙◌, sym}
use Rattle.mz_eval_row_symbols.proofs.NeverLaws.{first_missing, second_missing}
use Rattle.mz_eval_row_symbols.proofs.told.is_never.Goals as goal

pub returns-then-is_missing : goal.returns-then-is_missing
returns-then-is_missing c h = first_missing c.args.w c.args.a.now.cell c.args.b.now.cell (sym c.is_strict.ensures ∙ c.if-not-is_strict.false) (c.is_missing.ensures c.if-is_missing.true)

pub returns : goal.returns
returns c h = second_missing c.args.w c.args.a.now.cell c.args.b.now.cell (sym c.is_strict.ensures ∙ c.if-not-is_strict.false) (c.is_missing-2.ensures h)
