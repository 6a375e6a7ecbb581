use Rattle.mz_symbol_rows.proofs.RowLaws.{out_both}
use Rattle.mz_symbol_access.proofs.ChooseLaws.{chosen_held}
use Rattle.mz_symbol_access.proofs.single.choose.Goals as goal

pub returns-clause-means : goal.returns-clause-means
returns-clause-means c r h =
    let w = c.in-Ok.ensures.picks r h in
    out_both (chosen_held r c.args.run.now c.picked.new.run c.args.cond c.args.p c.args.q c.in-Ok.picked w) w.same
