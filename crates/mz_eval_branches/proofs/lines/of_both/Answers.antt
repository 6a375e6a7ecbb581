use Rattle.std.proofs.Common.{refl}
use Rattle.mz_symbol.proofs.ConstantLaws.{out_value, out_state}
use Rattle.mz_symbol_rows.proofs.RowLaws.{out_both}
use Rattle.mz_eval_symbols.specs.Taken.{line_seen}
use Rattle.mz_eval_branches.proofs.LineLaws.{one_told}
use Rattle.mz_eval_branches.proofs.lines.of_both.Goals as goal

pub returns-clause-means : goal.returns-clause-means
returns-clause-means c r h =
    let e = c.in_ok-line.ensures.means r h in
    let like = c.args.like.now in
    out_both (one_told r like c.args.id c.args.p c.args.q c.in_ok-line.line (line_seen like r c.args.p) (line_seen like r c.args.q) refl refl (out_value e)) (out_state e)
