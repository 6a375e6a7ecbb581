use Rattle.std.proofs.Common.{◌∙◌, map}
use Rattle.mz_value.specs.Contents.{content}
use Rattle.mz_symbol.proofs.ConstantLaws.{out_value, out_state}
use Rattle.mz_symbol_rows.proofs.RowLaws.{out_both}
use Rattle.mz_eval_symbols.proofs.Arrays.{items_cast}
use Rattle.mz_eval_symbols.proofs.lines.values_as.Goals as goal

pub returns-clause-means : goal.returns-clause-means
returns-clause-means c r h =
    let e = c.in_ok-line.ensures.means r h in
    out_both (items_cast c.args.cast (map content c.args.items.now) ∙ out_value e) (out_state e)
