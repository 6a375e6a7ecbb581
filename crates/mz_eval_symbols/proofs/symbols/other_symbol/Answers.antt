use Rattle.std.proofs.Common.{◌∙◌}
use Rattle.mz_eval_cells.specs.Views.{var_content}
use Rattle.mz_symbol.proofs.ConstantLaws.{out_value, out_state}
use Rattle.mz_symbol_rows.proofs.RowLaws.{out_both}
use Rattle.mz_eval_symbols.proofs.Arrays.{held_twice}
use Rattle.mz_eval_symbols.proofs.symbols.other_symbol.Goals as goal

pub returns-clause-means : goal.returns-clause-means
returns-clause-means c r h =
    let e = c.in_ok-s.ensures.means r h in
    out_both (held_twice r.mode (var_content r.term c.args.v.now) ∙ out_value e) (out_state e)
