use Rattle.mz_core.specs.Types.{plain_type}
use Rattle.mz_symbol.proofs.ConstantLaws.{out_value, out_state}
use Rattle.mz_symbol_rows.proofs.RowLaws.{out_both}
use Rattle.mz_eval_cells.specs.Views.{known_bound}
use Rattle.mz_eval_elements.proofs.ElementLaws.{open_typed}
use Rattle.mz_eval_elements.proofs.elements.any_element.Goals as goal

pub returns-clause-means : goal.returns-clause-means
returns-clause-means c r h =
    let e = c.in_ok-x.ensures.means r h in
    out_both (open_typed r (plain_type c.args.t.now) c.args.a.now c.args.at.now (known_bound c.in_ok-bound.bound) c.base_of-base.result c.is_option-opt.result c.in_ok-x.x c.requires.some_var c.requires.scalar c.in_ok-bound.ensures c.base_of-base.ensures c.is_option-opt.ensures (out_value e) c.in_ok-x.ensures.of) (out_state e)
