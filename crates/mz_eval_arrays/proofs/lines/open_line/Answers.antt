use Rattle.std.proofs.Common.{◌∙◌, ap, sym}
use Rattle.mz_symbol.proofs.ConstantLaws.{out_value, out_state}
use Rattle.mz_symbol_rows.proofs.RowLaws.{out_both}
use Rattle.mz_eval_cells.specs.Views.{all_seen, seen}
use Rattle.mz_eval_arrays.proofs.Seeing.{from_one, line_open, mapped_length, pars_same}
use Rattle.mz_eval_arrays.proofs.lines.open_line.Goals as goal

pub returns-clause-means : goal.returns-clause-means
returns-clause-means c r h =
    let e = c.in_ok-k.ensures.means r h in
    out_both
    (
    line_open r.mode (all_seen r c.args.all.now) c.in_ok-ranges.ranges.items (pars_same r c.args.all.now ∙ c.requires) (c.in_ok-ranges.ensures ∙ ap from_one (sym (mapped_length (seen r) c.args.all.now)))
    ∙ out_value e
    )
    (out_state e)
