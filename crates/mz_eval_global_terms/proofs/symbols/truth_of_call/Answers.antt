use Rattle.std.proofs.Common.{map, sym}
use Rattle.mz_core.specs.declared.types.Base.TheVariants as base
use Rattle.mz_meaning.specs.Cells.{value_of}
use Rattle.mz_symbol.specs.Symbols.{value_by}
use Rattle.mz_symbol_rows.proofs.RowLaws.{out_both}
use Rattle.mz_eval_cells.specs.Views.{all_seen}
use Rattle.mz_eval_global_terms.proofs.CallLaws.{truth_called}
use Rattle.mz_eval_global_terms.proofs.symbols.truth_of_call.Goals as goal

pub returns-clause-means : goal.returns-clause-means
returns-clause-means c r h =
    let is = c.in_ok-term.ensures.call in
    out_both (sym (truth_called r.mode c.args.g (value_by base.Bool (r.term c.in_ok-term.term)) (map value_of (all_seen r c.args.all.now)) c.requires (is.value r h))) (is.same r h)
