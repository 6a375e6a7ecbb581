use Rattle.std.proofs.Common.{◌∙◌, map, subst, sym}
use Rattle.mz_meaning.specs.Arrays.{accessed}
use Rattle.mz_meaning.specs.Cells.{value_of}
use Rattle.mz_symbol.specs.Runs.{ReadsNodes}
use Rattle.mz_symbol.proofs.ConstantLaws.{out_value, out_state}
use Rattle.mz_symbol_rows.proofs.RowLaws.{out_both}
use Rattle.mz_eval_cells.specs.Views.{all_seen, seen}
use Rattle.mz_eval_elements.proofs.PlaceLaws.{symbol_told}
use Rattle.mz_eval_elements.proofs.elements.indexed.Goals as goal

pub drawn-requires : goal.drawn-requires
drawn-requires c r h = out_value (c.in_ok-line.ensures.means r h)

pub returns-clause-means : goal.returns-clause-means
returns-clause-means c r h =
    let e = c.in_ok-s.ensures.means r h in
    let l = c.in_ok-line.ensures.means r (c.in_ok-s.ensures.goes.back r h) in
    out_both (symbol_told r c.args.base c.args.opt (accessed (value_of (seen r c.args.a.now)) (map value_of (all_seen r c.args.at.now))) c.in_ok-s.s c.in_ok-k.k (out_value e) (c.in_ok-k.ensures.seen r (subst (ReadsNodes r.term) (sym c.arena.ensures.nodes) h.nodes))) (out_state l ∙ out_state e)
