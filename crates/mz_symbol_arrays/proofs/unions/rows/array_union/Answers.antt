use Rattle.std.proofs.Common.{◌∙◌, sym, ap}
use Rattle.mz_symbol.specs.Readings.{symbol_seen}
use Rattle.mz_symbol.proofs.ConstantLaws.{out_value, out_state}
use Rattle.mz_symbol_rows.proofs.RowLaws.{out_both}
use Rattle.mz_symbol_arrays.proofs.UnionLaws.{starts_empty, union_held}
use Rattle.mz_symbol_arrays.proofs.unions.rows.array_union.Goals as goal

pub returns-clause-means : goal.returns-clause-means
returns-clause-means c ix r h =
    let e = c.in_ok-term.ensures.means r h in
    let b2 = c.in_ok-term.ensures.goes.back r h in
    let f = c.in-Ok.ensures.folds r b2 in
    let b1 = c.in-Ok.ensures.goes.back r b2 in
    let s = c.in_ok-empty.ensures.means r b1 in
    out_both (union_held r c.args.run.now c.set.new.self c.folded.new.run ix c.args.line c.in_ok-found.found.0 c.in_ok-found.found.1 c.in_ok-first.first c.in-Ok.all c.in_ok-term.term (record {
      line = c.in_ok-found.ensures.line;
      reads = c.in_ok-empty.ensures.goes.back r b1;
      starts = starts_empty r c.in_ok-empty.empty c.in_ok-first.first _ _ _ c.in_ok-none.ensures c.in_ok-first.ensures s;
      folds = f;
      term = out_value e;
    }) ∙ ap (symbol_seen r) (sym c.whole.ensures)) (out_state s ∙ f.same ∙ out_state e)
