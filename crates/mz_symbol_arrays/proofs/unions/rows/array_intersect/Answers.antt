use Rattle.std.proofs.Common.{◌∙◌, sym, ap}
use Rattle.mz_symbol.specs.Readings.{symbol_seen}
use Rattle.mz_symbol.proofs.ConstantLaws.{out_value, out_state}
use Rattle.mz_symbol_rows.proofs.RowLaws.{out_both}
use Rattle.mz_symbol_arrays.proofs.UnionLaws.{common_held, none_held}
use Rattle.mz_symbol_arrays.proofs.unions.rows.array_intersect.Goals as goal

pub returns-then-not-has_some-clause-means : goal.returns-then-not-has_some-clause-means
returns-then-not-has_some-clause-means c ix r h =
    let w = c.in-Ok.ensures.lost r h in
    out_both (none_held r c.args.run.now c.nothing.new.run ix c.args.line c.in_ok-found.found.0 c.in_ok-found.found.1 c.in-Ok.none (c.has_some.ensures.none c.if-not-has_some.true) c.in_ok-found.ensures.line (c.in-Ok.ensures.goes.back r h) w) w.same

pub returns-clause-means : goal.returns-clause-means
returns-clause-means c ix r h =
    let e = c.in_ok-term.ensures.means r h in
    let b2 = c.in_ok-term.ensures.goes.back r h in
    let f = c.in-Ok-folded.ensures.folds r b2 in
    let b1 = c.in-Ok-folded.ensures.goes.back r b2 in
    out_both (common_held r c.args.run.now c.args.run.now c.folded.new.run ix c.args.line c.in_ok-found.found.0 c.in_ok-found.found.1 c.in_ok-first.first c.in-Ok-folded.all c.in_ok-term.term c.in-Some.item (record {
      line = c.in_ok-found.ensures.line;
      some = c.has_some.ensures.some c.if-not-has_some.false;
      reads = b1;
      element = c.in-Some.ensures;
      set = c.in_ok-first.ensures;
      folds = f;
      term = out_value e;
    }) ∙ ap (symbol_seen r) (sym c.whole.ensures)) (f.same ∙ out_state e)
