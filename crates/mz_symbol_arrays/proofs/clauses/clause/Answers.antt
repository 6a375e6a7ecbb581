use Rattle.std.proofs.Common.{◌∙◌}
use Rattle.mz_core.specs.declared.types.Base.TheVariants as base
use Rattle.mz_symbol.proofs.ConstantLaws.{out_state}
use Rattle.mz_symbol_rows.proofs.RowLaws.{out_both}
use Rattle.mz_symbol_arrays.proofs.ClauseLaws.{clause_held}
use Rattle.mz_symbol_arrays.proofs.clauses.clause.Goals as goal

pub returns-clause-means : goal.returns-clause-means
returns-clause-means c ix jx r h =
    let e = c.in_ok-both.ensures.means r h in
    let b2 = c.in_ok-both.ensures.goes.back r h in
    let t = c.in-Ok-both_defined.ensures.both r b2 in
    let b1 = c.in-Ok-both_defined.ensures.goes.back r b2 in
    let j = c.in-Ok.ensures.joins r b1 in
    out_both (clause_held r c.args.run.now c.either.new.run ix jx c.args.some c.args.others c.in_ok-first.first.0 c.in_ok-second.second.0 c.in_ok-first.first.1 c.in_ok-second.second.1 c.in-Ok.either c.in-Ok-both_defined.there c.in_ok-both.both (record {
      first = c.in_ok-first.ensures.line;
      second = c.in_ok-second.ensures.line;
      reads = c.in-Ok.ensures.goes.back r b1;
      first_truths = c.in_ok-first.ensures.truths;
      second_truths = c.in_ok-second.ensures.truths;
      joins = j;
      there_is = t.is;
      p = _;
      q = _;
      both_is = e;
    })) (j.same ∙ t.same ∙ out_state e)
