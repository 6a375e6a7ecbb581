use Rattle.std.proofs.Common.{◌∙◌, sym, length}
use Rattle.std.specs.Prelude.{slice_get}
use Rattle.mz_symbol.proofs.ConstantLaws.{out_value, out_state}
use Rattle.mz_symbol_rows.proofs.RowLaws.{out_both}
use Rattle.mz_symbol_arrays.specs.LineValues.{count_of}
use Rattle.mz_eval_branches.proofs.LineLaws.{goes_chosen, goes_chosen_alone}
use Rattle.mz_eval_branches.proofs.lines.one_line.Goals as goal

pub push_line-requires : goal.push_line-requires
push_line-requires c = c.in_ok-one.ensures.whole

pub returns-in_err-one-clause-goes : goal.returns-in_err-one-clause-goes
returns-in_err-one-clause-goes c = goes_chosen_alone (count_of (slice_get c.args.run.now.lines c.args.p)) c.args.count c.args.run.now c.choose_elements.new.run (sym c.in_ok-found.ensures.count ∙ c.in_ok-are_so_many.ensures) c.choose_elements.ensures.goes

pub returns-in_err-line-clause-goes : goal.returns-in_err-line-clause-goes
returns-in_err-line-clause-goes c = goes_chosen (count_of (slice_get c.args.run.now.lines c.args.p)) c.args.count (length c.in_ok-one.one.items.items) c.args.run.now c.choose_elements.new.run c.push_line.new.self (sym c.in_ok-found.ensures.count ∙ c.in_ok-are_so_many.ensures) c.in_ok-one.ensures.count c.choose_elements.ensures.goes c.push_line.ensures.goes

pub returns-clause-goes : goal.returns-clause-goes
returns-clause-goes c = goes_chosen (count_of (slice_get c.args.run.now.lines c.args.p)) c.args.count (length c.in_ok-one.one.items.items) c.args.run.now c.choose_elements.new.run c.push_line.new.self (sym c.in_ok-found.ensures.count ∙ c.in_ok-are_so_many.ensures) c.in_ok-one.ensures.count c.choose_elements.ensures.goes c.push_line.ensures.goes

pub returns-clause-means : goal.returns-clause-means
returns-clause-means c r h =
    let e = c.in_ok-line.ensures.means r h in
    let f = c.in_ok-one.ensures.means r (c.in_ok-line.ensures.goes.back r h) in
    out_both (out_value f ∙ out_value e) (out_state f ∙ out_state e)
