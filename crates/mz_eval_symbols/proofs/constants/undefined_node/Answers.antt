use Rattle.std.proofs.Common.{◌∙◌, sym}
use Rattle.mz_symbol.proofs.ConstantLaws.{out_value, out_state}
use Rattle.mz_symbol_rows.proofs.RowLaws.{out_both}
use Rattle.mz_eval_symbols.proofs.Undefined.{guard_none}
use Rattle.mz_eval_symbols.proofs.constants.undefined_node.Goals as goal

pub returns-clause-means : goal.returns-clause-means
returns-clause-means c r h =
    let e = c.in_ok-id.ensures.means r h in
    let f = c.in_ok-no.ensures.means r (c.in_ok-id.ensures.goes.back r h) in
    out_both (sym (guard_none (r.term c.in_ok-no.no) (r.term c.args.like) (out_value f)) ∙ out_value e) (out_state f ∙ out_state e)
