use Rattle.std.proofs.Common.{◌∙◌, ap, sym}
use Rattle.mz_meaning.specs.Cells.{is_true, value_of}
use Rattle.mz_eval_branches.proofs.NoValues.{not_true}
use Rattle.mz_eval_branches.proofs.conditions.settled.Goals as goal

pub returns-then-has_no_value : goal.returns-then-has_no_value
returns-then-has_no_value c r = ap (λ k. is_true (value_of k)) (c.one.ensures.seen r) ∙ sym (not_true r c.args.k.now (sym c.has_no_value.ensures ∙ c.if-has_no_value.true))
