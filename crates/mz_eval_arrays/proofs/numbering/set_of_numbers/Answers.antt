use Rattle.std.proofs.Common.{◌∙◌}
use Rattle.mz_eval_arrays.proofs.Numbered.{if_unions, limit_kept}
use Rattle.mz_eval_arrays.proofs.numbering.set_of_numbers.Goals as goal

pub of-requires : goal.of-requires
of-requires c = limit_kept c.args.ns.now _ (c.deref.ensures.value ∙ c.in_ok-all.ensures)

pub returns : goal.returns
returns c = if_unions c.of.result c.args.ns.now _ (c.deref.ensures.value ∙ c.in_ok-all.ensures) c.of.ensures.members c.of.ensures.canonical
