use Rattle.std.proofs.Common.{◌∙◌, sym}
use Rattle.mz_symbol_arrays.proofs.SureLaws.{set_sure}
use Rattle.mz_symbol_arrays.proofs.sure.is_set.Goals as goal

pub returns-in-Some : goal.returns-in-Some
returns-in-Some c q t r = set_sure c.args.nodes.now c.args.id c.in-Some.n c.in-Some.ensures (sym c.is_sure_set.ensures ∙ q) t r
