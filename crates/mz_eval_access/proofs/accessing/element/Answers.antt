use Rattle.std.proofs.Common.{◌∙◌, sym, ap, arith}
use Rattle.mz_meaning.specs.Cells.{Par}
use Rattle.mz_eval_access.proofs.Places.{element_is}
use Rattle.mz_eval_access.proofs.accessing.element.Goals as goal

pub returns : goal.returns
returns c = c.in_ok-k.ensures ∙ ap Par (sym (element_is c.args.index.now c.args.items.now c.args.at.now c.in_ok-place.place (omega arith) c.in_ok-place.ensures))
