use Rattle.std.proofs.Common.{◌∙◌, ap, refl, sym}
use Rattle.mz_value.specs.Contents.{content}
use Rattle.mz_meaning.specs.Cells.{held}
use Rattle.mz_eval_symbols.specs.Steps.{item_cast}
use Rattle.mz_eval_symbols.proofs.ConstantLaws.{item_told}
use Rattle.mz_eval_elements.proofs.cells.item_cell.Goals as goal

pub returns-clause-seen : goal.returns-clause-seen
returns-clause-seen c r = c.in_ok-k.ensures.seen r ∙ ap (held r.mode) (item_told c.args.cast c.in_ok-i.i (content c.args.v.now) (item_cast c.args.cast (content c.args.v.now)) (sym c.in_ok-i.ensures) refl)
