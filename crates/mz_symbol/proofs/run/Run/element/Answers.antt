use Rattle.std.proofs.Common.{◌∙◌, sym, ap, slice_get}
use Rattle.mz_symbol.proofs.LineLaws.{element_read}
use Rattle.mz_symbol.proofs.run.Run.element.Goals as goal

pub returns-in-Some-item : goal.returns-in-Some-item
returns-in-Some-item c = element_read c.args.self.now c.args.line c.args.place c.in-Some.l.now c.in-Some-item.s c.in-Some.ensures.sound (sym c.in-Some.ensures.line) (ap (λ ss. slice_get ss c.args.place) (sym c.deref.ensures.value) ∙ sym c.in-Some-item.ensures)
