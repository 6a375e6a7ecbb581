use Rattle.std.proofs.Common.{◌∙◌, option_map, sym, ap}
use Rattle.mz_symbol_access.proofs.LineLaws.{has_items}
use Rattle.mz_symbol_access.proofs.lines.elements_of.Goals as goal

pub returns : goal.returns
returns c = has_items c.args.run.now c.args.line c.in-Some.l.now _ (sym c.line.ensures.line ∙ ap (option_map (λ l. l.now)) c.in-Some.is) (c.in_ok-items.ensures.items ∙ c.deref.ensures.value) c.line.ensures.sound
