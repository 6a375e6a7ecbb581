use Rattle.std.proofs.Common.{◌∙◌, option_map, sym, ap}
use Rattle.mz_eval_symbols.proofs.LineLaws.{line_with}
use Rattle.mz_eval_symbols.proofs.lines.line_items.Goals as goal

pub returns-clause-line : goal.returns-clause-line
returns-clause-line c = line_with c.args.run.now c.args.line c.in-Some.l.now c.in_ok-items.items.items (sym c.line.ensures.line ∙ ap (option_map (λ l. l.now)) c.in-Some.is) c.in_ok-items.ensures c.line.ensures.sound
