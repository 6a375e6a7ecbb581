use Rattle.std.proofs.Common.{◌∙◌, option_map, sym, ap, arith}
use Rattle.mz_symbol_arrays.proofs.LineLaws.{line_of}
use Rattle.mz_symbol_arrays.proofs.lines.walk.defined.Goals as goal

pub returns-in-Some-clause-line : goal.returns-in-Some-clause-line
returns-in-Some-clause-line c = line_of c.args.run.now c.args.line c.in-Some.l.now c.len.result (sym c.line.ensures.line ∙ ap (option_map (λ l. l.now)) c.in-Some.is) (omega (arith, c.len.ensures, c.in-Some.l.now.items.ok.0)) c.line.ensures.sound
