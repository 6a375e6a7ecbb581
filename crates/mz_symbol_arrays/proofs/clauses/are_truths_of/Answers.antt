use Rattle.std.proofs.Common.{◌∙◌, option_map, sym, ap}
use Rattle.std.specs.List.{list_all}
use Rattle.mz_symbol_arrays.specs.StepsClauses.{is_truth}
use Rattle.mz_symbol_arrays.proofs.clauses.are_truths_of.Goals as goal

pub returns : goal.returns
returns c = record {
  line = c.in-Some.l.now;
  stands = sym c.line.ensures.line ∙ ap (option_map (λ l. l.now)) c.in-Some.is;
  truths = ap (list_all is_truth) (sym c.deref.ensures.value) ∙ sym c.are_truths.ensures ∙ c.if-not-are_truths.false;
}
