use Rattle.std.proofs.Common.{◌∙◌, ap, rules}
use Rattle.std.proofs.lemmas.Int.{to_z-of_z}
use mir.Syntax.{w64}
use mir.Val.{of_z, to_z}
use Rattle.mz_meaning.specs.Cells.{held}
use Rattle.mz_eval_global_terms.specs.Calls.{with_range}
use Rattle.mz_eval_global_terms.proofs.arguments.truths_in.Goals as goal

pub returns-clause-truths : goal.returns-clause-truths
returns-clause-truths c = record {
  truths = c.in_ok-a.ensures.truths;
  given = λ r h.
      ap (held r.mode) (c.in_ok-a.ensures.value r h
      ∙ ap (λ z. with_range (z, to_z w64 (of_z w64 c.in_ok-x.x.1)) (r.line c.in_ok-line.line)) (to_z-of_z w64 c.in_ok-x.x.0 (search rules))
      ∙ ap (λ z. with_range (c.in_ok-x.x.0, z) (r.line c.in_ok-line.line)) (to_z-of_z w64 c.in_ok-x.x.1 (search rules)))
      ∙ c.in_ok-x.ensures r (r.line c.in_ok-line.line) (c.in_ok-line.ensures.line.given r h);
  size = c.in_ok-has_size.ensures;
  same = c.in_ok-line.ensures.line.same;
}
