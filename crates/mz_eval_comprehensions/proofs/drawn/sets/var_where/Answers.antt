use Rattle.std.proofs.Common.{◌∙◌, ap}
use Rattle.mz_arena.specs.Values.{is_true}
use Rattle.mz_meaning.specs.Cells.{Sure, there}
use Rattle.mz_eval_cells.specs.Views.{seen}
use Rattle.mz_eval_guards.specs.Guards.{open_sure}
use Rattle.mz_eval_comprehensions.proofs.SetLaws.{var_counts}
use Rattle.mz_eval_comprehensions.proofs.drawn.sets.var_where.Goals as goal

pub returns-clause-guards : goal.returns-clause-guards
returns-clause-guards c = record {
  same = λ r h.
      let h2 = c.in_ok-all.ensures.goes.back r h in
      let h1 = c.in_ok-id.ensures.goes.back r h2 in
      c.in_ok-g.ensures.guards.same r h1 ∙ c.in_ok-id.ensures.node.same r h2 ∙ c.in_ok-all.ensures.tells.same r h;
  is = λ r h.
      let h2 = c.in_ok-all.ensures.goes.back r h in
      let h1 = c.in_ok-id.ensures.goes.back r h2 in
      var_counts r.mode (is_true (r.term c.args.d)) (is_true (r.term c.in_ok-id.id)) (is_true (r.term c.in_ok-all.all)) (there (seen r c.args.k.now)) (c.in_ok-all.ensures.tells.tells r h)
      (c.in_ok-id.ensures.node.is r h2 ∙ ap (λ (s : Sure). open_sure r.mode s.is) (c.in_ok-g.ensures.guards.is r h1));
}
