use Rattle.std.proofs.Common.{◌∙◌}
use Rattle.mz_core.specs.Types.{plain_type}
use Rattle.mz_arena.specs.Values.{is_true}
use Rattle.mz_eval_comprehensions.proofs.GuardLaws.{always_kept}
use Rattle.mz_eval_comprehensions.proofs.drawn.guarding.open_guarded.Goals as goal

pub returns-then-always-clause-cell : goal.returns-then-always-clause-cell
returns-then-always-clause-cell c = record {
  same = c.in_ok-always.ensures.always.same;
  is = λ r h. c.in_ok-x.ensures.seen r ∙ always_kept r (plain_type c.args.t.now) c.args.k (is_true (r.term c.args.d)) (c.in_ok-always.ensures.always.yes c.if-always.true r h);
}
