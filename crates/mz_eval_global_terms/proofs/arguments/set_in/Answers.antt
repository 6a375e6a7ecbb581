use Rattle.mz_eval_global_terms.proofs.ArgumentLaws.{set_given}
use Rattle.mz_eval_global_terms.proofs.arguments.set_in.Goals as goal

pub returns-clause-set : goal.returns-clause-set
returns-clause-set c = record {
  given = λ r h. set_given r c.args.k.now _ _ c.in_ok-id.ensures (c.in_ok-s.ensures.symbol.given r h);
  same = c.in_ok-s.ensures.symbol.same;
}
