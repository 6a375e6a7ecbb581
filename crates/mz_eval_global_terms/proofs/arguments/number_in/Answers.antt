use Rattle.mz_eval_global_terms.proofs.ArgumentLaws.{number_given}
use Rattle.mz_eval_global_terms.proofs.arguments.number_in.Goals as goal

pub returns-clause-number : goal.returns-clause-number
returns-clause-number c = record {
  given = λ r h. number_given r c.args.k.now _ _ c.in_ok-id.ensures (c.in_ok-s.ensures.symbol.given r h);
  same = c.in_ok-s.ensures.symbol.same;
}
