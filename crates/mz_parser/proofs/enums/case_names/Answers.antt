use Rattle.std.proofs.Common.{rules, sym, ◌∙◌}
use Rattle.mz_parser.proofs.Lists.{prefix_alone, no_case}
use Rattle.mz_parser.proofs.enums.case_names.Goals as goal

-- no name follows a comma, or none at all
pub returns : goal.returns
returns c = record {
  reads = sym c.loop-cur.invariant.reads ∙ prefix_alone _ _ _ (no_case _ _ _ _ _ c.tok.ensures c.is_sym.ensures c.loop-cur-test.false c.skip.ensures.rest);
  room = search rules;
  end = search rules;
  shorter = search rules;
}
