use Rattle.std.proofs.Common.{rules, arith, sym, ◌∙◌}
use Rattle.mz_tree.specs.Views.{declaration}
use Rattle.mz_parser.proofs.Lists.{more_prefix, last_prefix, prefix_alone, param_more, param_last, no_param}
use Rattle.mz_parser.proofs.parameters.param_list.Goals as goal

-- the parameter that was read is the last one
pub returns-then-not-branch : goal.returns-then-not-branch
returns-then-not-branch c = record {
  reads = sym c.loop-alloc.invariant.reads
      ∙ last_prefix declaration _ _ c.in_ok-d.d _ _ c.in_ok-push.ensures.items
      (param_last _ _ _ _ _ _ _ _ c.tok.ensures c.is_sym.ensures c.loop-alloc-test.true c.in_ok-d.ensures.reads c.in_ok-separator.ensures.reads c.if-not-branch.true);
  room = search rules;
  end = search rules;
  shorter = search rules;
}

pub loop-alloc-preserved : goal.loop-alloc-preserved
loop-alloc-preserved c = record {
  reads = more_prefix declaration _ _ c.in_ok-d.d _ _ c.in_ok-push.ensures.items
      (param_more _ _ _ _ _ _ _ _ _ (c.separator.ensures.room ∙ c.in_ok-d.ensures.room) c.tok.ensures c.is_sym.ensures c.loop-alloc-test.true c.in_ok-d.ensures.reads c.in_ok-separator.ensures.reads c.if-not-branch.false)
      ∙ c.loop-alloc.invariant.reads;
  room = c.separator.ensures.room ∙ c.in_ok-d.ensures.room ∙ c.loop-alloc.invariant.room;
  end = c.separator.ensures.end ∙ c.param.ensures.end ∙ c.loop-alloc.invariant.end;
  shorter = omega (arith, c.in_ok-separator.ensures.shorter, c.in_ok-d.ensures.shorter);
}

-- no parameter follows a comma, or none at all
pub returns : goal.returns
returns c = record {
  reads = sym c.loop-alloc.invariant.reads ∙ prefix_alone _ _ _ (no_param _ _ _ _ _ c.tok.ensures c.is_sym.ensures c.loop-alloc-test.false c.skip.ensures.rest);
  room = search rules;
  end = search rules;
  shorter = search rules;
}
