use Rattle.std.proofs.Common.{arith, sym, ◌∙◌}
use Rattle.mz_tree.specs.Items.{item}
use Rattle.mz_parser.proofs.Lists.{more_prefix, prefix_alone, item_more, no_item}
use Rattle.mz_parser.proofs.file.all_items.Goals as goal

pub loop-alloc-preserved : goal.loop-alloc-preserved
loop-alloc-preserved c = record {
  reads = more_prefix item _ _ c.in_ok-i.i _ _ c.in_ok-push.ensures.items
      (item_more _ _ _ _ _ _ _ _ (c.in_ok-semicolon.ensures.room ∙ c.in_ok-i.ensures.room) c.tok.ensures c.is_some.ensures c.loop-alloc-test.true c.in_ok-i.ensures.reads c.in_ok-semicolon.ensures.reads)
      ∙ c.loop-alloc.invariant.reads;
  room = c.in_ok-semicolon.ensures.room ∙ c.in_ok-i.ensures.room ∙ c.loop-alloc.invariant.room;
  end = c.semicolon.ensures.end ∙ c.item.ensures.end ∙ c.loop-alloc.invariant.end;
  shorter = omega (arith, c.in_ok-semicolon.ensures.shorter, c.in_ok-i.ensures.shorter);
}

pub returns-clause-reads : goal.returns-clause-reads
returns-clause-reads c = sym c.loop-alloc.invariant.reads ∙ prefix_alone _ _ _ (no_item _ _ _ _ c.tok.ensures c.is_some.ensures c.loop-alloc-test.false)
