use Rattle.std.proofs.Common.{length, sym, ap, ◌∙◌}
use Rattle.mz_arena.specs.Numbering.{local_ids}
use Rattle.mz_arena.proofs.Put.{no_choices}
use Rattle.mz_arena.proofs.Placing.{empty_listed}
use Rattle.mz_arena.proofs.Pushed.{sound_empty, entries_empty}
use Rattle.mz_arena.proofs.arena.Arena.new.Goals as goal

pub invariant_of-result : goal.invariant_of-result
invariant_of-result c = record {
  table = sound_empty c.new-2.result.items c.new.result.items c.new-2.ensures.items c.new.ensures.items;
  lists = empty_listed _ c.new.ensures.items c.new-3.ensures c.new-4.ensures;
  count = sym (ap (λ es. length (local_ids es)) (entries_empty c.new-2.result.items c.new.result.items c.new.ensures.items) ∙ no_choices);
}

pub returns : goal.returns
returns c = entries_empty c.new-2.result.items c.new.result.items c.new.ensures.items
