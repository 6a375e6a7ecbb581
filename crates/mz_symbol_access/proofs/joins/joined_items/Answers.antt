use Rattle.std.proofs.Common.{◌∙◌, ◌++◌, ap}
use Rattle.mz_symbol_access.proofs.joins.joined_items.Goals as goal

pub returns : goal.returns
returns c = record {
  first = c.in_ok-first.first.items;
  second = c.in_ok-second.second.items;
  of_first = c.in_ok-first.ensures;
  of_second = c.in_ok-second.ensures;
  all = c.in_ok-all.ensures ∙ ap (λ xs. c.in_ok-first.first.items ++ xs) c.deref.ensures.value;
}
