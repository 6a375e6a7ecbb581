use Rattle.std.proofs.Common.{◌+◌, drop, refl, arith}
use Rattle.std.proofs.lemmas.Grind.{common_steps}
use Rattle.std.proofs.lemmas.List.{drop-drop}
use Rattle.mz_io.proofs.mem_source.MemSourceSource.take.Goals as goal

pub returns-clause-told : goal.returns-clause-told
returns-clause-told c = (
  drop (c.self.inside.at + c.fill-n.result) c.self.inside.bytes.items,
  rw (← drop-drop c.fill-n.result c.self.inside.at c.self.inside.bytes.items) (grind (arith, common_steps, c.fill-n.ensures.gives)),
  refl,
)
