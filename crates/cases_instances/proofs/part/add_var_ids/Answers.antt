use Rattle.std.proofs.Common.{◌≤◌, length, subst}
use Rattle.mz_arena.specs.Instances.{var_cell}
use Rattle.mz_instance.specs.Parts.{cell_ids}
use Rattle.cases_instances.proofs.Collected.{pieces_made}
use Rattle.cases_instances.proofs.part.add_var_ids.Goals as goal

pub returns : goal.returns
returns c = pieces_made cell_ids var_cell c.args.m.now.cells.items c.cells.c-index c.args.all.now.items c.cells.all.items (subst (λ xs. length xs ≤ c.cells.c-index) c.deref-c-items.ensures.value c.cells-test.false) c.cells.invariant
