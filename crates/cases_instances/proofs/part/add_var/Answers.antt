use Rattle.std.proofs.Common.{◌≤◌, length, map, subst}
use Rattle.mz_arena.specs.Instances.{model_var, var_cell}
use Rattle.mz_instance.specs.Parts.{parts_of, value_part}
use Rattle.cases_instances.specs.Seen.{part}
use Rattle.cases_instances.proofs.Collected.{pieces_made}
use Rattle.cases_instances.proofs.part.add_var.Goals as goal

pub returns : goal.returns
returns c = pieces_made (λ x. parts_of c.args.m.now.opt (value_part (model_var c.args.m.now) x)) var_cell c.args.m.now.cells.items c.cells.c-index (map part c.args.all.now.items) (map part c.cells.all.items) (subst (λ xs. length xs ≤ c.cells.c-index) c.deref-c-items.ensures.value c.cells-test.false) c.cells.invariant
