use Rattle.std.proofs.Common.{Some, ap, sym, ◌∙◌}
use Rattle.flat_reif.specs.States.{state}
use Rattle.flat_reif.proofs.Below.{branch_place, branch_is}
use Rattle.flat_reif.proofs.flat.Flat.flatten_if.Goals as goal

pub sort-requires : goal.sort-requires
sort-requires c = branch_place (state c.args.self.now) c.args.id c.args.n.now c.requires.state c.requires.ready c.requires.kind

pub flatten_branches-requires-clause-row : goal.flatten_branches-requires-clause-row
flatten_branches-requires-clause-row c = branch_is (state c.args.self.now) c.args.id c.args.n.now c.requires.state c.requires.ready c.requires.kind c.sort.result c.sort.ensures ∙ ap (λ n. Some n) (sym c.row_of_element-name.ensures)
