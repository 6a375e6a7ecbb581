use Rattle.std.proofs.Common.{[], ◌∷◌}
use Rattle.std.proofs.lemmas.Result.{err_from_is_err_and}
use Rattle.mz_core.specs.Types.{plain_type}
use Rattle.mz_operations.specs.declared.row.Row.TheVariants.{Scalar}
use Rattle.mz_symbol.specs.Readings.{blank, state_of}
use Rattle.mz_eval_cells.specs.declared.types.Known.{Known}
use Rattle.mz_eval_scopes.specs.Seen.{world_seen}
use Rattle.mz_eval_row_symbols.specs.NodeRows.{stamped}
use Rattle.mz_eval_nodes.proofs.BareLaws.{numbers_bare}
use Rattle.mz_eval_nodes.proofs.WorkLaws.{earns_pays, node_meets, node_stops, simple_cost}
use Rattle.mz_eval_nodes.proofs.nodes.number_row.Goals as goal

pub returns-clause-goes : goal.returns-clause-goes
returns-clause-goes c = earns_pays 2 c.args.run.now c.spend.new.self c.cell_of_numbers-k.new.run c.in_ok-spend.ensures.earns c.cell_of_numbers-k.ensures.goes

pub returns-clause-means : goal.returns-clause-means
returns-clause-means c x y n r h =
    let row = Scalar c.args.n.now.row in
    let cs = x r ∷ y r ∷ [] in
    node_meets (world_seen r c.args.world.now) c.args.at (plain_type c.args.t.now) cs row 1 (state_of r c.args.run.now) (state_of r c.spend.new.self) (state_of r c.cell_of_numbers-k.new.run) (stamped (plain_type c.args.t.now) r) c.cell_of_numbers-k.result
    (simple_cost row cs (n.ends r).ends.simple) (c.in_ok-spend.ensures.means r (c.cell_of_numbers-k.ensures.goes.back r h)) (c.cell_of_numbers-k.ensures.means x y n r h)

pub returns-clause-bare : goal.returns-clause-bare
returns-clause-bare c x y i j n = numbers_bare c.args.world.now c.args.at (plain_type c.args.t.now) x y (Scalar c.args.n.now.row) c.cell_of_numbers-k.result c.args.run.now c.cell_of_numbers-k.new.run c.sound.ensures.arena i j (returns-clause-means c x y n)

pub returns-in_err-spend-clause-means : goal.returns-in_err-spend-clause-means
returns-in_err-spend-clause-means c x y n r h =
    let p = err_from_is_err_and c.from_residual.result c.from_residual.ensures.1 in
    let t = plain_type c.args.t.now in
    let row = Scalar c.args.n.now.row in
    let cs = x r ∷ y r ∷ [] in
    let u = state_of r c.spend.new.self in
    rw (p.1, p.2) (node_stops {A = Known} {B = Unit {0}} (world_seen r c.args.world.now) c.args.at t cs row 1 (state_of r c.args.run.now) u (stamped t r) (λ _. tt) c.in_err-spend.field-0.0 (simple_cost row cs (n.ends r).ends.simple) (c.in_err-spend.ensures.means r h))

pub returns-in_err-spend-clause-bare : goal.returns-in_err-spend-clause-bare
returns-in_err-spend-clause-bare c x y i j n =
    let p = err_from_is_err_and c.from_residual.result c.from_residual.ensures.1 in
    let t = plain_type c.args.t.now in
    let row = Scalar c.args.n.now.row in
    let cs = x blank ∷ y blank ∷ [] in
    let u = state_of blank c.spend.new.self in
    rw (p.1, p.2) (node_stops {A = Known} {B = Unit {0}} (world_seen blank c.args.world.now) c.args.at t cs row 1 (state_of blank c.args.run.now) u (stamped t blank) (λ _. tt) c.in_err-spend.field-0.0 (simple_cost row cs (n.ends blank).ends.simple) c.in_err-spend.ensures.bare)
