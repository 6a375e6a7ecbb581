use Rattle.std.proofs.Common.{[], ◌∷◌, arith}
use Rattle.mz_globals.specs.declared.global.Global.TheVariants as global
use Rattle.mz_globals.specs.Graphs as graphs
use Rattle.glob_nodes.specs.Arguments.{array_value, numbers_in}
use Rattle.glob_nodes.proofs.Saying.{ok_so}
use Rattle.glob_nodes.proofs.Telling.{goes_less, goes_more}
use Rattle.glob_nodes.proofs.Rows.{arrays_row}
use Rattle.glob_nodes.proofs.Several.{placed}
use Rattle.glob_graph.proofs.BothWays.{inverse_cost, inverse_line, inverse_told}
use Rattle.glob_graph.proofs.inverses.inverse.Goals as goal

pub returns-in_err-body-clause-goes : goal.returns-in_err-body-clause-goes
returns-in_err-body-clause-goes c =
    let most = inverse_cost c.args.f.now.items.items c.args.g.now.items.items in
    goes_less _ _ c.args.run.now c.are_inverse.new.run (omega (arith, most)) c.are_inverse.ensures.goes

pub returns-clause-goes : goal.returns-clause-goes
returns-clause-goes c = goes_more _ 12 _ c.args.run.now c.are_inverse.new.run c.where_arrays.new.run (inverse_cost c.args.f.now.items.items c.args.g.now.items.items) c.in_ok-body.ensures.goes c.where_arrays.ensures.goes

pub returns-clause-row : goal.returns-clause-row
returns-clause-row c = ok_so c.where_arrays.result c.where_arrays.ensures.says (λ id s. arrays_row c.args.run.now c.are_inverse.new.run c.where_arrays.new.run global.Inverse (λ r. array_value r c.args.f.now ∷ array_value r c.args.g.now ∷ []) (λ us vs. graphs.are_inverse (placed (c.args.f.now.first, c.args.f.now.last) us) (placed (c.args.g.now.first, c.args.g.now.last) vs)) c.args.f.now c.args.g.now _ c.in_ok-body.body id _ 12
    (λ r. inverse_line (c.args.f.now.first, c.args.f.now.last) (c.args.g.now.first, c.args.g.now.last) (numbers_in r c.args.f.now) (numbers_in r c.args.g.now))
    (λ r us vs h k. inverse_told r c.args.f.now c.args.g.now us vs h k)
    c.requires.f c.requires.g c.in_ok-body.ensures.goes c.in_ok-body.ensures.tells c.where_arrays.ensures.goes s)
