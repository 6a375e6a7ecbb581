use Rattle.std.proofs.Common.{[], ◌∷◌, arith}
use Rattle.mz_globals.specs.declared.global.Global.TheVariants as global
use Rattle.glob_nodes.specs.Says.{num}
use Rattle.glob_nodes.specs.Arguments.{array_value, number_value, numbers_in}
use Rattle.glob_nodes.proofs.Saying.{ok_so}
use Rattle.glob_nodes.proofs.Telling.{goes_less, goes_more}
use Rattle.glob_nodes.proofs.Rows.{numbers_array_row}
use Rattle.glob_graph.proofs.ElementAt.{element_cost, element_line, element_told, has_element}
use Rattle.glob_graph.proofs.elements.element.Goals as goal

pub returns-in_err-body-clause-goes : goal.returns-in_err-body-clause-goes
returns-in_err-body-clause-goes c =
    let most = element_cost c.args.xs.now.items.items in
    goes_less _ _ c.args.run.now c.some_place.new.run (omega (arith, most)) c.some_place.ensures.goes

pub returns-clause-goes : goal.returns-clause-goes
returns-clause-goes c = goes_more _ 30 _ c.args.run.now c.some_place.new.run c.where_numbers_array.new.run (element_cost c.args.xs.now.items.items) c.in_ok-body.ensures.goes c.where_numbers_array.ensures.goes

pub returns-clause-row : goal.returns-clause-row
returns-clause-row c = ok_so c.where_numbers_array.result c.where_numbers_array.ensures.says (λ id s. numbers_array_row c.args.run.now c.some_place.new.run c.where_numbers_array.new.run global.Element (λ r. number_value r c.args.i ∷ array_value r c.args.xs.now ∷ number_value r c.args.y ∷ []) (has_element (c.args.xs.now.first, c.args.xs.now.last)) c.args.i c.args.y c.args.xs.now _ c.in_ok-body.body id _ 30
    (λ r. element_line (c.args.xs.now.first, c.args.xs.now.last) (num r c.args.i) (numbers_in r c.args.xs.now) (num r c.args.y))
    (λ r n m ns h k e. element_told r c.args.i c.args.y c.args.xs.now n m ns h k e)
    c.requires c.in_ok-body.ensures.goes c.in_ok-body.ensures.tells c.where_numbers_array.ensures.goes s)
