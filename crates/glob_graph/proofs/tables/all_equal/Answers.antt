use Rattle.std.proofs.Common.{◌≡◌, ◌∙◌, ◌*◌, ap, arith, length, subst, zip, Some}
use Rattle.std.specs.List.{list_all}
use Rattle.mz_symbol.specs.Makes.{GoesOnBy}
use Rattle.glob_nodes.specs.declared.nodes.Compare.TheVariants.{Equal}
use Rattle.glob_nodes.specs.Says.{Tells, compares, num}
use Rattle.glob_nodes.proofs.Saying.{ok_so}
use Rattle.glob_nodes.proofs.Telling.{goes_less}
use Rattle.glob_nodes.proofs.IntegerNodes.{stays}
use Rattle.glob_nodes.proofs.Squares.{zip_short}
use Rattle.glob_graph.proofs.tables.all_equal.Goals as goal

pub returns-in_err-pairs-clause-goes : goal.returns-in_err-pairs-clause-goes
returns-in_err-pairs-clause-goes c = stays _ c.args.run.now

pub returns-clause-goes : goal.returns-clause-goes
returns-clause-goes c =
    let count : length c.deref.result.now ≡ length (zip c.args.ids.now c.args.row.now) = ap length (c.deref.ensures.value ∙ c.in_ok-pairs.ensures) in
    let short = zip_short c.args.ids.now c.args.row.now in
    goes_less (12 * length (zip c.args.ids.now c.args.row.now)) _ c.args.run.now c.all_pass.new.run (omega (arith, short))
    (subst (λ n. GoesOnBy (12 * n) c.args.run.now c.all_pass.new.run) count c.all_pass.ensures.goes)

pub returns-clause-tells : goal.returns-clause-tells
returns-clause-tells c = ok_so c.all_pass.result c.all_pass.ensures.tells (λ id t. subst (λ ps. Tells c.args.run.now c.all_pass.new.run (λ r. list_all (λ x. compares Equal (num r x.0) (Some x.1)) ps) id) (c.deref.ensures.value ∙ c.in_ok-pairs.ensures) t)
