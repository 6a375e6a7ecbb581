use Rattle.std.proofs.Common.{◌∙◌, [], ◌∷◌, Err, refl, sym, ap}
use Rattle.std.proofs.lemmas.Result.{err_from_is_err_and}
use Rattle.mz_meaning.specs.Forms.{coerced_by}
use Rattle.mz_meaning.specs.Runs.{then_do}
use Rattle.mz_symbol.specs.Readings.{blank, state_of}
use Rattle.mz_eval_cells.specs.declared.types.Known.{Known}
use Rattle.mz_eval_cells.specs.Views.{seen}
use Rattle.mz_eval_scopes.specs.Seen.{world_seen}
use Rattle.mz_eval_chains.specs.Innermosts.{operator_of}
use Rattle.mz_eval_chains.proofs.Runs.{meets_at_is}
use Rattle.mz_eval_nodes.specs.RowNodes.{node_by}
use Rattle.mz_eval_nodes.proofs.BareLaws.{cell_blind}
use Rattle.mz_eval_nodes.specs.Numbers.{open_integer}
use Rattle.mz_eval_nodes.specs.Operators.{operator_node}
use Rattle.mz_eval_nodes.proofs.NumberLaws.{opened_goes, opened_stops}
use Rattle.mz_eval_nodes.proofs.operands.node_opened.Goals as goal

pub returns-clause-means : goal.returns-clause-means
returns-clause-means c r h =
    let w = world_seen r c.args.world.now in
    let o = operator_of c.args.o.now in
    let at = c.place_of.result in
    let a = seen r c.args.a.now in
    let k = seen r c.args.c.now in
    let x = open_integer r.mode c.args.n in
    let s = state_of r c.args.run.now in
    let u = state_of r c.spend.new.self in
    let go = operator_node w o a in
    meets_at_is (seen r) c.node_of_numbers.result (state_of r c.node_of_numbers.new.run) _ _
    (ap (λ p. then_do (coerced_by w p o.step.right k s) go) (sym c.place_of.ensures)
    ∙ opened_goes w at o.step.right k x go s u (c.requires.opened w at r s) (c.in_ok-spend.ensures.means r (c.node_of_numbers.ensures.goes.back r h))
    ∙ ap (λ p. node_by w o.at o.step.ty (a ∷ x ∷ []) p u) c.requires.row)
    (c.node_of_numbers.ensures.means (λ q. seen q c.args.a.now) (λ q. open_integer q.mode c.args.n) c.requires.numbers r h)

pub returns-clause-bare : goal.returns-clause-bare
returns-clause-bare c =
    let w = world_seen blank c.args.world.now in
    let o = operator_of c.args.o.now in
    let at = c.place_of.result in
    let a = seen blank c.args.a.now in
    let k = seen blank c.args.c.now in
    let x = open_integer blank.mode c.args.n in
    let s = state_of blank c.args.run.now in
    let u = state_of blank c.spend.new.self in
    let go = operator_node w o a in
    meets_at_is (seen blank) c.node_of_numbers.result (state_of blank c.node_of_numbers.new.run) _ _
    (ap (λ p. then_do (coerced_by w p o.step.right k s) go) (sym c.place_of.ensures)
    ∙ opened_goes w at o.step.right k x go s u (c.requires.opened w at blank s) c.in_ok-spend.ensures.bare
    ∙ ap (λ p. node_by w o.at o.step.ty (a ∷ x ∷ []) p u) c.requires.row)
    (c.node_of_numbers.ensures.bare (λ q. seen q c.args.a.now) (λ q. open_integer q.mode c.args.n) (λ q. cell_blind q c.args.a.now) (λ q. refl) c.requires.numbers)

pub returns-in_err-spend-clause-bare : goal.returns-in_err-spend-clause-bare
returns-in_err-spend-clause-bare c =
    let p = err_from_is_err_and c.from_residual.result c.from_residual.ensures.1 in
    let w = world_seen blank c.args.world.now in
    let o = operator_of c.args.o.now in
    let at = c.place_of.result in
    let k = seen blank c.args.c.now in
    let s = state_of blank c.args.run.now in
    let u = state_of blank c.spend.new.self in
    let go = operator_node w o (seen blank c.args.a.now) in
    rw (p.1, p.2) (meets_at_is (seen blank) (Err c.in_err-spend.field-0.0) u _ _
    (ap (λ q. then_do (coerced_by w q o.step.right k s) go) (sym c.place_of.ensures))
    (opened_stops {A = Known} {B = Unit {0}} w at o.step.right k (open_integer blank.mode c.args.n) go s u (seen blank) (λ _. tt) c.in_err-spend.field-0.0 (c.requires.opened w at blank s) c.in_err-spend.ensures.bare))
