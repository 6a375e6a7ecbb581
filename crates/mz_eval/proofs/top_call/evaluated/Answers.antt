use Rattle.std.proofs.Common.{◌≡◌, ◌+◌, ◌≤◌, IfOk, sym, ap, subst}
use Rattle.mz_core.specs.TreeViews.{tree}
use Rattle.mz_meaning.proofs.Causes.{eval_well}
use Rattle.mz_meaning.specs.Contexts.{Untested}
use Rattle.mz_meaning.specs.Evaluation.{eval}
use Rattle.mz_eval_cells.specs.Views.{cell_of}
use Rattle.mz_eval_scopes.specs.Runs.{Meets, at_work}
use Rattle.mz_eval_scopes.specs.Views.{world_of, env_cells}
use Rattle.mz_eval.proofs.Blind.{blind}
use Rattle.mz_eval.proofs.Ends.{meets_few, within_budget}
use Rattle.mz_eval.proofs.top_call.evaluated.Goals as goal

pub returns-clause-answer : goal.returns-clause-answer
returns-clause-answer c =
    let w = world_of c.args.world.now in
    let env = env_cells c.args.world.now.env.now in
    let x = c.expanded-cell.result in
    let spent : c.after-run.result.work ≡ c.args.work.now = ap (λ r. r.work) c.after-run.ensures in
    subst (λ n. Meets cell_of x n (eval w c.args.left Untested (tree c.args.e.now) env (at_work c.args.work.now))) (sym c.work.ensures)
    (subst (λ k. Meets cell_of x c.expanded-cell.new.run.work (eval w c.args.left Untested (tree c.args.e.now) env (at_work k))) spent
    (blind c.args.world.now c.args.left (tree c.args.e.now) x c.after-run.result c.expanded-cell.new.run c.sound.ensures.arena c.expanded-cell.ensures.means))

pub returns-clause-kinds : goal.returns-clause-kinds
returns-clause-kinds c =
    let w = world_of c.args.world.now in
    let env = env_cells c.args.world.now.env.now in
    let x = c.expanded-cell.result in
    meets_few cell_of x c.expanded-cell.new.run.work (at_work c.after-run.result.work) (eval w c.args.left Untested (tree c.args.e.now) env) (eval_well w c.args.left (tree c.args.e.now) env)
    (blind c.args.world.now c.args.left (tree c.args.e.now) x c.after-run.result c.expanded-cell.new.run c.sound.ensures.arena c.expanded-cell.ensures.means)

pub returns-clause-within : goal.returns-clause-within
returns-clause-within c =
    let w = world_of c.args.world.now in
    let env = env_cells c.args.world.now.env.now in
    let x = c.expanded-cell.result in
    let spent : c.after-run.result.work ≡ c.args.work.now = ap (λ r. r.work) c.after-run.ensures in
    subst (λ n. IfOk x (λ _. n ≤ w.budget + 1)) (sym c.work.ensures)
    (within_budget cell_of x c.expanded-cell.new.run.work w c.args.left (tree c.args.e.now) env c.after-run.result.work (subst (λ k. k ≤ w.budget + 1) (sym spent) c.requires)
    (blind c.args.world.now c.args.left (tree c.args.e.now) x c.after-run.result c.expanded-cell.new.run c.sound.ensures.arena c.expanded-cell.ensures.means))
