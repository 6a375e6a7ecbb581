use Rattle.std.proofs.Common.{◌∙◌, sym, ap}
use Rattle.mz_core.specs.TreeViews.{decl}
use Rattle.mz_meaning.specs.Runs.{then_do, spend}
use Rattle.mz_meaning.specs.Arrays.{declared_count}
use Rattle.mz_meaning.specs.Lets.{free_local}
use Rattle.mz_symbol.specs.Readings.{state_of}
use Rattle.mz_eval_declared.specs.Locals.{local_in}
use Rattle.mz_eval_declared.specs.Wants.{wanted, wants_of}
use Rattle.mz_eval_scopes.specs.Seen.{ctx_of}
use Rattle.mz_eval_chains.proofs.Runs.{meets_at_is}
use Rattle.mz_eval.specs.Levels.{world_in}
use Rattle.mz_eval.proofs.locals.free_value.Goals as goal

pub returns-in-Untested-clause-means : goal.returns-in-Untested-clause-means
returns-in-Untested-clause-means c r h =
    let w = world_in r c.args.level.now in
    let d = decl c.args.d.now in
    let ixs = wants_of c.args.index.now in
    let x = wanted c.args.set.now in
    let u = state_of r c.counted.new.run in
    meets_at_is (local_in r) c.freely_chosen.result (state_of r c.freely_chosen.new.run) _ _
    (ap (λ k. then_do (spend w.budget d.span (declared_count ixs k) (state_of r c.args.run.now)) (λ _. free_local w (ctx_of c.args.level.now.ctx) d.ty.span d.ty.ty ixs x)) (sym (c.undefined.ensures.seen r))
    ∙ ap (λ a. then_do a (λ _. free_local w (ctx_of c.args.level.now.ctx) d.ty.span d.ty.ty ixs x)) (c.in_ok-counted.ensures.means r (c.freely_chosen.ensures.goes.back r h))
    ∙ ap (λ k. free_local w (ctx_of k) d.ty.span d.ty.ty ixs x u) c.in-Untested.is)
    (c.freely_chosen.ensures.means r h)

pub returns-in-Positive-clause-means : goal.returns-in-Positive-clause-means
returns-in-Positive-clause-means c r h =
    let w = world_in r c.args.level.now in
    let d = decl c.args.d.now in
    let ixs = wants_of c.args.index.now in
    let x = wanted c.args.set.now in
    let u = state_of r c.counted.new.run in
    meets_at_is (local_in r) c.freely_chosen-in-Positive.result (state_of r c.freely_chosen-in-Positive.new.run) _ _
    (ap (λ k. then_do (spend w.budget d.span (declared_count ixs k) (state_of r c.args.run.now)) (λ _. free_local w (ctx_of c.args.level.now.ctx) d.ty.span d.ty.ty ixs x)) (sym (c.undefined.ensures.seen r))
    ∙ ap (λ a. then_do a (λ _. free_local w (ctx_of c.args.level.now.ctx) d.ty.span d.ty.ty ixs x)) (c.in_ok-counted.ensures.means r (c.freely_chosen-in-Positive.ensures.goes.back r h))
    ∙ ap (λ k. free_local w (ctx_of k) d.ty.span d.ty.ty ixs x u) c.in-Positive.is)
    (c.freely_chosen-in-Positive.ensures.means r h)
