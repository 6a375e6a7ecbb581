use Rattle.std.proofs.Common.{◌≡◌, ◌∙◌, ◌<◌, ◌≤◌, ◌-◌, List, ℤ, length, map, get_or, ap, sym, subst, arith, rules, Err, to_z, of_z, w64, SFits}
use Rattle.std.specs.Option.{option_map}
use Rattle.std.proofs.lemmas.Int.{to_z-of_z}
use Rattle.std.proofs.lemmas.List.{length-map}
use Rattle.mz_value.specs.Contents.{content}
use Rattle.mz_core.specs.declared.tree.Core.{Core}
use Rattle.mz_core.specs.Program.{plain_program}
use Rattle.mz_core.specs.TreeViews.{tree}
use Rattle.mz_core.proofs.TreeLaws.{place_of_tree}
use Rattle.mz_eval_scopes.specs.Views.{env_cells, world_for}
use Rattle.mz_print_stream.specs.Printing.{Says}
use Rattle.mz_print.specs.Items.{finished, items_text, joined}
use Rattle.mz_print.proofs.Joins.{items_begin, items_go_on, item_stops, items_end, says_same}
use Rattle.mz_print.proofs.items.items_text.Goals as goal

pub loop-e-init : goal.loop-e-init
loop-e-init c = record {
  so_far = items_begin _ _ c.new-steps.result.used (joined c.nothing_joined-joined.result) c.new-steps.ensures.used c.nothing_joined-joined.ensures;
  budget = c.new-steps.ensures.budget;
  limit = c.new-depth.ensures.limit;
  nesting = c.new-depth.ensures.nesting;
}

pub returns-in-Err : goal.returns-in-Err
unfolding plain_program
returns-in-Err c =
    let n : ℤ = to_z w64 (of_z w64 c.args.int_range) in
    let fits : SFits w64 c.args.int_range = search rules in
    let e : n ≡ c.args.int_range = to_z-of_z w64 c.args.int_range fits in
    let p = plain_program c.args.program.now in
    let xs = c.args.program.now.outputs.items in
    let k = c.loop-e.e-index in
    let L : List Core → Type 0 = λ ys. k < length ys in
    let I : List Core → Type 0 = λ ys. c.e-item.result ≡ get_or ys k c.e-item.result in
    let S : ℤ → Type 0 = λ m. Says (items_text p c.args.budget m (env_cells c.args.env.now) c.args.block) (Err c.in-Err.stop) in
    subst S e
    (item_stops (option_map content) tree p n (env_cells c.args.env.now) c.loop-e.steps c.loop-e.depth c.args.budget c.value.new.steps.used xs k c.e-item.result (joined c.loop-e.joined) c.in-Err.stop c.args.block (subst L c.deref-e-items.ensures.value c.loop-e-test.true) (subst I c.deref-e-items.ensures.value c.e-item.is) c.loop-e.invariant.budget
    (omega (arith, c.loop-e.invariant.limit, c.loop-e.invariant.nesting)) c.loop-e.invariant.so_far c.in-Err.ensures.answer)

pub loop-e-preserved : goal.loop-e-preserved
loop-e-preserved c =
    let n : ℤ = to_z w64 (of_z w64 c.args.int_range) in
    let p = plain_program c.args.program.now in
    let xs = c.args.program.now.outputs.items in
    let k = c.loop-e.e-index in
    let L : List Core → Type 0 = λ ys. k < length ys in
    let I : List Core → Type 0 = λ ys. c.e-item.result ≡ get_or ys k c.e-item.result in
    record {
      so_far = items_go_on tree p n (env_cells c.args.env.now) c.loop-e.steps c.loop-e.depth c.args.budget xs k c.e-item.result (joined c.loop-e.joined) (joined c.in-Ok-with_item.more) c.e-item.result.span (option_map content c.in-Ok.item) c.value.new.steps.used (subst L c.deref-e-items.ensures.value c.loop-e-test.true) (subst I c.deref-e-items.ensures.value c.e-item.is) (sym (place_of_tree c.e-item.result)) c.loop-e.invariant.budget
          (omega (arith, c.loop-e.invariant.limit, c.loop-e.invariant.nesting)) c.loop-e.invariant.so_far c.in-Ok.ensures.answer c.in-Ok-with_item.ensures;
      budget = c.in-Ok.ensures.budget ∙ c.loop-e.invariant.budget;
      limit = ap (λ d. d.limit) c.in-Ok.ensures.kept ∙ c.loop-e.invariant.limit;
      nesting = ap (λ d. d.nesting) c.in-Ok.ensures.kept ∙ c.loop-e.invariant.nesting;
    }

pub returns : goal.returns
unfolding plain_program
returns c =
    let n : ℤ = to_z w64 (of_z w64 c.args.int_range) in
    let fits : SFits w64 c.args.int_range = search rules in
    let e : n ≡ c.args.int_range = to_z-of_z w64 c.args.int_range fits in
    let p = plain_program c.args.program.now in
    let xs = c.args.program.now.outputs.items in
    let k = c.loop-e.e-index in
    let E : List Core → Type 0 = λ ys. length ys ≤ k in
    let past : length xs ≤ k = subst E c.deref-e-items.ensures.value c.loop-e-test.false in
    let S : ℤ → Type 0 = λ m. Says (items_text p c.args.budget m (env_cells c.args.env.now) c.args.block) c.finished.result in
    subst S e
    (says_same (items_text p c.args.budget n (env_cells c.args.env.now) c.args.block) (finished c.args.block (joined c.loop-e.joined)) c.finished.result
    (items_end (world_for p c.args.budget n (env_cells c.args.env.now)) (map tree xs) k c.loop-e.steps.used (joined c.loop-e.joined) c.args.block (omega (arith, past, length-map xs tree)) c.loop-e.invariant.so_far) c.finished.ensures)
