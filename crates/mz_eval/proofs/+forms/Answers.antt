use Rattle.std.proofs.Common.{◌≡◌, ◌∙◌, ◌+◌, ◌-◌, List, [], ◌∷◌, ◌++◌, Err, None, map, true, false, refl, sym, ap}
use Rattle.std.proofs.lemmas.Result.{err_from_is_err_and}
use Rattle.mz_core.specs.Types.{plain_type}
use Rattle.mz_core.specs.Program.{function}
use Rattle.mz_core.specs.Tree.{Decl, type_of}
use Rattle.mz_core.specs.TreeViews.{tree, step, decl, gen, form_layer}
use Rattle.mz_core.specs.declared.tree.CoreForm.TheViews.{out-CoreForm}
use Rattle.mz_meaning.specs.Runs.{Run, Out, then_do, give, loop, weigh}
use Rattle.mz_meaning.specs.Cells.{Cell, both_sure, bind, bind_all, length_of, or_zero, test_of}
use Rattle.mz_meaning.specs.Arrays.{Anything}
use Rattle.mz_meaning.specs.Comprehensions.{Made, Presence, both_occur, elements_in, filtered, names, where_, with_set}
use Rattle.mz_meaning.specs.Chains.{with_innermost}
use Rattle.mz_meaning.specs.Forms.{chain_by, part}
use Rattle.mz_meaning.specs.Lets.{Names, nothing_bound, with_local}
use Rattle.mz_meaning.specs.Calls.{argument_suits, arguments, call_of, called, parameter}
use Rattle.mz_meaning.specs.Evaluation.{eval, is_name, node}
use Rattle.mz_symbol.specs.Readings.{state_of}
use Rattle.mz_symbol.proofs.RunLaws.{goes_on}
use Rattle.mz_eval_cells.specs.Views.{seen, all_seen, test_if}
use Rattle.mz_eval_guards.specs.Guards.{guard_seen}
use Rattle.mz_eval_names.specs.Names.{names_seen}
use Rattle.mz_eval_comprehensions.specs.Presences.{presence_seen}
use Rattle.mz_eval_comprehensions.specs.Views.{elements_of, made_in, turn_in, turns_left}
use Rattle.mz_eval_scopes.specs.Seen.{ctx_of}
use Rattle.mz_eval_chains.proofs.Runs.{loop_goes, meets_at_is, meets_at_err}
use Rattle.mz_eval_nodes.specs.Views.{gathered_seen}
use Rattle.mz_eval_nodes.specs.Operators.{appended_seen}
use Rattle.mz_eval.specs.Levels.{world_in, go_of, scope_of}
use Rattle.mz_eval.specs.Nodes.{node_stamped, stamped_at}
use Rattle.mz_eval.specs.Calls.{called_in}
use Rattle.mz_eval.specs.Comprehensions.{from_generators, from_own_condition, from_value}
use Rattle.mz_eval.specs.PlainCalls.{called_on}
use Rattle.mz_eval.proofs.OneLevel.{eval_end, eval_more, finish, parameter_is}
use Rattle.mz_eval.proofs.Chains.{chain_is, no_innermost, chain_of_one, steps_one, taken_from, append_goes}
use Rattle.mz_eval.proofs.PlainCalls.{called_next, plain_call}
use Rattle.mz_eval.proofs.Left.{next_fewer, next_is, none_left, turn_goes, turn_stops, turns_end}
use Rattle.mz_eval.proofs.Stamps.{stamps}
use Rattle.mz_eval.proofs.WeightLaws.{goes_none}
use Rattle.mz_eval.proofs.+forms.Goals as goal

pub forms::eval_node-returns-clause-means : goal.forms::eval_node-returns-clause-means
forms::eval_node-returns-clause-means t c r h =
    let w = world_in r c.args.level.now in
    let left = c.args.level.now.left in
    let e = c.args.e.now in
    let b = c.inner-node.result.now in
    let env = scope_of r c.args.level.now c.args.scope.now in
    let s = state_of r c.args.run.now in
    meets_at_is (seen r) c.finished.result (state_of r c.finished.new.run) _ _
    (eval_more w left (ctx_of c.args.level.now.ctx) e b env s c.if-level-eq0.false c.inner-node.ensures
    ∙ ap (λ k. then_do (node_stamped w (eval w (left - 1)) k (form_layer (out-CoreForm b.form)) b.span (plain_type b.ty) env s) (finish w e b)) (sym c.within-ctx.ensures)
    ∙ ap (λ a. then_do a (finish w e b)) (c.in_ok-cell.ensures.means r (c.finished.ensures.goes.back r h)))
    (c.finished.ensures.means r h)

pub forms::eval_node-returns-in_err-cell-clause-means : goal.forms::eval_node-returns-in_err-cell-clause-means
forms::eval_node-returns-in_err-cell-clause-means t c r h =
    let p = err_from_is_err_and c.from_residual.result c.from_residual.ensures.1 in
    let w = world_in r c.args.level.now in
    let left = c.args.level.now.left in
    let e = c.args.e.now in
    let b = c.inner-node.result.now in
    let env = scope_of r c.args.level.now c.args.scope.now in
    let s = state_of r c.args.run.now in
    let n = state_of r c.eval_form.new.run in
    rw (p.1, p.2) (meets_at_is (seen r) (Err c.in_err-cell.field-0.0) n _ _
    (eval_more w left (ctx_of c.args.level.now.ctx) e b env s c.if-level-eq0.false c.inner-node.ensures
    ∙ ap (λ k. then_do (node_stamped w (eval w (left - 1)) k (form_layer (out-CoreForm b.form)) b.span (plain_type b.ty) env s) (finish w e b)) (sym c.within-ctx.ensures))
    (meets_at_err (stamped_at b r) (seen r) c.in_err-cell.field-0.0 n n _ (finish w e b) (c.in_err-cell.ensures.means r h)))

pub forms::eval_node-returns-then-level-eq0-clause-means : goal.forms::eval_node-returns-then-level-eq0-clause-means
forms::eval_node-returns-then-level-eq0-clause-means t c r h =
    eval_end (world_in r c.args.level.now) c.args.level.now.left (ctx_of c.args.level.now.ctx) c.args.e.now c.inner-node.result.now (scope_of r c.args.level.now c.args.scope.now) (state_of r c.args.run.now) c.if-level-eq0.true c.inner-node.ensures

pub forms::eval_form-returns-in_default-clause-means : goal.forms::eval_form-returns-in_default-clause-means
forms::eval_form-returns-in_default-clause-means t c r h =
    let l = c.args.level.now in
    let n = c.args.node.now in
    let y = form_layer (out-CoreForm n.form) in
    stamps (seen r) r.mode (is_name y) (plain_type n.ty) c.eval_whole.result (state_of r c.eval_whole.new.run) (node (world_in r l) (go_of r l) (ctx_of l.ctx) y n.span (plain_type n.ty) (scope_of r l c.args.scope.now) (state_of r c.args.run.now)) (c.eval_whole.ensures.means r h)

pub operators::eval_chain-returns-then-is_appended-clause-means : goal.operators::eval_chain-returns-then-is_appended-clause-means
operators::eval_chain-returns-then-is_appended-clause-means t c r h =
    let w = world_in r c.args.level.now in
    meets_at_is (seen r) c.eval_appended.result (state_of r c.eval_appended.new.run) _ _
    (chain_is w (go_of r c.args.level.now) (ctx_of c.args.level.now.ctx) (scope_of r c.args.level.now c.args.scope.now) c.args.at (tree c.args.first.now) (map step c.args.all.now) (state_of r c.args.run.now) c.is_appended.result true c.is_appended.ensures c.if-is_appended.true)
    (c.eval_appended.ensures.means r h)

pub operators::eval_chain-returns-then-is_plain-clause-means : goal.operators::eval_chain-returns-then-is_plain-clause-means
operators::eval_chain-returns-then-is_plain-clause-means t c r h =
    let w = world_in r c.args.level.now in
    meets_at_is (seen r) c.eval_plain.result (state_of r c.eval_plain.new.run) _ _
    (no_innermost w (go_of r c.args.level.now) (ctx_of c.args.level.now.ctx) (scope_of r c.args.level.now c.args.scope.now) c.args.at (tree c.args.first.now) (map step c.args.all.now) (state_of r c.args.run.now) c.is_appended.result _ c.is_appended.ensures c.if-is_appended.false refl (c.is_plain.ensures.plain c.if-is_plain.true))
    (c.eval_plain.ensures.means r h)

pub operators::eval_chain-returns-then-is_single-clause-means : goal.operators::eval_chain-returns-then-is_single-clause-means
operators::eval_chain-returns-then-is_single-clause-means t c r h =
    let w = world_in r c.args.level.now in
    let go = go_of r c.args.level.now in
    let ctx = ctx_of c.args.level.now.ctx in
    let env = scope_of r c.args.level.now c.args.scope.now in
    let e = tree c.args.first.now in
    let s = state_of r c.args.run.now in
    let x = c.index-all-0.result in
    meets_at_is (seen r) c.eval_single.result (state_of r c.eval_single.new.run) _ _
    (no_innermost w go ctx env c.args.at e (map step c.args.all.now) s c.is_appended.result _ c.is_appended.ensures c.if-is_appended.false refl (c.is_single.ensures.own c.if-is_single.true)
    ∙ ap (λ ss. chain_by w go ctx env false (with_innermost c.args.at ss e None) s) (steps_one c.args.all.now x (c.is_single.ensures.one c.if-is_single.true) ∙ ap (λ y. step y ∷ []) (sym c.index-all-0.is))
    ∙ chain_of_one w go ctx env c.args.at e (step x) s)
    (c.eval_single.ensures.means r h)

pub operators::eval_chain-returns-clause-means : goal.operators::eval_chain-returns-clause-means
operators::eval_chain-returns-clause-means t c r h =
    let w = world_in r c.args.level.now in
    meets_at_is (seen r) c.eval_with_innermost.result (state_of r c.eval_with_innermost.new.run) _ _
    (chain_is w (go_of r c.args.level.now) (ctx_of c.args.level.now.ctx) (scope_of r c.args.level.now c.args.scope.now) c.args.at (tree c.args.first.now) (map step c.args.all.now) (state_of r c.args.run.now) c.is_appended.result false c.is_appended.ensures c.if-is_appended.false)
    (c.eval_with_innermost.ensures.means r h)

pub operators::eval_operands-loop-i-preserved : goal.operators::eval_operands-loop-i-preserved
operators::eval_operands-loop-i-preserved t c = record {
  goes = goes_on _ _ _ c.loop-i.invariant.goes c.eval_operand.ensures.goes;
  so_far = λ r h. append_goes (world_in r c.args.level.now) (go_of r c.args.level.now) (scope_of r c.args.level.now c.args.scope.now) c.args.all.now c.loop-i.i c.index-all-i.result _ (appended_seen r c.loop-i.x) (appended_seen r c.in_ok-x.x) (ctx_of c.loop-i.ctx) (ctx_of c.right_within-ctx.result) (ctx_of c.first_within-place.result) (state_of r c.loop-i.run) (state_of r c.eval_operand.new.run) _ c.loop-i-test.true c.index-all-i.is (taken_from (c.loop-i.i + 1) c.args.all.now) c.right_within-ctx.ensures c.first_within-place.ensures (c.in_ok-x.ensures.means r h) (c.loop-i.invariant.so_far r (c.eval_operand.ensures.goes.back r h));
}

pub calls::eval_call_of-returns-in-Some-clause-means : goal.calls::eval_call_of-returns-in-Some-clause-means
calls::eval_call_of-returns-in-Some-clause-means t c r h =
    let w = world_in r c.args.level.now in
    meets_at_is (seen r) c.eval_function.result (state_of r c.eval_function.new.run) _ _
    (ap (λ o. call_of w (go_of r c.args.level.now) (ctx_of c.args.level.now.ctx) o (map tree c.args.all.now) (all_seen r c.args.cells.now) c.args.at (state_of r c.args.run.now)) c.in-Some.ensures)
    (c.eval_function.ensures.means r h)

pub calls::eval_call-returns-in-Some-clause-means : goal.calls::eval_call-returns-in-Some-clause-means
calls::eval_call-returns-in-Some-clause-means t c r h =
    meets_at_is (seen r) c.eval_plain_call.result (state_of r c.eval_plain_call.new.run) _ _
    (plain_call (world_in r c.args.level.now) (go_of r c.args.level.now) (ctx_of c.args.level.now.ctx) c.args.f (function c.in-Some.function.now) (map tree c.args.all.now) c.args.at (scope_of r c.args.level.now c.args.scope.now) (state_of r c.args.run.now) c.in-Some.ensures)
    (c.eval_plain_call.ensures.means r h)

pub plain_calls::eval_first-returns-clause-means : goal.plain_calls::eval_first-returns-clause-means
unfolding plain_type
plain_calls::eval_first-returns-clause-means t c r h =
    let w = world_in r c.args.level.now in
    let go = go_of r c.args.level.now in
    let ctx = ctx_of c.args.level.now.ctx in
    let f = function c.args.call.now.function.now in
    let at = c.args.call.now.at in
    let d = decl c.args.d.now in
    let ds = map decl c.args.params.now in
    let es = map tree c.args.all.now in
    let env = scope_of r c.args.level.now c.args.call.now.scope.now in
    let bound = scope_of r c.args.level.now c.args.bound.now.scope.now in
    let cell = seen r c.in_ok-cell.cell in
    let holds = guard_seen r c.args.bound.now.holds in
    let n = c.args.bound.now.elements in
    let inner = bind d.slot cell bound in
    let h1 = c.eval_bound.ensures.goes.back r h in
    let h2 = c.in_ok-holds.ensures.goes.back r h1 in
    let h3 = c.in_ok-suits.ensures.goes.back r h2 in
    let u = state_of r c.eval_expression.new.run in
    meets_at_is (seen r) c.eval_bound.result (state_of r c.eval_bound.new.run) _ _
    (called_next w go ctx f at d ds (tree c.args.e.now) es n holds env bound (state_of r c.args.run.now)
    ∙ ap (λ a. then_do a (λ k. called_on w go ctx f at ds es (n + or_zero (length_of k)) (both_sure holds (argument_suits f.result.ty.var d.ty.ty.var Anything k)) env (bind d.slot k bound))) (c.in_ok-cell.ensures.means r h3)
    ∙ ap (λ m. called_on w go ctx f at ds es m (both_sure holds (argument_suits f.result.ty.var d.ty.ty.var Anything cell)) env inner u) (sym (c.in_ok-elements.ensures r))
    ∙ ap (λ a. then_do a (λ g. called_on w go ctx f at ds es c.in_ok-elements.elements (both_sure holds g) env inner)) (c.in_ok-suits.ensures.means r h2)
    ∙ ap (λ a. then_do a (λ g. called_on w go ctx f at ds es c.in_ok-elements.elements g env inner)) (c.in_ok-holds.ensures.means r h1))
    (c.eval_bound.ensures.means r h)

pub comprehensions::eval_generator-returns-clause-means : goal.comprehensions::eval_generator-returns-clause-means
comprehensions::eval_generator-returns-clause-means t c r h =
    let l = c.args.level.now in
    let w = world_in r l in
    let go = go_of r l in
    let env = scope_of r l c.args.scope.now in
    let s = state_of r c.args.run.now in
    let e = (gen c.args.g.now).set in
    let at = c.args.whole.now.at in
    let ss = (gen c.args.g.now).slots in
    let o = presence_seen r c.args.occurs in
    let m = made_in r c.args.made in
    let rest = where_ r.mode go (ctx_of l.ctx) (gen c.args.g.now).cond (from_generators r l c.args.whole.now (map gen c.args.others.now)) in
    let after : Cell → Run Made = λ k. names w at (elements_in r.mode (type_of e).base k) ss rest env o (with_set r.mode o k m) in
    let cell = seen r c.in_ok-c.c in
    let h1 = c.eval_names.ensures.goes.back r h in
    let h2 = c.in_ok-elements.ensures.goes.back r h1 in
    let h3 = c.in_ok-made.ensures.goes.back r h2 in
    let u = state_of r c.eval_expression.new.run in
    meets_at_is (made_in r) c.eval_names.result (state_of r c.eval_names.new.run) _ _
    (ap (λ k. then_do (go k e env s) after) (sym c.elsewhere-ctx.ensures)
    ∙ ap (λ a. then_do a after) (c.in_ok-c.ensures.means r h3)
    ∙ ap (λ a. then_do a (λ n. names w at (elements_in r.mode (type_of e).base cell) ss rest env o n)) (c.in_ok-made.ensures.means r h2)
    ∙ ap (λ b. names w at (elements_in r.mode b cell) ss rest env o (made_in r c.in_ok-made.made) (state_of r c.add_set.new.run)) (sym c.base_of.ensures)
    ∙ ap (λ a. then_do a (λ es. names w at es ss rest env o (made_in r c.in_ok-made.made))) (c.in_ok-elements.ensures.means r h1)
    ∙ ap (λ zs. names w at (elements_of r c.in_ok-elements.elements) zs rest env o (made_in r c.in_ok-made.made) (state_of r c.elements_in.new.run)) (sym c.deref.ensures.value))
    (c.eval_names.ensures.means r h)

pub comprehensions::eval_turn-returns-clause-means : goal.comprehensions::eval_turn-returns-clause-means
comprehensions::eval_turn-returns-clause-means t c r h =
    let l = c.args.level.now in
    let w = world_in r l in
    let g = c.args.g.now in
    let x = turn_in r c.args.x in
    let env = bind c.args.slots.now.first x.0 (scope_of r l c.args.scope.now) in
    let o = presence_seen r c.args.occurs in
    let go : Presence → Run Made = λ p. names w g.whole.now.at (elements_of r g.elements.now) c.args.slots.now.others.now (from_own_condition r l g) env p (made_in r c.args.made) in
    let h1 = c.eval_names.ensures.goes.back r h in
    meets_at_is (made_in r) c.eval_names.result (state_of r c.eval_names.new.run) _ _
    (ap (λ a. then_do a (λ _. go (both_occur o x.1))) (c.in_ok-spent.ensures.means r (c.in_ok-both.ensures.goes.back r h1))
    ∙ ap (λ a. then_do a go) (c.in_ok-both.ensures.means r h1))
    (c.eval_names.ensures.means r h)

pub comprehensions::eval_filtered-returns-clause-means : goal.comprehensions::eval_filtered-returns-clause-means
comprehensions::eval_filtered-returns-clause-means t c r h =
    let l = c.args.level.now in
    let g = c.args.g.now in
    let go = go_of r l in
    let env = scope_of r l c.args.scope.now in
    let s = state_of r c.args.run.now in
    let e = tree c.args.e.now in
    let o = presence_seen r c.args.occurs in
    let m = made_in r c.args.made in
    let rest = from_generators r l g.whole.now (map gen g.others.now) in
    let after : Cell → Run Made = λ k. filtered r.mode rest env o m k (test_of k) in
    let cell = seen r c.in_ok-c.c in
    let h1 = c.eval_generators-in-None.ensures.goes.back r h in
    let h2 = c.in_ok-both-in-None.ensures.goes.back r h1 in
    let u = state_of r c.eval_expression.new.run in
    meets_at_is (made_in r) c.eval_generators-in-None.result (state_of r c.eval_generators-in-None.new.run) _ _
    (ap (λ k. then_do (go k e env s) after) (sym c.elsewhere-ctx.ensures)
    ∙ ap (λ a. then_do a after) (c.in_ok-c.ensures.means r h2)
    ∙ ap (λ x. filtered r.mode rest env o m cell x u) (c.settled.ensures r ∙ ap test_if c.in-None.is)
    ∙ ap (λ a. then_do a (λ p. rest env p m)) (c.in_ok-both-in-None.ensures.means r h1))
    (c.eval_generators-in-None.ensures.means r h)

-- ---- the elements of a generator, one after the other

pub comprehensions::eval_name-turns-init : goal.comprehensions::eval_name-turns-init
comprehensions::eval_name-turns-init t c = record {
  goes = goes_none 0 c.args.run.now;
  so_far = λ r h.
      let l = c.args.level.now in
      let step = from_value r l c.args.g.now c.args.slots.now (scope_of r l c.args.scope.now) (presence_seen r c.args.occurs) in
      ap (λ es. loop step (made_in r c.args.made) es (state_of r c.args.run.now)) (sym (c.all_turns-left_turns.ensures r));
}

pub comprehensions::eval_name-turns-preserved : goal.comprehensions::eval_name-turns-preserved
comprehensions::eval_name-turns-preserved t c = record {
  goes = goes_on _ _ _ (goes_on _ _ _ c.turns.invariant.goes c.taken.ensures.goes) c.eval_turn.ensures.goes;
  so_far = λ r h.
      let l = c.args.level.now in
      let step = from_value r l c.args.g.now c.args.slots.now (scope_of r l c.args.scope.now) (presence_seen r c.args.occurs) in
      let next = c.in_ok-x.ensures.next in
      let before = turns_left r c.turns.left_turns in
      let after = turns_left r c.taken.new.t in
      let h1 = c.eval_turn.ensures.goes.back r h in
      turn_goes step (made_in r c.turns.made) (made_in r c.in_ok-made.made) (turn_in r c.in-Some.x) before after (state_of r c.turns.run) (state_of r c.taken.new.run) (state_of r c.eval_turn.new.run) _
      (next.same r h1)
      (next_is (turn_in r) c.in_ok-x.field-0 c.in-Some.x before after c.in-Some.is (next.next r h1))
      (c.in_ok-made.ensures.means r h)
      (c.turns.invariant.so_far r (c.taken.ensures.goes.back r h1));
}

pub comprehensions::eval_name-turns-smaller : goal.comprehensions::eval_name-turns-smaller
comprehensions::eval_name-turns-smaller t c = next_fewer c.turns.left_turns c.taken.new.t c.in_ok-x.field-0 c.in-Some.x c.in-Some.is c.in_ok-x.ensures.fewer

pub comprehensions::eval_name-returns-clause-means : goal.comprehensions::eval_name-returns-clause-means
comprehensions::eval_name-returns-clause-means t c r h =
    let l = c.args.level.now in
    let step = from_value r l c.args.g.now c.args.slots.now (scope_of r l c.args.scope.now) (presence_seen r c.args.occurs) in
    let next = c.in_ok-x.ensures.next in
    let before = turns_left r c.turns.left_turns in
    turns_end step (made_in r c.turns.made) before (state_of r c.turns.run) (state_of r c.taken.new.run) _
    (next.same r h)
    (none_left (turn_in r) c.in_ok-x.field-0 before (turns_left r c.taken.new.t) c.in_default.not-Some (next.next r h))
    (c.turns.invariant.so_far r (c.taken.ensures.goes.back r h))

pub comprehensions::eval_name-returns-in_err-made-clause-goes : goal.comprehensions::eval_name-returns-in_err-made-clause-goes
comprehensions::eval_name-returns-in_err-made-clause-goes t c = goes_on _ _ _ (goes_on _ _ _ c.turns.invariant.goes c.taken.ensures.goes) c.eval_turn.ensures.goes

pub comprehensions::eval_name-returns-in_err-made-clause-means : goal.comprehensions::eval_name-returns-in_err-made-clause-means
comprehensions::eval_name-returns-in_err-made-clause-means t c r h =
    let p = err_from_is_err_and c.from_residual-in_err-made.result c.from_residual-in_err-made.ensures.1 in
    let l = c.args.level.now in
    let step = from_value r l c.args.g.now c.args.slots.now (scope_of r l c.args.scope.now) (presence_seen r c.args.occurs) in
    let next = c.in_ok-x.ensures.next in
    let before = turns_left r c.turns.left_turns in
    let after = turns_left r c.taken.new.t in
    let h1 = c.eval_turn.ensures.goes.back r h in
    rw (p.1, p.2) (turn_stops (made_in r) step (made_in r c.turns.made) (turn_in r c.in-Some.x) before after (state_of r c.turns.run) (state_of r c.taken.new.run) (state_of r c.eval_turn.new.run) _ c.in_err-made.field-0.0
    (next.same r h1)
    (next_is (turn_in r) c.in_ok-x.field-0 c.in-Some.x before after c.in-Some.is (next.next r h1))
    (c.in_err-made.ensures.means r h)
    (c.turns.invariant.so_far r (c.taken.ensures.goes.back r h1)))

-- ---- a call whose parameters may have declared sets

pub calls::eval_function-returns-clause-means : goal.calls::eval_function-returns-clause-means
unfolding plain_type
calls::eval_function-returns-clause-means t c r h =
    let l = c.args.level.now in
    let w = world_in r l in
    let go = go_of r l in
    let ctx = ctx_of l.ctx in
    let f = function c.args.f.now in
    let at = c.args.at in
    let es = map tree c.args.all.now in
    let ks = all_seen r c.args.cells.now in
    let s = state_of r c.args.run.now in
    let v = state_of r c.weighed.new.run in
    let x = state_of r c.eval_parameters.new.run in
    let b = c.in_ok-b.b in
    let g = guard_seen r b.holds in
    let bound : List Decl → Run Names = λ ds. loop (parameter go ctx f.result.ty.var w.top) nothing_bound (arguments ds es ks) in
    let after : Run Cell = λ u. then_do (bound f.params u) (called w go ctx f at) in
    let h1 = c.eval_called.ensures.goes.back r h in
    let h2 = c.in_ok-b.ensures.goes.back r h1 in
    meets_at_is (seen r) c.eval_called.result (state_of r c.eval_called.new.run) _ _
    (ap (λ n. then_do (weigh r.mode n s) (λ _. after)) (sym (c.in_ok-elements.ensures r))
    ∙ ap (λ a. then_do a (λ _. after)) (c.in_ok-weighed.ensures.means r h2)
    ∙ ap (λ ds. then_do (bound (map decl ds) v) (called w go ctx f at)) (sym c.deref.ensures.value)
    ∙ ap (λ a. then_do a (called w go ctx f at)) (c.in_ok-b.ensures.means r h1)
    ∙ ap (λ ss. called_in w go ctx f at g (bind_all ss (map (seen r) b.cells.items) w.top) x) (sym c.deref-2.ensures.value)
    ∙ ap (λ cs. called_in w go ctx f at g (bind_all c.deref-2.result.now (map (seen r) cs) w.top) x) (sym c.deref-3.ensures.value))
    (c.eval_called.ensures.means r h)

pub calls::eval_parameter-returns-clause-means : goal.calls::eval_parameter-returns-clause-means
calls::eval_parameter-returns-clause-means t c r h =
    let l = c.args.level.now in
    let d = decl c.args.d.now in
    let b = names_seen r c.args.b in
    meets_at_is (names_seen r) c.with_local.result (state_of r c.with_local.new.run) _ _
    (parameter_is (go_of r l) (ctx_of l.ctx) c.args.var (world_in r l).top b d (tree c.args.e.now) (seen r c.args.k.now) (state_of r c.args.run.now)
    ∙ ap (λ a. then_do a (λ x. give (with_local b d.slot x))) (c.in_ok-x.ensures.means r (c.with_local.ensures.goes.back r h)))
    (c.with_local.ensures.means r h)

-- ---- parts, gathered

pub forms::eval_gathered-loop-e-preserved : goal.forms::eval_gathered-loop-e-preserved
forms::eval_gathered-loop-e-preserved t c = record {
  goes = goes_on _ _ _ c.loop-e.invariant.goes c.eval_expression.ensures.goes;
  so_far = λ r h.
      let l = c.args.level.now in
      let all = gathered_seen r c.loop-e.cells in
      let v = state_of r c.eval_expression.new.run in
      loop_goes tree (part (go_of r l) (ctx_of l.ctx) (scope_of r l c.args.scope.now)) c.args.all.now c.loop-e.e-index c.e-item.result all (gathered_seen r c.in_ok-cells.cells) (state_of r c.loop-e.run) v _ c.loop-e-test.true c.e-item.is
      (ap (λ a. then_do a (λ k. give (all ++ k ∷ []))) (c.in_ok-cell.ensures.means r h)
      ∙ ap (λ ks. Out ks v) (sym (c.in_ok-cells.ensures r)))
      (c.loop-e.invariant.so_far r (c.eval_expression.ensures.goes.back r h));
}
