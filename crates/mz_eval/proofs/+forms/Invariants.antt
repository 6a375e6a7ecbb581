use Rattle.std.proofs.Common.{◌^◌, length, ◌≡◌, [], ◌+◌, ◌-◌, ◌*◌, drop, map, false}
use Rattle.std.specs.Option.{option_map}
use Rattle.mz_core.specs.Types.{plain_type}
use Rattle.mz_core.specs.Tree.{place_of}
use Rattle.mz_core.specs.TreeViews.{tree, branch, step, item}
use Rattle.mz_meaning.specs.Runs.{loop}
use Rattle.mz_meaning.specs.Chains.{operators_at}
use Rattle.mz_meaning.specs.Forms.{part, parts, row_of_parts, chain_by, operators, append_operands, branches}
use Rattle.mz_meaning.specs.Lets.{let_item, nothing_bound, index_wants, one_index}
use Rattle.mz_meaning.specs.Calls.{parameter}
use Rattle.mz_eval_comprehensions.specs.Presences.{presence_seen}
use Rattle.mz_eval_comprehensions.specs.Views.{elements_of, made_in, turns_left}
use Rattle.mz_eval_names.specs.Names.{names_seen}
use Rattle.mz_eval_declared.specs.Wants.{wants_of}
use Rattle.mz_symbol.specs.Makes.{Continues}
use Rattle.mz_eval_cells.specs.Views.{seen, all_seen}
use Rattle.mz_eval_scopes.specs.Seen.{ctx_of}
use Rattle.mz_eval_nodes.specs.Views.{gathered_seen, pairs_seen}
use Rattle.mz_eval_chains.specs.Innermosts.{operator_of}
use Rattle.mz_eval_nodes.specs.Contexts.{later}
use Rattle.mz_eval_nodes.specs.Operators.{appended_seen}
use Rattle.mz_eval_branches.specs.TableCells.{rows_seen}
use Rattle.mz_symbol.specs.Readings.{blank}
use Rattle.mz_eval.specs.Rows.{row_trees}
use Rattle.mz_eval.specs.Chains.{own_operators, operands}
use Rattle.mz_eval.specs.Choices.{else_tree}
use Rattle.mz_eval.specs.Calls.{arguments_seen}
use Rattle.mz_eval.specs.Levels.{world_in, go_of, scope_of}
use Rattle.mz_eval.specs.Comprehensions.{from_own_condition, turn}
use Rattle.mz_eval.proofs.+forms.Given as goal

abbrev pub decreases-forms::eval_expression : goal.decreases-forms::eval_expression
decreases-forms::eval_expression l = 2 ^ 140 * l.level.now.left + 1

abbrev pub decreases-forms::eval_node : goal.decreases-forms::eval_node
decreases-forms::eval_node l = 2 ^ 140 * l.level.now.left + 0

abbrev pub decreases-forms::eval_parts : goal.decreases-forms::eval_parts
decreases-forms::eval_parts l = 2 ^ 140 * l.level.now.left + 2

abbrev pub decreases-forms::eval_gathered : goal.decreases-forms::eval_gathered
decreases-forms::eval_gathered l = 2 ^ 140 * l.level.now.left + 2

abbrev pub decreases-forms::eval_one : goal.decreases-forms::eval_one
decreases-forms::eval_one l = 2 ^ 140 * l.level.now.left + 2

abbrev pub decreases-forms::eval_two : goal.decreases-forms::eval_two
decreases-forms::eval_two l = 2 ^ 140 * l.level.now.left + 2

abbrev pub decreases-forms::eval_row : goal.decreases-forms::eval_row
decreases-forms::eval_row l = 2 ^ 140 * l.level.now.left + 3

abbrev pub decreases-globals::eval_global : goal.decreases-globals::eval_global
decreases-globals::eval_global l = 2 ^ 140 * l.level.now.left + 3

abbrev pub decreases-forms::eval_called : goal.decreases-forms::eval_called
decreases-forms::eval_called l = 2 ^ 140 * l.level.now.left + 4

abbrev pub decreases-forms::eval_builtin : goal.decreases-forms::eval_builtin
decreases-forms::eval_builtin l = 2 ^ 140 * l.level.now.left + 5

abbrev pub decreases-forms::eval_array : goal.decreases-forms::eval_array
decreases-forms::eval_array l = 2 ^ 140 * l.level.now.left + 3

abbrev pub decreases-forms::eval_set : goal.decreases-forms::eval_set
decreases-forms::eval_set l = 2 ^ 140 * l.level.now.left + 3

abbrev pub decreases-forms::eval_rows : goal.decreases-forms::eval_rows
decreases-forms::eval_rows l = 2 ^ 140 * l.level.now.left + 3

abbrev pub decreases-forms::eval_table : goal.decreases-forms::eval_table
decreases-forms::eval_table l = 2 ^ 140 * l.level.now.left + 4

abbrev pub decreases-forms::eval_element : goal.decreases-forms::eval_element
decreases-forms::eval_element l = 2 ^ 140 * l.level.now.left + 3

abbrev pub decreases-forms::eval_element_of_name : goal.decreases-forms::eval_element_of_name
decreases-forms::eval_element_of_name l = 2 ^ 140 * l.level.now.left + 2

abbrev pub decreases-forms::eval_element_of_any : goal.decreases-forms::eval_element_of_any
decreases-forms::eval_element_of_any l = 2 ^ 140 * l.level.now.left + 2

abbrev pub decreases-forms::eval_access : goal.decreases-forms::eval_access
decreases-forms::eval_access l = 2 ^ 140 * l.level.now.left + 4

abbrev pub decreases-operators::eval_operator : goal.decreases-operators::eval_operator
decreases-operators::eval_operator l = 2 ^ 140 * l.level.now.left + 2

abbrev pub decreases-operators::eval_step : goal.decreases-operators::eval_step
decreases-operators::eval_step l = 2 ^ 140 * l.level.now.left + 3

abbrev pub decreases-operators::eval_single : goal.decreases-operators::eval_single
decreases-operators::eval_single l = 2 ^ 140 * l.level.now.left + 3

abbrev pub decreases-operators::eval_plain : goal.decreases-operators::eval_plain
decreases-operators::eval_plain l = 2 ^ 140 * l.level.now.left + 4

abbrev pub decreases-operators::eval_operators : goal.decreases-operators::eval_operators
decreases-operators::eval_operators l = 2 ^ 140 * l.level.now.left + 3

abbrev pub decreases-operators::eval_innermost : goal.decreases-operators::eval_innermost
decreases-operators::eval_innermost l = 2 ^ 140 * l.level.now.left + 4

abbrev pub decreases-operators::eval_with_innermost : goal.decreases-operators::eval_with_innermost
decreases-operators::eval_with_innermost l = 2 ^ 140 * l.level.now.left + 5

abbrev pub decreases-operators::eval_operand : goal.decreases-operators::eval_operand
decreases-operators::eval_operand l = 2 ^ 140 * l.level.now.left + 2

abbrev pub decreases-operators::eval_operands : goal.decreases-operators::eval_operands
decreases-operators::eval_operands l = 2 ^ 140 * l.level.now.left + 3

abbrev pub decreases-operators::eval_back : goal.decreases-operators::eval_back
decreases-operators::eval_back l = 2 ^ 140 * l.level.now.left + 4

abbrev pub decreases-operators::eval_appended : goal.decreases-operators::eval_appended
decreases-operators::eval_appended l = 2 ^ 140 * l.level.now.left + 5

abbrev pub decreases-operators::eval_chain : goal.decreases-operators::eval_chain
decreases-operators::eval_chain l = 2 ^ 140 * l.level.now.left + 6

abbrev pub decreases-choices::eval_last : goal.decreases-choices::eval_last
decreases-choices::eval_last l = 2 ^ 140 * l.level.now.left + 2

abbrev pub decreases-choices::eval_otherwise : goal.decreases-choices::eval_otherwise
decreases-choices::eval_otherwise l = 2 ^ 140 * l.level.now.left + 3

abbrev pub decreases-choices::eval_branch : goal.decreases-choices::eval_branch
decreases-choices::eval_branch l = 2 ^ 140 * l.level.now.left + 2

abbrev pub decreases-choices::eval_open : goal.decreases-choices::eval_open
decreases-choices::eval_open l = 2 ^ 140 * l.level.now.left + 3

abbrev pub decreases-choices::eval_if : goal.decreases-choices::eval_if
decreases-choices::eval_if l = 2 ^ 140 * l.level.now.left + 4

abbrev pub decreases-comprehensions::eval_head : goal.decreases-comprehensions::eval_head
decreases-comprehensions::eval_head l = 2 ^ 140 * l.level.now.left + 2

abbrev pub decreases-locals::eval_under : goal.decreases-locals::eval_under
decreases-locals::eval_under l = 2 ^ 140 * l.level.now.left + 2

abbrev pub decreases-locals::eval_constraint : goal.decreases-locals::eval_constraint
decreases-locals::eval_constraint l = 2 ^ 140 * l.level.now.left + 3

abbrev pub decreases-locals::eval_want : goal.decreases-locals::eval_want
decreases-locals::eval_want l = 2 ^ 140 * l.level.now.left + 2

abbrev pub decreases-locals::eval_index : goal.decreases-locals::eval_index
decreases-locals::eval_index l = 2 ^ 140 * l.level.now.left + 2

abbrev pub decreases-locals::eval_indices : goal.decreases-locals::eval_indices
decreases-locals::eval_indices l = 2 ^ 140 * l.level.now.left + 3

abbrev pub decreases-locals::eval_given : goal.decreases-locals::eval_given
decreases-locals::eval_given l = 2 ^ 140 * l.level.now.left + 2

abbrev pub decreases-locals::eval_declared : goal.decreases-locals::eval_declared
decreases-locals::eval_declared l = 2 ^ 140 * l.level.now.left + 4

abbrev pub decreases-locals::eval_framed : goal.decreases-locals::eval_framed
decreases-locals::eval_framed l = 2 ^ 140 * l.level.now.left + 5

abbrev pub decreases-locals::eval_local : goal.decreases-locals::eval_local
decreases-locals::eval_local l = 2 ^ 140 * l.level.now.left + 6

abbrev pub decreases-locals::eval_item : goal.decreases-locals::eval_item
decreases-locals::eval_item l = 2 ^ 140 * l.level.now.left + 7

abbrev pub decreases-locals::eval_items : goal.decreases-locals::eval_items
decreases-locals::eval_items l = 2 ^ 140 * l.level.now.left + 8

abbrev pub decreases-locals::eval_let : goal.decreases-locals::eval_let
decreases-locals::eval_let l = 2 ^ 140 * l.level.now.left + 9

abbrev pub decreases-calls::eval_argument : goal.decreases-calls::eval_argument
decreases-calls::eval_argument l = 2 ^ 140 * l.level.now.left + 4

abbrev pub decreases-calls::eval_suited : goal.decreases-calls::eval_suited
decreases-calls::eval_suited l = 2 ^ 140 * l.level.now.left + 5

abbrev pub decreases-calls::eval_parameter : goal.decreases-calls::eval_parameter
decreases-calls::eval_parameter l = 2 ^ 140 * l.level.now.left + 6

abbrev pub decreases-calls::eval_parameters : goal.decreases-calls::eval_parameters
decreases-calls::eval_parameters l = 2 ^ 140 * l.level.now.left + 7

abbrev pub decreases-calls::eval_called : goal.decreases-calls::eval_called
decreases-calls::eval_called l = 2 ^ 140 * l.level.now.left + 5

abbrev pub decreases-calls::eval_result : goal.decreases-calls::eval_result
decreases-calls::eval_result l = 2 ^ 140 * l.level.now.left + 4

abbrev pub decreases-calls::eval_function : goal.decreases-calls::eval_function
decreases-calls::eval_function l = 2 ^ 140 * l.level.now.left + 8

abbrev pub decreases-calls::eval_call_of : goal.decreases-calls::eval_call_of
decreases-calls::eval_call_of l = 2 ^ 140 * l.level.now.left + 9

abbrev pub decreases-calls::eval_declared_call : goal.decreases-calls::eval_declared_call
decreases-calls::eval_declared_call l = 2 ^ 140 * l.level.now.left + 10

abbrev pub decreases-plain_calls::eval_unbound : goal.decreases-plain_calls::eval_unbound
decreases-plain_calls::eval_unbound l = 2 ^ 140 * l.level.now.left + 6

abbrev pub decreases-plain_calls::eval_weighed : goal.decreases-plain_calls::eval_weighed
decreases-plain_calls::eval_weighed l = 2 ^ 140 * l.level.now.left + 6

abbrev pub decreases-plain_calls::eval_bound : goal.decreases-plain_calls::eval_bound
decreases-plain_calls::eval_bound l = 2 ^ 140 * l.level.now.left + (2 * length l.all.now + 7)

abbrev pub decreases-plain_calls::eval_first : goal.decreases-plain_calls::eval_first
decreases-plain_calls::eval_first l = 2 ^ 140 * l.level.now.left + (2 * length l.all.now + 8)

abbrev pub decreases-plain_calls::eval_plain_call : goal.decreases-plain_calls::eval_plain_call
decreases-plain_calls::eval_plain_call l = 2 ^ 140 * l.level.now.left + (2 * length l.all.now + 8)

abbrev pub decreases-calls::eval_call : goal.decreases-calls::eval_call
decreases-calls::eval_call l = 2 ^ 140 * l.level.now.left + (2 * length l.all.now + 11)

abbrev pub decreases-forms::eval_form : goal.decreases-forms::eval_form
decreases-forms::eval_form l = 2 ^ 140 * l.level.now.left + (2 ^ 140 - 1)

abbrev pub decreases-forms::eval_whole : goal.decreases-forms::eval_whole
decreases-forms::eval_whole l = 2 ^ 140 * l.level.now.left + (2 ^ 140 - 2)

abbrev pub decreases-comprehensions::eval_comprehension : goal.decreases-comprehensions::eval_comprehension
decreases-comprehensions::eval_comprehension l = 2 ^ 140 * l.level.now.left + (2 ^ 140 - 3)

abbrev pub decreases-comprehensions::eval_generators : goal.decreases-comprehensions::eval_generators
decreases-comprehensions::eval_generators l = 2 ^ 140 * l.level.now.left + (2 ^ 70 * length l.all.now + 3)

abbrev pub decreases-comprehensions::eval_generator : goal.decreases-comprehensions::eval_generator
decreases-comprehensions::eval_generator l = 2 ^ 140 * l.level.now.left + (2 ^ 70 * length l.others.now + 2 ^ 70)

abbrev pub decreases-comprehensions::eval_names : goal.decreases-comprehensions::eval_names
decreases-comprehensions::eval_names l = 2 ^ 140 * l.level.now.left + (2 ^ 70 * length l.g.now.others.now + (5 * length l.slots.now + 6))

abbrev pub decreases-comprehensions::eval_name : goal.decreases-comprehensions::eval_name
decreases-comprehensions::eval_name l = 2 ^ 140 * l.level.now.left + (2 ^ 70 * length l.g.now.others.now + (5 * length l.slots.now.others.now + 10))

abbrev pub decreases-comprehensions::eval_turn : goal.decreases-comprehensions::eval_turn
decreases-comprehensions::eval_turn l = 2 ^ 140 * l.level.now.left + (2 ^ 70 * length l.g.now.others.now + (5 * length l.slots.now.others.now + 8))

abbrev pub decreases-comprehensions::eval_where : goal.decreases-comprehensions::eval_where
decreases-comprehensions::eval_where l = 2 ^ 140 * l.level.now.left + (2 ^ 70 * length l.g.now.others.now + 5)

abbrev pub decreases-comprehensions::eval_filtered : goal.decreases-comprehensions::eval_filtered
decreases-comprehensions::eval_filtered l = 2 ^ 140 * l.level.now.left + (2 ^ 70 * length l.g.now.others.now + 4)

abbrev pub invariant-forms::eval_parts-loop-e : goal.invariant-forms::eval_parts-loop-e
invariant-forms::eval_parts-loop-e l = Continues l.fn.run l.run
    (λ r. parts (go_of r l.level) (ctx_of l.level.ctx) (map tree l.all) (scope_of r l.level l.scope))
    (λ r. loop (part (go_of r l.level) (ctx_of l.level.ctx) (scope_of r l.level l.scope)) (all_seen r l.cells.items) (map tree (drop l.e-index l.all)))

abbrev pub invariant-forms::eval_gathered-loop-e : goal.invariant-forms::eval_gathered-loop-e
invariant-forms::eval_gathered-loop-e l = Continues l.fn.run l.run
    (λ r. parts (go_of r l.level) (ctx_of l.level.ctx) (map tree l.all) (scope_of r l.level l.scope))
    (λ r. loop (part (go_of r l.level) (ctx_of l.level.ctx) (scope_of r l.level l.scope)) (gathered_seen r l.cells) (map tree (drop l.e-index l.all)))

abbrev pub invariant-forms::eval_rows-loop-row : goal.invariant-forms::eval_rows-loop-row
invariant-forms::eval_rows-loop-row l = Continues l.fn.run l.run
    (λ r. loop (row_of_parts (go_of r l.level) (ctx_of l.level.ctx) (scope_of r l.level l.scope)) [] (row_trees l.rows))
    (λ r. loop (row_of_parts (go_of r l.level) (ctx_of l.level.ctx) (scope_of r l.level l.scope)) (rows_seen r l.all.items) (row_trees (drop l.row-index l.rows)))

abbrev pub invariant-operators::eval_plain-loop-s : goal.invariant-operators::eval_plain-loop-s
invariant-operators::eval_plain-loop-s l = Continues l.fn.run l.run
    (λ r. chain_by (world_in r l.level) (go_of r l.level) (ctx_of l.level.ctx) (scope_of r l.level l.scope) false (own_operators l.at l.first l.all))
    (λ r. operators (world_in r l.level) (go_of r l.level) (ctx_of l.level.ctx) (scope_of r l.level l.scope) l.place (seen r l.cell) (operators_at l.at (map step (drop l.s-index l.all))))

abbrev pub invariant-operators::eval_operators-loop-i : goal.invariant-operators::eval_operators-loop-i
invariant-operators::eval_operators-loop-i l = (Continues l.fn.run l.run
    (λ r. operators (world_in r l.level) (go_of r l.level) (ctx_of l.level.ctx) (scope_of r l.level l.scope) (place_of (tree l.first)) (seen r l.fn.left_cell) (map operator_of l.all))
    (λ r. operators (world_in r l.level) (go_of r l.level) (ctx_of l.level.ctx) (scope_of r l.level l.scope) l.place (seen r l.cell) (map operator_of (drop l.i l.all))))
    × (map ctx_of l.stack.items ≡ later (ctx_of l.level.ctx) (map operator_of (drop l.i l.all)))

abbrev pub invariant-operators::eval_operands-loop-i : goal.invariant-operators::eval_operands-loop-i
invariant-operators::eval_operands-loop-i l = Continues l.fn.run l.run
    (λ r. operands (world_in r l.level) (go_of r l.level) (ctx_of l.level.ctx) (scope_of r l.level l.scope) l.fn.first (seen r l.fn.cell) (map operator_of l.all))
    (λ r. append_operands (world_in r l.level) (go_of r l.level) (ctx_of l.ctx) (scope_of r l.level l.scope) (appended_seen r l.x) (map operator_of (drop l.i l.all)))

abbrev pub invariant-choices::eval_if-loop-b : goal.invariant-choices::eval_if-loop-b
invariant-choices::eval_if-loop-b l = Continues l.fn.run l.run
    (λ r. branches (world_in r l.level) (go_of r l.level) (ctx_of l.level.ctx) (map branch l.all) (else_tree l.last) l.node.span (plain_type l.node.ty) (scope_of r l.level l.scope) [])
    (λ r. branches (world_in r l.level) (go_of r l.level) (ctx_of l.level.ctx) (map branch (drop l.b-index l.all)) (else_tree l.last) l.node.span (plain_type l.node.ty) (scope_of r l.level l.scope) (pairs_seen r l.others.items))

abbrev pub invariant-comprehensions::eval_name-turns : goal.invariant-comprehensions::eval_name-turns
invariant-comprehensions::eval_name-turns l = Continues l.fn.run l.run
    (λ r. loop (turn (world_in r l.level) l.g.whole.now.at (elements_of r l.g.elements.now) l.slots.first l.slots.others.now (from_own_condition r l.level l.g) (scope_of r l.level l.scope) (presence_seen r l.occurs)) (made_in r l.fn.made) (elements_of r l.g.elements.now))
    (λ r. loop (turn (world_in r l.level) l.g.whole.now.at (elements_of r l.g.elements.now) l.slots.first l.slots.others.now (from_own_condition r l.level l.g) (scope_of r l.level l.scope) (presence_seen r l.occurs)) (made_in r l.made) (turns_left r l.left_turns))

abbrev pub decreases-comprehensions::eval_name-turns : goal.decreases-comprehensions::eval_name-turns
decreases-comprehensions::eval_name-turns l = length (turns_left blank l.left_turns)

abbrev pub invariant-locals::eval_items-loop-i : goal.invariant-locals::eval_items-loop-i
invariant-locals::eval_items-loop-i l = Continues l.fn.run l.run
    (λ r. loop (let_item (world_in r l.level) (go_of r l.level) (ctx_of l.level.ctx) (scope_of r l.level l.scope)) nothing_bound (map item l.items))
    (λ r. loop (let_item (world_in r l.level) (go_of r l.level) (ctx_of l.level.ctx) (scope_of r l.level l.scope)) (names_seen r l.b) (map item (drop l.i-index l.items)))

abbrev pub invariant-locals::eval_indices-loop-e : goal.invariant-locals::eval_indices-loop-e
invariant-locals::eval_indices-loop-e l = Continues l.fn.run l.run
    (λ r. index_wants (go_of r l.level) (ctx_of l.level.ctx) (map (option_map tree) l.all) (scope_of r l.level l.scope))
    (λ r. loop (one_index (go_of r l.level) (ctx_of l.level.ctx) (scope_of r l.level l.scope)) (wants_of l.wants.items) (map (option_map tree) (drop l.e-index l.all)))

abbrev pub invariant-calls::eval_parameters-loop-i : goal.invariant-calls::eval_parameters-loop-i
invariant-calls::eval_parameters-loop-i l = Continues l.fn.run l.run
    (λ r. loop (parameter (go_of r l.level) (ctx_of l.level.ctx) l.var (world_in r l.level).top) nothing_bound (arguments_seen r l.params l.all l.cells))
    (λ r. loop (parameter (go_of r l.level) (ctx_of l.level.ctx) l.var (world_in r l.level).top) (names_seen r l.b) (arguments_seen r (drop l.i l.params) (drop l.i l.all) (drop l.i l.cells)))
