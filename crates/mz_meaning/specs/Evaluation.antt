-- EVALUATION: what an expression means.
use Rattle.std.specs.Prelude.{ℕ, zero, suc, pos, Bool, true, false, []}
use Rattle.mz_base.specs.declared.fault.Span.{Span}
use Rattle.mz_base.specs.declared.kind.Kind.TheVariants as kind
use Rattle.mz_value.specs.Contents as values
use Rattle.mz_core.specs.Types.{PlainType}
use Rattle.mz_core.specs.Tree.{Layer, layer, shape_of, place_of, type_of, inner_tree, root_coercions}
use Rattle.mz_core.specs.Tree as tree
use Rattle.mz_meaning.specs.Runs.{Run, ◌>>=◌, stop}
use Rattle.mz_meaning.specs.Cells.{Cell, Env, undefined, par_value, typed}
use Rattle.mz_meaning.specs.Contexts.{Context, within_links}
use Rattle.mz_meaning.specs.Forms.{World, Eval, done, text_at, text_cell, all_cases, coerced_by, builtin, chain, array, table, set, access, branches}
use Rattle.mz_meaning.specs.Comprehensions.{comprehension}
use Rattle.mz_meaning.specs.Lets.{let_of}
use Rattle.mz_meaning.specs.Calls.{call}

-- one node, whose parts `go` evaluates
abbrev pub node : World → Eval → Context → Layer → Span → PlainType → Env → Run Cell
node w go ctx (tree.bool_form b) at t env = done w at (par_value (values.bool b))
node w go ctx (tree.int_form n) at t env = done w at (par_value (values.int n))
node w go ctx (tree.case_form e k) at t env = done w at (par_value (values.case e k))
node w go ctx (tree.text_form n) at t env = done w at (text_cell (text_at w.texts n))
node w go ctx tree.absent_form at t env = done w at (par_value values.absent)
node w go ctx (tree.enum_set_form e) at t env = done w at (par_value (all_cases w.cases e))
node w go ctx (tree.slot_form s) at t env = done w at (env s)
node w go ctx tree.whole_form at t env = done w at undefined
node w go ctx (tree.chain_form e ss) at t env = chain w go ctx e ss at env
node w go ctx (tree.builtin_form n es) at t env = builtin w go ctx n es at t env
node w go ctx (tree.call_form f es) at t env = call w go ctx f es at env
node w go ctx (tree.access_form e es) at t env = access w go ctx e es at t env
node w go ctx (tree.array_form es) at t env = array w go ctx es at env
node w go ctx (tree.rows_form rs) at t env = table w go ctx rs at env
node w go ctx (tree.set_form es) at t env = set w go ctx es at t env
node w go ctx (tree.comp_form braces e gs) at t env = comprehension w go ctx braces e gs at t env
node w go ctx (tree.if_form bs els) at t env = branches w go ctx bs els at t env []
node w go ctx (tree.let_form is e) at t env = let_of w go ctx is e at t env
node w go ctx (tree.coerce_form c e) at t env = done w at undefined

abbrev pub is_name : Layer → Bool
is_name (tree.slot_form s) = true
is_name l = false

-- AN EXPRESSION, below which at most this many levels of nesting are left. Coercions at its root count no nesting: the node below them is evaluated, takes its type, and then they are applied
unfoldable pub eval : World → ℕ → Eval
eval w zero ctx e env = stop kind.Depth (place_of (inner_tree e)) (pos 601)
eval w (suc n) ctx e env = do
  c ← node w (eval w n) (within_links ctx (root_coercions e)) (layer (shape_of (inner_tree e))) (place_of (inner_tree e)) (type_of (inner_tree e)) env
  coerced_by w (place_of (inner_tree e)) (root_coercions e) (typed w.mode (is_name (layer (shape_of (inner_tree e)))) (type_of (inner_tree e)) c)
