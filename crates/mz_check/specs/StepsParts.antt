-- The values of declarations and the bodies of functions, whose types are there already. Mirror of src/items.rt, src/sections.rt and
-- src/assemble.rt; private clauses only.
use Rattle.std.specs.Prelude.{◌≡◌, ℕ, List, Option, Some, None, map, Ok}
use Rattle.std.specs.Option.{option_map}
use Rattle.mz_base.specs.declared.fault.Span.{Span}
use Rattle.mz_core.specs.Tree.{Tree}
use Rattle.mz_core.specs.TreeViews.{tree, decl}
use Rattle.mz_core.specs.Program as program
use Rattle.mz_core.specs.Program.{Goal}
use Rattle.mz_tree.specs.Tree as source
use Rattle.mz_tree.specs.Tree.{Declaration}
use Rattle.mz_tree.specs.Items.{FunctionTree}
use Rattle.mz_scope_order.specs.Scoped.{ScopedTree}
use Rattle.mz_check_meaning.specs.Tests.{Test, ◌>>=◌, each}
use Rattle.mz_check_meaning.specs.Models.{Model, outermost, type_of_decl, heading_of}
use Rattle.mz_check_meaning.specs.Coerced.{fitted}
use Rattle.mz_check_meaning.specs.Typing.{check}
use Rattle.mz_check_meaning.specs.Items.{value_of, with_params, constraint, goal, output}
use Rattle.mz_check_meaning.specs.Checks.{Met, numbered, value_place, tree_place, items_met, Sections}
use Rattle.mz_check.specs.StepsMeeting.{after}
use Rattle.mz_check_exprs.specs.Naming.{IsNamed}
use Rattle.mz_check.specs.declared.parts.TypedItems.{TypedItems}
use Rattle.mz_check.specs.declared.parts.TypedSections.{TypedSections}

abbrev pub value_in : Model → ℕ → Declaration → Test (Option Tree)
value_in m d (source.declaration t n at e) = type_of_decl m at d >>= λ u. value_of m u.ty e

-- the same by the declaration's place and its value

abbrev pub value_by : Model → ℕ → Span → Option source.Tree → Test (Option Tree)
value_by m d at e = type_of_decl m at d >>= λ u. value_of m u.ty (source.maybe e)

abbrev pub IsNamedValue : ℕ → Option source.Tree → Type 0
IsNamedValue k None = Unit {0}
IsNamedValue k (Some e) = IsNamed k e

abbrev pub place_or : Span → Option source.Tree → Span
place_or at None = at
place_or at (Some e) = tree_place e

abbrev pub body_in : Model → ℕ → FunctionTree → Test Tree
body_in m k f = do
  h ← heading_of m f.span k
  e ← check m f.body (with_params h.params (outermost m))
  fitted e h.result.ty

abbrev pub value_of_each : Model → ℕ × Declaration → Test (Option Tree)
value_of_each m d = value_in m d.0 d.1

abbrev pub body_of_each : Model → ℕ × FunctionTree → Test Tree
body_of_each m f = body_in m f.0 f.1

abbrev pub value_at : ℕ × Declaration → Span
value_at d = value_place d.1

abbrev pub body_at : ℕ × FunctionTree → Span
body_at f = tree_place f.1.body

pub record Parts : Type 0 where
  pub values : List (Option Tree)
  pub bodies : List Tree
  pub constraints : List Tree
  pub goal : Goal
  pub outputs : List Tree

-- all typed parts of a model
pub record AreParts (s : ScopedTree) (m : Model) (p : Parts) : Type 0 where
  pub values : each (value_of_each m) (numbered s.decls) ≡ Ok p.values
  pub bodies : each (body_of_each m) (numbered s.functions) ≡ Ok p.bodies
  pub constraints : each (constraint m) s.constraints ≡ Ok p.constraints
  pub goal : goal m s.goal ≡ Ok p.goal
  pub outputs : each (output m) s.outputs ≡ Ok p.outputs

-- what is met first among all items, and their typed parts, where nothing is met
pub record AreAllTested (s : ScopedTree) (m : Model) (first next : Option Met) (p : Parts) : Type 0 where
  pub met : next ≡ after first (items_met s m)
  pub typed : next ≡ None → AreParts s m p

abbrev pub parts : TypedItems → Parts
parts p = record {
  values = map (option_map tree) p.values.items;
  bodies = map tree p.bodies.items;
  constraints = map tree p.constraints.items;
  goal = program.goal p.goal;
  outputs = map tree p.outputs.items;
}

abbrev pub sections_of : TypedSections → Sections
sections_of p = record {
  decls = map decl p.decls.items;
  functions = map program.function p.functions.items;
  constraints = map tree p.constraints.items;
  goal = program.goal p.goal;
  outputs = map tree p.outputs.items;
}
