-- What respects par, and what doesn't.
use Rattle.std.proofs.Common.{Bool, true, false, [], refl}
use Rattle.std.specs.Prelude.{pos}
use Rattle.mz_base.specs.declared.fault.Span.{Span}
use Rattle.mz_core.specs.declared.types.Base.TheVariants as base
use Rattle.mz_core.specs.declared.types.Coercion.TheVariants as coercion
use Rattle.mz_core.specs.Types.{PlainType}
use Rattle.mz_core.specs.Tree as tree
use Rattle.mz_core.specs.Tree.{Tree}
use Rattle.mz_analysis.specs.Par.{RespectsPar}

abbrev int : Bool → PlainType
int v = record { var = v; opt = false; base = base.Int; dims = [] }

module _ (at : Span) where
  abbrev one : Tree
  one = tree.node at (int false) (tree.int (pos 1))

  -- a coercion to var is of a var type
  abbrev to_var : Bool → Tree
  to_var v = tree.node at (int v) (tree.coerce coercion.ToVar one)

  of_var_type : RespectsPar (to_var true)
  of_var_type = record { tree = λ h. absurd (cc h); locals = tt }

  not_of_par_type : RespectsPar (to_var false) → ⊥
  not_of_par_type h = cc ((h.tree refl).links.0)

  -- a local without a value is of a var type
  abbrev local : Bool → Tree
  local v = tree.node at (int v) (tree.let_in (tree.a_decl 0 0 at at (int v) tree.no_maybes tree.nothing tree.nothing tree.no_items) one)

  var_local : RespectsPar (local true)
  var_local = record { tree = λ h. absurd (cc h); locals = ((λ h. absurd (cc h)), tt) }

  no_par_local : RespectsPar (local false) → ⊥
  no_par_local h = cc (h.locals.0 refl)
