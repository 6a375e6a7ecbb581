-- What declarations and functions use: their types apart from the value or the body.
use Rattle.std.specs.Prelude.{◌≡◌, List, [], ◌∷◌, ◌++◌, Bool, true, false, refl}
use Rattle.mz_base.specs.declared.fault.Span.{Span}
use Rattle.mz_tree.specs.Tree as pure
use Rattle.mz_tree.specs.Tree.{Name, Declaration}
use Rattle.mz_tree.specs.Items.{FunctionTree}
use Rattle.mz_scope_names.specs.declared.name_use.NameUse.{NameUse}
use Rattle.mz_scope_names.specs.declared.name_use.NameUse.TheVariants.{Mention}
use Rattle.mz_scope_names.specs.declared.sketch.Sketch.{Sketch as CodeSketch}
use Rattle.mz_scope_names.specs.Uses.{in_tree, in_maybe, in_written, with_declaration}

-- a declaration's or a function's name, whether it is in the space of functions with parameters, and what it uses
pub record Sketch : Type 0 where
  pub name : Name
  pub applied : Bool
  pub types : List NameUse
  pub rest : List NameUse

abbrev pub sketch : CodeSketch → Sketch
sketch o = record { name = o.name; applied = o.applied; types = o.types.items; rest = o.rest.items }

-- all that it uses
abbrev pub all_of : Sketch → List NameUse
all_of s = s.types ++ s.rest

-- a declaration: its type, and its value
abbrev pub decl_sketch : Declaration → Sketch
decl_sketch (pure.declaration t n s e) = record { name = n; applied = false; types = in_written [] t; rest = in_maybe [] e }

-- a parameter's type: a parameter hides outer names from its own end on
abbrev pub in_parameter : List Name → Declaration → List NameUse
in_parameter h (pure.declaration t n s e) = in_written h t

unfoldable pub in_parameters : List Name → List Declaration → List NameUse
in_parameters h [] = []
in_parameters h (p ∷ ps) = in_parameter h p ++ in_parameters (with_declaration h p) ps

unfoldable pub with_parameters : List Name → List Declaration → List Name
with_parameters h [] = h
with_parameters h (p ∷ ps) = with_parameters (with_declaration h p) ps

abbrev pub has_parameters : List Declaration → Bool
has_parameters [] = false
has_parameters (p ∷ ps) = true

-- a function: the types of its parameters and of its result, and its body
abbrev pub function_sketch : FunctionTree → Sketch
function_sketch f = record {
  name = f.name;
  applied = has_parameters f.params;
  types = in_parameters [] f.params ++ in_written (with_parameters [] f.params) f.result;
  rest = in_tree (with_parameters [] f.params) f.body;
}

-- in `f(set of 1..y: s, int: y) = y` the first type mentions the outer `y`, and the body doesn't
pub of_a_parameter : (r s t u v w : Span) → all_of (function_sketch (record { name = 0; span = r; result = pure.written r pure.no_array false false false pure.base_int; params = pure.declaration (pure.written r pure.no_array false false true (pure.base_of (pure.node s (pure.ident 1)))) 2 t pure.nothing ∷ pure.declaration (pure.written r pure.no_array false false false pure.base_int) 1 u pure.nothing ∷ []; body = pure.node v (pure.ident 1) })) ≡ Mention 1 ∷ []
unfolding in_tree in_parameters with_parameters
of_a_parameter r s t u v w = refl
