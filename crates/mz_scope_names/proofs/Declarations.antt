-- The occurrences in a declaration: in a `let`, as a parameter and at top level.
use Rattle.std.proofs.Common.{◌≡◌, Bool, true, false, not, [], ◌∷◌, ◌++◌, refl, ap, ◌∙◌, map, Option, Some, None}
use Rattle.std.specs.Option.{option_map}
use Rattle.mz_base.specs.declared.fault.Span.{Span}
use Rattle.mz_tree.specs.declared.expr.Expr.{Expr}
use Rattle.mz_tree.specs.declared.expr.TypeText.{TypeText}
use Rattle.mz_tree.specs.declared.expr.Decl.{Decl}
use Rattle.mz_tree.specs.declared.expr.Form.TheViews.{out-Decl, out-TypeText}
use Rattle.mz_tree.specs.Tree as pure
use Rattle.mz_tree.specs.Tree.{Name, Tree, Based, Dims}
use Rattle.mz_tree.specs.Views.{tree, based, declaration, written}
use Rattle.mz_tree.proofs.Looks.{declaration_is, written_is}
use Rattle.mz_scope_names.specs.declared.occurrence.Role.TheVariants.{Declared, Valued, Local, Lacking, Wanting}
use Rattle.mz_scope_names.specs.Roles.{occurs}
use Rattle.mz_scope_names.specs.Occurrences.{is_par, lack, value_of, in_tree, in_maybe, in_written, in_local, in_parameter, in_top}

-- whether its type is par
par_as : (s : Span) (ds : Dims) (v o t b : Bool) (c : Based) → v ≡ b → is_par (pure.written s ds v o t c) ≡ not b
par_as s ds v o t true c h = rw h refl
par_as s ds v o t false c h = rw h refl

pub is_par_by : (t : TypeText) (b : Bool) → (out-TypeText t).var ≡ b → is_par (written t) ≡ not b
is_par_by t b h = let u = out-TypeText t in ap is_par (written_is t) ∙ par_as u.span (pure.dims (option_map (λ v. map based v.items) u.dims)) u.var u.opt u.set b (based u.base) h

-- A declaration in a `let`, with what it lacks

local_as : (d : Decl) (c : Option Expr) (b : Bool) → (out-Decl d).value ≡ c → is_par (written (out-Decl d).ty) ≡ b → in_local (declaration d) ≡ in_written (written (out-Decl d).ty) ++ (occurs Local (out-Decl d).name (out-Decl d).span ∷ (lack b (out-Decl d).name (out-Decl d).span (pure.maybe (option_map tree c)) ++ in_maybe (pure.maybe (option_map tree c))))
unfolding in_tree
local_as d c b h p =
    let u = out-Decl d in
    ap in_local (declaration_is d)
    ∙ ap (λ z. in_written (written u.ty) ++ (occurs Local u.name u.span ∷ (lack (is_par (written u.ty)) u.name u.span (pure.maybe (option_map tree z)) ++ in_maybe (pure.maybe (option_map tree z))))) h
    ∙ ap (λ z. in_written (written u.ty) ++ (occurs Local u.name u.span ∷ (lack z u.name u.span (pure.maybe (option_map tree c)) ++ in_maybe (pure.maybe (option_map tree c))))) p

lacks_none : (b : Bool) (n : Name) (s : Span) (e : Tree) → lack b n s (pure.just e) ≡ []
lacks_none true n s e = refl
lacks_none false n s e = refl

pub in_local_value : (d : Decl) (e : Expr) → (out-Decl d).value ≡ Some e → in_local (declaration d) ≡ in_written (written (out-Decl d).ty) ++ ((occurs Local (out-Decl d).name (out-Decl d).span ∷ []) ++ in_tree (tree e))
unfolding in_tree
in_local_value d e h =
    let u = out-Decl d in
    let b = is_par (written u.ty) in
    local_as d (Some e) b h refl ∙ ap (λ z. in_written (written u.ty) ++ (occurs Local u.name u.span ∷ (z ++ in_tree (tree e)))) (lacks_none b u.name u.span (tree e))

pub in_local_var : (d : Decl) → (out-Decl d).value ≡ None → (out-TypeText (out-Decl d).ty).var ≡ true → in_local (declaration d) ≡ in_written (written (out-Decl d).ty) ++ (occurs Local (out-Decl d).name (out-Decl d).span ∷ [])
unfolding in_tree
in_local_var d h v = local_as d None false h (is_par_by (out-Decl d).ty true v)

pub in_local_par : (d : Decl) → (out-Decl d).value ≡ None → (out-TypeText (out-Decl d).ty).var ≡ false → in_local (declaration d) ≡ in_written (written (out-Decl d).ty) ++ ((occurs Local (out-Decl d).name (out-Decl d).span ∷ []) ++ (occurs Lacking (out-Decl d).name (out-Decl d).span ∷ []))
unfolding in_tree
in_local_par d h v = local_as d None true h (is_par_by (out-Decl d).ty false v)

-- A parameter

parameter_as : (d : Decl) (c : Option Expr) → (out-Decl d).value ≡ c → in_parameter (declaration d) ≡ in_written (written (out-Decl d).ty) ++ (occurs Local (out-Decl d).name (out-Decl d).span ∷ in_maybe (pure.maybe (option_map tree c)))
unfolding in_tree in_parameter
parameter_as d c h =
    let u = out-Decl d in
    ap in_parameter (declaration_is d) ∙ ap (λ z. in_written (written u.ty) ++ (occurs Local u.name u.span ∷ in_maybe (pure.maybe (option_map tree z)))) h

pub in_parameter_value : (d : Decl) (e : Expr) → (out-Decl d).value ≡ Some e → in_parameter (declaration d) ≡ in_written (written (out-Decl d).ty) ++ ((occurs Local (out-Decl d).name (out-Decl d).span ∷ []) ++ in_tree (tree e))
unfolding in_tree
in_parameter_value d e h = parameter_as d (Some e) h

pub in_parameter_alone : (d : Decl) → (out-Decl d).value ≡ None → in_parameter (declaration d) ≡ in_written (written (out-Decl d).ty) ++ (occurs Local (out-Decl d).name (out-Decl d).span ∷ [])
unfolding in_tree
in_parameter_alone d h = parameter_as d None h

-- A declaration at top level

top_as : (d : Decl) (c : Option Expr) (b : Bool) → (out-Decl d).value ≡ c → is_par (written (out-Decl d).ty) ≡ b → in_top (declaration d) ≡ in_written (written (out-Decl d).ty) ++ (occurs Declared (out-Decl d).name (out-Decl d).span ∷ (value_of b (out-Decl d).name (out-Decl d).span (pure.maybe (option_map tree c)) ++ in_maybe (pure.maybe (option_map tree c))))
unfolding in_tree in_top
top_as d c b h p =
    let u = out-Decl d in
    ap in_top (declaration_is d)
    ∙ ap (λ z. in_written (written u.ty) ++ (occurs Declared u.name u.span ∷ (value_of (is_par (written u.ty)) u.name u.span (pure.maybe (option_map tree z)) ++ in_maybe (pure.maybe (option_map tree z))))) h
    ∙ ap (λ z. in_written (written u.ty) ++ (occurs Declared u.name u.span ∷ (value_of z u.name u.span (pure.maybe (option_map tree c)) ++ in_maybe (pure.maybe (option_map tree c))))) p

pub in_top_value : (d : Decl) (e : Expr) → (out-Decl d).value ≡ Some e → in_top (declaration d) ≡ in_written (written (out-Decl d).ty) ++ ((occurs Declared (out-Decl d).name (out-Decl d).span ∷ []) ++ ((occurs Valued (out-Decl d).name (out-Decl d).span ∷ []) ++ in_tree (tree e)))
unfolding in_tree
in_top_value d e h = top_as d (Some e) (is_par (written (out-Decl d).ty)) h refl

pub in_top_var : (d : Decl) → (out-Decl d).value ≡ None → (out-TypeText (out-Decl d).ty).var ≡ true → in_top (declaration d) ≡ in_written (written (out-Decl d).ty) ++ (occurs Declared (out-Decl d).name (out-Decl d).span ∷ [])
unfolding in_tree
in_top_var d h v = top_as d None false h (is_par_by (out-Decl d).ty true v)

pub in_top_par : (d : Decl) → (out-Decl d).value ≡ None → (out-TypeText (out-Decl d).ty).var ≡ false → in_top (declaration d) ≡ in_written (written (out-Decl d).ty) ++ ((occurs Declared (out-Decl d).name (out-Decl d).span ∷ []) ++ (occurs Wanting (out-Decl d).name (out-Decl d).span ∷ []))
unfolding in_tree
in_top_par d h v = top_as d None true h (is_par_by (out-Decl d).ty false v)
