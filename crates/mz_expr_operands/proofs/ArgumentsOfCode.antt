-- The code's arguments as they are taken, and what they stand for.
use Rattle.std.proofs.Common.{◌≡◌, ap, sym, ◌∙◌, Bool, true, false, List, [], ◌∷◌, ◌++◌, map, ◌<◌, length, arith}
use Rattle.std.specs.Prelude.{Option, Some, None, if◌then◌else◌}
use Rattle.std.specs.Option.{option_map}
use Rattle.std.proofs.lemmas.List.{map-append, length-map}
use Rattle.mz_base.specs.declared.fault.Span.{Span}
use Rattle.mz_tree.specs.Tree.{Name, maybe}
use Rattle.mz_tree.specs.Tree as pure
use Rattle.mz_tree.specs.declared.expr.Expr.{Expr}
use Rattle.mz_tree.specs.declared.expr.Gen.{Gen}
use Rattle.mz_tree.specs.Views.{tree, generator}
use Rattle.mz_grammar.specs.Parts.{tree_of}
use Rattle.mz_grammar.specs.Arguments.{unguarded_of, trees_of, role_of, bound, generators_of}
use Rattle.mz_expr_operands.specs.declared.argument.Argument.{Argument}
use Rattle.mz_expr_operands.specs.declared.argument.Role.{Role}
use Rattle.mz_expr_operands.specs.declared.argument.Role.TheVariants as role_is
use Rattle.mz_expr_operands.specs.declared.operand.Operand.{Operand}
use Rattle.mz_base.specs.declared.one_drop.OneDrop.{OneDrop}
use Rattle.mz_expr_operands.specs.Views.{operand, argument, role, condition}
use Rattle.mz_expr_operands.proofs.Arguments.{trees_of-behind, Taken, taken-waiting, taken-bound, taken-unfit, taken-done, taken-waits, taken-fails}

-- one more that is an expression
pub exprs_of-unguarded : (args : List Argument) (arg : Argument) (x : Operand) (fit : Bool) (all more : List Expr) (e : Expr) → Some (operand x) ≡ unguarded_of (argument arg) → tree e ≡ tree_of (operand x) → more ≡ all ++ (e ∷ []) → trees_of (map argument args) ≡ (if fit then Some (map tree all) else None) → trees_of (map argument (args ++ (arg ∷ []))) ≡ (if fit then Some (map tree more) else None)
exprs_of-unguarded args arg x true all more e g t m h = rw (map-append, trees_of-behind (map argument args) (argument arg), h, ← g, m, map-append, t)
exprs_of-unguarded args arg x false all more e g t m h = rw (map-append, trees_of-behind (map argument args) (argument arg), h)

-- one more that is none
pub exprs_of-other : (args : List Argument) (arg : Argument) (fit : Bool) (all : List Expr) → None ≡ unguarded_of (argument arg) → trees_of (map argument args) ≡ (if fit then Some (map tree all) else None) → trees_of (map argument (args ++ (arg ∷ []))) ≡ None
exprs_of-other args arg true all g h = rw (map-append, trees_of-behind (map argument args) (argument arg), h, ← g)
exprs_of-other args arg false all g h = rw (map-append, trees_of-behind (map argument args) (argument arg), h)

-- one more that is a name
pub taken_of-waiting : (args : List Argument) (arg : Argument) (fit : Bool) (gens : List Gen) (names more : List (Name × Span)) (r : Role) (n : Name) (s : Span) → role r ≡ role_of (argument arg) → r ≡ role_is.Waiting n s → more ≡ names ++ ((n, s) ∷ []) → Taken (map argument args) fit (map generator gens) names → Taken (map argument (args ++ (arg ∷ []))) fit (map generator gens) more
taken_of-waiting args arg fit gens names more r n s g i m h = rw (map-append, m) (taken-waiting (map argument args) fit (map generator gens) names (argument arg) n s (sym g ∙ ap role i) h)

-- one more that stands with a set
pub taken_of-bound : (args : List Argument) (arg : Argument) (fit : Bool) (gens more : List Gen) (names all none : List (Name × Span)) (r : Role) (ms : List (Name × Span)) (e : OneDrop Expr) (c : Option (OneDrop Expr)) (f : Expr) (d : Option Expr) (g : Gen) → role r ≡ role_of (argument arg) → role r ≡ bound ms (tree e.value) (condition c) → all ≡ names ++ ms → f ≡ e.value → maybe (option_map tree d) ≡ condition c → generator g ≡ pure.generator all (tree f) (maybe (option_map tree d)) → more ≡ gens ++ (g ∷ []) → none ≡ [] → Taken (map argument args) fit (map generator gens) names → Taken (map argument (args ++ (arg ∷ []))) fit (map generator more) none
taken_of-bound args arg fit gens more names all none r ms e c f d g k i a same_set same_condition m o z h = rw (map-append, o, map-append, m, a, same_set, same_condition, z) (taken-bound (map argument args) fit (map generator gens) names ms (argument arg) (tree e.value) (condition c) (sym k ∙ i) h)

-- one more that is no generator's
pub taken_of-unfit : (args : List Argument) (arg : Argument) (fit : Bool) (gens : List Gen) (names : List (Name × Span)) (r : Role) → role r ≡ role_of (argument arg) → r ≡ role_is.Unfit → Taken (map argument args) fit (map generator gens) names → Taken (map argument (args ++ (arg ∷ []))) false (map generator gens) names
taken_of-unfit args arg fit gens names r g i h = rw map-append (taken-unfit (map argument args) fit (map generator gens) names (argument arg) (sym g ∙ ap role i) h)

-- what there is one of stands for one at least
some_of : (args : List Argument) → 0 < length args → 0 < length (map argument args)
some_of args h = rw length-map h

-- all were taken, they fit and no name waits
pub taken_of-done : (taken args : List Argument) (fit : Bool) (gens : List Gen) (names : List (Name × Span)) → taken ≡ args → 0 < length args → fit ≡ true → length names ≡ 0 → Taken (map argument taken) fit (map generator gens) names → Some (map generator gens) ≡ generators_of (map argument args)
taken_of-done taken args true gens [] e n f z h = sym (taken-done (map argument args) (map generator gens) (some_of args n) (rw e at h))
taken_of-done taken args true gens (m ∷ ms) e n f z h = absurd (omega arith)
taken_of-done taken args false gens names e n f z h = absurd (cc)

-- a name still waits for its `in`
pub taken_of-waits : (taken args : List Argument) (fit : Bool) (gens : List Gen) (names : List (Name × Span)) → taken ≡ args → 0 < length args → 0 < length names → Taken (map argument taken) fit (map generator gens) names → None ≡ generators_of (map argument args)
taken_of-waits taken args fit gens [] e n w h = absurd (omega arith)
taken_of-waits taken args fit gens (m ∷ ms) e n w h = sym (taken-waits (map argument args) fit (map generator gens) m ms (some_of args n) (rw e at h))

-- some argument was no generator's
pub taken_of-fails : (taken args : List Argument) (fit : Bool) (gens : List Gen) (names : List (Name × Span)) → taken ≡ args → 0 < length args → fit ≡ false → Taken (map argument taken) fit (map generator gens) names → None ≡ generators_of (map argument args)
taken_of-fails taken args true gens names e n f h = absurd (cc)
taken_of-fails taken args false gens names e n f h = sym (taken-fails (map argument args) (map generator gens) names (some_of args n) (rw e at h))
