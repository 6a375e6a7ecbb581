-- The names of an instance's variables are those of the declarations.
use Rattle.std.proofs.Common.{◌≡◌, ◌∙◌, ℕ, zero, suc, ◌<◌, Bool, true, false, List, [], ◌∷◌, length, map, get_or, Option, Some, None, refl, sym, ap, subst, arith}
use Rattle.std.specs.Prelude.{All, slice_get}
use Rattle.std.specs.List.{Contains, AllByRecursion}
use Rattle.std.proofs.lemmas.List.Elements.{All-head, All-tail}
use Rattle.mz_base.specs.Names.{text_of}
use Rattle.mz_core.specs.Tree.{Decl}
use Rattle.mz_arena.specs.Instances.{ModelVar}
use Rattle.mz_meaning.specs.Walk.{with_decl, ordered}
use Rattle.mz_model_meaning.specs.Modeled.{AreVarsOf, IsHead, IsVarOf, var_tail}
use Rattle.fz_program.specs.Names.{Name}
use Rattle.fz_program.specs.Flat.{AreDistinct}
use Rattle.flat_meaning.specs.Front.{HasName, HaveNames, AreNamed}
use Rattle.mz_tool.specs.Spelled.{IsSpelled}

abbrev AreSpelled : List Name → List Decl → Type 0
AreSpelled table ds = AllByRecursion (λ d. IsSpelled (text_of table d.name)) ds

-- ---- the declarations in their order are among all

each_spelled : (table : List Name) (ds : List Decl) → All (λ n. IsSpelled (text_of table n)) (map (λ d. d.name) ds) → AreSpelled table ds
each_spelled table [] all = tt
each_spelled table (d ∷ ds) all =
    (All-head (λ n. IsSpelled (text_of table n)) d.name (map (λ e. e.name) ds) all, each_spelled table ds (All-tail (λ n. IsSpelled (text_of table n)) d.name (map (λ e. e.name) ds) all))

one_spelled : (table : List Name) (ds : List Decl) (k : ℕ) (d : Decl) → AreSpelled table ds → slice_get ds k ≡ Some d → IsSpelled (text_of table d.name)
one_spelled table [] k d spelled at = absurd (cc)
one_spelled table (e ∷ ds) zero d spelled at = subst (λ (x : Decl). IsSpelled (text_of table x.name)) (let same : e ≡ d = cc in same) spelled.0
one_spelled table (e ∷ ds) (suc k) d spelled at = one_spelled table ds k d spelled.1 at

next_spelled : (table : List Name) (ds others : List Decl) (k : ℕ) (o : Option Decl) → slice_get ds k ≡ o → AreSpelled table ds → AreSpelled table others → AreSpelled table (with_decl others o)
next_spelled table ds others k None at spelled rest = rest
next_spelled table ds others k (Some d) at spelled rest = (one_spelled table ds k d spelled at, rest)

ordered_spelled : (table : List Name) (ds : List Decl) (order : List ℕ) → AreSpelled table ds → AreSpelled table (ordered ds order)
ordered_spelled table ds [] spelled = tt
ordered_spelled table ds (k ∷ ks) spelled = next_spelled table ds (ordered ds ks) k (slice_get ds k) refl spelled (ordered_spelled table ds ks spelled)

-- ---- names of variables

name_of : (table : List Name) (d : Decl) (m : ModelVar) → IsVarOf d m → IsSpelled (text_of table d.name) → HasName table m
name_of table d m is spelled =
    let its : IsSpelled (text_of table m.name) = subst IsSpelled (ap (text_of table) (sym is.name)) spelled in
    record { name = its.0; own = its.1 }

have_names : (table : List Name) (ds : List Decl) (ms : List ModelVar) → AreSpelled table ds → AreVarsOf ds ms → HaveNames table ms
have_names table [] [] spelled vars = tt
have_names table [] (m ∷ ms) spelled vars = absurd vars
have_names table (d ∷ ds) ms spelled vars = by (λ ms rest. have_names table ds ms spelled.1 rest) d.ty.ty.var ms vars.0 vars.1
  where
    by : ((ms : List ModelVar) → AreVarsOf ds ms → HaveNames table ms) → (v : Bool) (ms : List ModelVar) → IsHead v d ms → AreVarsOf ds (var_tail v ms) → HaveNames table ms
    by go false ms head rest = go ms rest
    by go true [] head rest = absurd head
    by go true (m ∷ ms) head rest = (name_of table d m head spelled.0, go ms rest)

abbrev texts_of : List Name → List Decl → List Name
texts_of table ds = map (λ d. text_of table d.name) ds

abbrev var_texts : List Name → List ModelVar → List Name
var_texts table ms = map (λ (m : ModelVar). text_of table m.name) ms

one_later : (x y : Name) (xs : List Name) → Contains xs x → Contains (y ∷ xs) x
one_later x y xs (k, below, at) = (suc k, omega (arith, below), at)

-- a variable's text is that of a declaration
among : (table : List Name) (ds : List Decl) (ms : List ModelVar) (x : Name) → AreVarsOf ds ms → Contains (var_texts table ms) x → Contains (texts_of table ds) x
among table [] [] x vars (k, below, at) = absurd (omega (arith, below))
among table [] (m ∷ ms) x vars has = absurd vars
among table (d ∷ ds) ms x vars has = by (λ ms rest has. among table ds ms x rest has) d.ty.ty.var ms vars.0 vars.1 has
  where
    by : ((ms : List ModelVar) → AreVarsOf ds ms → Contains (var_texts table ms) x → Contains (texts_of table ds) x) → (v : Bool) (ms : List ModelVar) → IsHead v d ms → AreVarsOf ds (var_tail v ms) → Contains (var_texts table ms) x → Contains (texts_of table (d ∷ ds)) x
    by go false ms head rest has = one_later x (text_of table d.name) (texts_of table ds) (go ms rest has)
    by go true [] head rest has = absurd head
    by go true (m ∷ ms) head rest (zero, below, at) = (0, omega arith, ap (text_of table) (sym head.name) ∙ at)
    by go true (m ∷ ms) head rest (suc k, below, at) = one_later x (text_of table d.name) (texts_of table ds) (go ms rest (k, omega (arith, below), at))

are_distinct : (table : List Name) (ds : List Decl) (ms : List ModelVar) → AreVarsOf ds ms → AreDistinct (texts_of table ds) → AreDistinct (var_texts table ms)
are_distinct table [] [] vars distinct = tt
are_distinct table [] (m ∷ ms) vars distinct = absurd vars
are_distinct table (d ∷ ds) ms vars distinct = by (λ ms rest. are_distinct table ds ms rest distinct.1) d.ty.ty.var ms vars.0 vars.1
  where
    by : ((ms : List ModelVar) → AreVarsOf ds ms → AreDistinct (var_texts table ms)) → (v : Bool) (ms : List ModelVar) → IsHead v d ms → AreVarsOf ds (var_tail v ms) → AreDistinct (var_texts table ms)
    by go false ms head rest = go ms rest
    by go true [] head rest = absurd head
    by go true (m ∷ ms) head rest = (
      λ has. distinct.0 (among table ds ms (text_of table d.name) rest (subst (Contains (var_texts table ms)) (ap (text_of table) head.name) has)),
      go ms rest,
    )

pub are_named : (table : List Name) (ds : List Decl) (order : List ℕ) (ms : List ModelVar) → All (λ n. IsSpelled (text_of table n)) (map (λ d. d.name) ds) → AreDistinct (texts_of table (ordered ds order)) → AreVarsOf (ordered ds order) ms → AreNamed table ms
are_named table ds order ms spelled distinct vars =
    record { names = have_names table (ordered ds order) ms (ordered_spelled table ds order (each_spelled table ds spelled)) vars; distinct = are_distinct table (ordered ds order) ms vars distinct }
