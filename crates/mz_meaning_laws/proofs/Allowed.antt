-- What is allowed in a tree is allowed in its parts, layer by layer.
use Rattle.std.proofs.Common.{◌≡◌, ℕ, zero, suc, Bool, true, false, List, [], ◌∷◌, ◌++◌, flat_map, Option, Some, None, refl, ap, ◌∙◌, slice_get, if◌then◌else◌}
use Rattle.std.specs.Option.{option_map}
use Rattle.mz_base.specs.declared.fault.Span.{Span}
use Rattle.mz_core.specs.Types.{PlainType}
use Rattle.mz_core.specs.Coercions.{PathLink}
use Rattle.mz_core.specs.Program.{Function}
use Rattle.mz_core.specs.Tree.{Tree, Shape, Trees, Maybe, Maybes, Rows, Branches, Steps, Gens, Items, Step, Decl, steps, if_tree, all_trees, all_maybes, all_rows, all_branches, all_steps, all_gens, all_items, shape_of, inner_tree, inner_under}
use Rattle.mz_core.specs.Tree as tree
use Rattle.mz_meaning.specs.Chains.{Innermost, operators_at, with_left, with_innermost, coerced_innermost, innermost_of, innermost_in, last_backed, a_step_of, back_of, back_in, backed, chained, same_level, chain_level}
use Rattle.mz_meaning.specs.Solutions.{Each}
use Rattle.mz_meaning_laws.specs.FreeLocals.{free_in, free_in_form, free_in_maybe, free_in_trees, free_in_maybes, free_in_rows, free_in_branches, free_in_steps, free_in_gens, free_in_value, free_in_items, free_if, free_in_decl, free_in_function}
use Rattle.mz_meaning_laws.specs.Ties.{Tie, Equal, Untesting, Strict, Without, Allows, AllowsTree, AllowsIf, AllowsStep, AllowsOperator, AllowsInnermost, AllowsGen, AllowsBranch, AllowsValue, AllowsItem, AllowsDecl, AllowsFunction, AllowsFound}

-- ---- lists of places

nil_left : (xs ys : List Span) → xs ++ ys ≡ [] → xs ≡ []
nil_left [] ys h = refl
nil_left (x ∷ xs) ys h = absurd (cc)

nil_right : (xs ys : List Span) → xs ++ ys ≡ [] → ys ≡ []
nil_right [] ys h = h
nil_right (x ∷ xs) ys h = absurd (cc)

pub allows_left : (t : Tie) (xs ys : List Span) → Allows t (xs ++ ys) → Allows t xs
allows_left Equal xs ys h = tt
allows_left Untesting xs ys h = tt
allows_left Strict xs ys h = tt
allows_left Without xs ys h = nil_left xs ys h

pub allows_right : (t : Tie) (xs ys : List Span) → Allows t (xs ++ ys) → Allows t ys
allows_right Equal xs ys h = tt
allows_right Untesting xs ys h = tt
allows_right Strict xs ys h = tt
allows_right Without xs ys h = nil_right xs ys h

allows_both : (t : Tie) (xs ys : List Span) → Allows t xs → Allows t ys → Allows t (xs ++ ys)
allows_both Equal xs ys h k = tt
allows_both Untesting xs ys h k = tt
allows_both Strict xs ys h k = tt
allows_both Without xs ys h k = ap (λ zs. zs ++ ys) h ∙ k

pub allows_none : (t : Tie) → Allows t []
allows_none Equal = tt
allows_none Untesting = tt
allows_none Strict = tt
allows_none Without = refl

each_append : {A : Type 0} (P : A → Type 0) (xs ys : List A) → Each P xs → Each P ys → Each P (xs ++ ys)
each_append P [] ys h k = k
each_append P (x ∷ xs) ys h k = (h.0, each_append P xs ys h.1 k)

pub each_flat : {A : Type 0} (t : Tie) (places : A → List Span) (xs : List A) → Allows t (flat_map places xs) → Each (λ x. Allows t (places x)) xs
each_flat t places [] h = tt
each_flat t places (x ∷ xs) h = (allows_left t (places x) (flat_map places xs) h, each_flat t places xs (allows_right t (places x) (flat_map places xs) h))

-- ---- lists of parts

pub maybe_allows : (t : Tie) (m : Maybe) → Allows t (free_in_maybe m) → AllowsIf t (if_tree m)
unfolding free_in free_in_maybe
maybe_allows t tree.nothing h = h
maybe_allows t (tree.just e) h = h

pub value_allows : (t : Tie) (at : Span) (m : Maybe) → Allows t (free_in_value at m) → AllowsValue t at (if_tree m)
unfolding free_in free_in_value
value_allows t at tree.nothing h = h
value_allows t at (tree.just e) h = h

pub trees_allow : (t : Tie) (es : Trees) → Allows t (free_in_trees es) → Each (AllowsTree t) (all_trees es)
unfolding free_in_trees
trees_allow t tree.no_trees h = tt
trees_allow t (tree.a_tree e es) h = (allows_left t (free_in e) (free_in_trees es) h, trees_allow t es (allows_right t (free_in e) (free_in_trees es) h))

pub maybes_allow : (t : Tie) (ms : Maybes) → Allows t (free_in_maybes ms) → Each (AllowsIf t) (all_maybes ms)
unfolding free_in_maybes
maybes_allow t tree.no_maybes h = tt
maybes_allow t (tree.a_maybe m ms) h = (maybe_allows t m (allows_left t (free_in_maybe m) (free_in_maybes ms) h), maybes_allow t ms (allows_right t (free_in_maybe m) (free_in_maybes ms) h))

pub rows_allow : (t : Tie) (rs : Rows) → Allows t (free_in_rows rs) → Each (λ r. Each (AllowsTree t) r) (all_rows rs)
unfolding free_in_rows
rows_allow t tree.no_rows h = tt
rows_allow t (tree.a_row r rs) h = (trees_allow t r (allows_left t (free_in_trees r) (free_in_rows rs) h), rows_allow t rs (allows_right t (free_in_trees r) (free_in_rows rs) h))

pub branches_allow : (t : Tie) (bs : Branches) → Allows t (free_in_branches bs) → Each (AllowsBranch t) (all_branches bs)
unfolding free_in_branches
branches_allow t tree.no_branches h = tt
branches_allow t (tree.a_branch c e bs) h =
    let rest = allows_right t (free_in c) (free_in e ++ free_in_branches bs) h in
    (record { cond = allows_left t (free_in c) (free_in e ++ free_in_branches bs) h; branch = allows_left t (free_in e) (free_in_branches bs) rest }, branches_allow t bs (allows_right t (free_in e) (free_in_branches bs) rest))

pub steps_allow : (t : Tie) (ss : Steps) → Allows t (free_in_steps ss) → Each (AllowsStep t) (all_steps ss)
unfolding free_in_steps
steps_allow t tree.no_steps h = tt
steps_allow t (tree.a_step sp r ty l m e ss) h = (allows_left t (free_in e) (free_in_steps ss) h, steps_allow t ss (allows_right t (free_in e) (free_in_steps ss) h))

pub gens_allow : (t : Tie) (gs : Gens) → Allows t (free_in_gens gs) → Each (AllowsGen t) (all_gens gs)
unfolding free_in_gens
gens_allow t tree.no_gens h = tt
gens_allow t (tree.a_gen ss e m gs) h =
    let rest = allows_right t (free_in e) (free_in_maybe m ++ free_in_gens gs) h in
    (record { sets = allows_left t (free_in e) (free_in_maybe m ++ free_in_gens gs) h; cond = maybe_allows t m (allows_left t (free_in_maybe m) (free_in_gens gs) rest) }, gens_allow t gs (allows_right t (free_in_maybe m) (free_in_gens gs) rest))

pub items_allow : (t : Tie) (is : Items) → Allows t (free_in_items is) → Each (AllowsItem t) (all_items is)
unfolding free_in_items
items_allow t tree.no_items h = tt
items_allow t (tree.a_decl s n at q ty ixs set value is) h =
    let first = allows_right t (free_in_maybes ixs) (free_in_maybe set ++ (free_in_value at value ++ free_in_items is)) h in
    let rest = allows_right t (free_in_maybe set) (free_in_value at value ++ free_in_items is) first in (
      record {
        ty = record {
          index = maybes_allow t ixs (allows_left t (free_in_maybes ixs) (free_in_maybe set ++ (free_in_value at value ++ free_in_items is)) h);
          set = maybe_allows t set (allows_left t (free_in_maybe set) (free_in_value at value ++ free_in_items is) first);
        };
        value = value_allows t at value (allows_left t (free_in_value at value) (free_in_items is) rest);
      },
      items_allow t is (allows_right t (free_in_value at value) (free_in_items is) rest),
    )
items_allow t (tree.a_constraint e is) h = (allows_left t (free_in e) (free_in_items is) h, items_allow t is (allows_right t (free_in e) (free_in_items is) h))

-- ---- the tree below coercions

mutual
  unfolding free_in free_in_form

  pub inner_allows : (t : Tie) (e : Tree) → Allows t (free_in e) → Allows t (free_in_form (shape_of (inner_tree e)))
  inner_allows t (tree.node at ty form) h = inner_under_allows t at ty form h

  inner_under_allows : (t : Tie) (at : Span) (ty : PlainType) (form : Shape) → Allows t (free_in_form form) → Allows t (free_in_form (shape_of (inner_under at ty form)))
  inner_under_allows t at ty (tree.coerce c e) h = inner_allows t e h
  inner_under_allows t at ty form h = h

-- ---- the operators of chains

operators_allow : (t : Tie) (at : Span) (ss : List Step) → Each (AllowsStep t) ss → Each (AllowsOperator t) (operators_at at ss)
operators_allow t at [] h = tt
operators_allow t at (s ∷ ss) h = (h.0, operators_allow t at ss h.1)

with_left_allows : (t : Tie) (ls : List PathLink) (ss : List Step) → Each (AllowsStep t) ss → Each (AllowsStep t) (with_left ls ss)
with_left_allows t ls [] h = tt
with_left_allows t ls (s ∷ ss) h = h

abbrev AllowsInnermostIf : Tie → Option Innermost → Type 0
AllowsInnermostIf t None = Unit {0}
AllowsInnermostIf t (Some f) = AllowsInnermost t f

innermost_if : (t : Tie) (b : Bool) (f : Innermost) → AllowsInnermost t f → AllowsInnermostIf t (if b then Some f else None)
innermost_if t true f h = h
innermost_if t false f h = tt

coerced_allows : (t : Tie) (l : PathLink) (f : Option Innermost) → AllowsInnermostIf t f → AllowsInnermostIf t (option_map (coerced_innermost l) f)
coerced_allows t l None h = tt
coerced_allows t l (Some f) h = record { head = h.head; tail = h.tail }

with_innermost_allows : (t : Tie) (at : Span) (ss : List Step) (e : Tree) (f : Option Innermost) → Allows t (free_in e) → Each (AllowsStep t) ss → AllowsInnermostIf t f → AllowsInnermost t (with_innermost at ss e f)
with_innermost_allows t at ss e None h k i = record { head = h; tail = operators_allow t at ss k }
with_innermost_allows t at ss e (Some f) h k i = record { head = i.head; tail = each_append (AllowsOperator t) f.operators (operators_at at (with_left f.links ss)) i.tail (operators_allow t at (with_left f.links ss) (with_left_allows t f.links ss k)) }

mutual
  unfolding free_in free_in_form innermost_of innermost_in

  innermost_allows : (t : Tie) (l : ℕ) (e : Tree) → Allows t (free_in e) → AllowsInnermostIf t (innermost_of l e)
  innermost_allows t l (tree.node at ty form) h = innermost_in_allows t l at ty form h

  innermost_in_allows : (t : Tie) (l : ℕ) (at : Span) (ty : PlainType) (form : Shape) → Allows t (free_in_form form) → AllowsInnermostIf t (innermost_in l at ty form)
  innermost_in_allows t l at ty (tree.chain e ss) h =
      let k = allows_left t (free_in e) (free_in_steps ss) h in
      innermost_if t (same_level l (all_steps ss)) (with_innermost at (all_steps ss) e (innermost_of l e)) (with_innermost_allows t at (all_steps ss) e (innermost_of l e) k (steps_allow t ss (allows_right t (free_in e) (free_in_steps ss) h)) (innermost_allows t l e k))
  innermost_in_allows t l at ty (tree.coerce c e) h = coerced_allows t (c, ty) (innermost_of l e) (innermost_allows t l e h)
  innermost_in_allows t l at ty form h = tt

last_allows : (t : Tie) (at : Span) (s : Step) (f : Option Innermost) → AllowsStep t s → AllowsInnermostIf t f → Each (AllowsOperator t) (last_backed at s f)
last_allows t at s None h k = (h, tt)
last_allows t at s (Some f) h k = (k.head, k.tail)

mutual
  unfolding free_in free_in_form free_in_steps back_of back_in backed

  back_allows : (t : Tie) (e : Tree) → Allows t (free_in e) → AllowsInnermostIf t (back_of e)
  back_allows t (tree.node at ty form) h = back_in_allows t at ty form h

  back_in_allows : (t : Tie) (at : Span) (ty : PlainType) (form : Shape) → Allows t (free_in_form form) → AllowsInnermostIf t (back_in at ty form)
  back_in_allows t at ty (tree.chain e ss) h = innermost_if t (same_level 12 (all_steps ss)) (record { first = e; operators = backed at ss; links = [] }) (record { head = allows_left t (free_in e) (free_in_steps ss) h; tail = backed_allows t at ss (allows_right t (free_in e) (free_in_steps ss) h) })
  back_in_allows t at ty (tree.coerce c e) h = coerced_allows t (c, ty) (back_of e) (back_allows t e h)
  back_in_allows t at ty form h = tt

  backed_allows : (t : Tie) (at : Span) (ss : Steps) → Allows t (free_in_steps ss) → Each (AllowsOperator t) (backed at ss)
  backed_allows t at tree.no_steps h = tt
  backed_allows t at (tree.a_step sp r ty l m e tree.no_steps) h = last_allows t at (a_step_of sp r ty l m e) (back_of e) (allows_left t (free_in e) [] h) (back_allows t e (allows_left t (free_in e) [] h))
  backed_allows t at (tree.a_step sp r ty l m e (tree.a_step sp2 r2 ty2 l2 m2 e2 ss)) h = (allows_left t (free_in e) (free_in_steps (tree.a_step sp2 r2 ty2 l2 m2 e2 ss)) h, backed_allows t sp (tree.a_step sp2 r2 ty2 l2 m2 e2 ss) (allows_right t (free_in e) (free_in_steps (tree.a_step sp2 r2 ty2 l2 m2 e2 ss)) h))

steps_back : (t : Tie) (ss : List Step) → Each (AllowsStep t) ss → Allows t (free_in_steps (steps ss))
unfolding free_in_steps
steps_back t [] h = allows_none t
steps_back t (s ∷ ss) h = allows_both t (free_in s.operand) (free_in_steps (steps ss)) h.0 (steps_back t ss h.1)

chained_by : (t : Tie) (b : Bool) (f g : Innermost) → AllowsInnermost t f → AllowsInnermost t g → AllowsInnermost t (if b then f else g)
chained_by t true f g h k = h
chained_by t false f g h k = k

pub chained_allows : (t : Tie) (at : Span) (e : Tree) (ss : List Step) → Allows t (free_in e) → Each (AllowsStep t) ss → AllowsInnermost t (chained at e ss)
chained_allows t at e ss h k =
    chained_by t (same_level 12 ss) (record { first = e; operators = backed at (steps ss); links = [] }) (with_innermost at ss e (innermost_of (chain_level ss) e))
    (record { head = h; tail = backed_allows t at (steps ss) (steps_back t ss k) })
    (with_innermost_allows t at ss e (innermost_of (chain_level ss) e) h k (innermost_allows t (chain_level ss) e h))

-- ---- declarations and functions

pub decl_allows : (t : Tie) (d : Decl) → Allows t (free_in_decl d) → AllowsDecl t d
decl_allows t d h =
    let rest = allows_right t (flat_map free_if d.ty.index) (free_if d.ty.set ++ free_if d.value) h in
    record {
      ty = record { index = each_flat t free_if d.ty.index (allows_left t (flat_map free_if d.ty.index) (free_if d.ty.set ++ free_if d.value) h); set = allows_left t (free_if d.ty.set) (free_if d.value) rest };
      value = allows_right t (free_if d.ty.set) (free_if d.value) rest;
    }

pub each_decl : (t : Tie) (ds : List Decl) → Allows t (flat_map free_in_decl ds) → Each (AllowsDecl t) ds
each_decl t [] h = tt
each_decl t (d ∷ ds) h = (decl_allows t d (allows_left t (free_in_decl d) (flat_map free_in_decl ds) h), each_decl t ds (allows_right t (free_in_decl d) (flat_map free_in_decl ds) h))

function_allows : (t : Tie) (f : Function) → Allows t (free_in_function f) → AllowsFunction t f
function_allows t f h =
    let first = allows_right t (flat_map free_in_decl f.params) (flat_map free_if f.result.index ++ (free_if f.result.set ++ free_in f.body)) h in
    let rest = allows_right t (flat_map free_if f.result.index) (free_if f.result.set ++ free_in f.body) first in
    record {
      params = each_decl t f.params (allows_left t (flat_map free_in_decl f.params) (flat_map free_if f.result.index ++ (free_if f.result.set ++ free_in f.body)) h);
      result = record { index = each_flat t free_if f.result.index (allows_left t (flat_map free_if f.result.index) (free_if f.result.set ++ free_in f.body) first); set = allows_left t (free_if f.result.set) (free_in f.body) rest };
      body = allows_right t (free_if f.result.set) (free_in f.body) rest;
    }

pub functions_allow : (t : Tie) (fs : List Function) → Allows t (flat_map free_in_function fs) → (k : ℕ) → AllowsFound t (slice_get fs k)
functions_allow t [] h k = tt
functions_allow t (f ∷ fs) h zero = function_allows t f (allows_left t (free_in_function f) (flat_map free_in_function fs) h)
functions_allow t (f ∷ fs) h (suc k) = functions_allow t fs (allows_right t (free_in_function f) (flat_map free_in_function fs) h) k
