-- What typing makes of parts whose nodes are so has such nodes.
use Rattle.std.proofs.Common.{ℕ, Bool, true, false, List, [], ◌∷◌, ◌++◌, Option, Some, None, Ok, Err, map}
use Rattle.std.specs.Prelude.{not, ◌&&◌, ◌||◌, nat_eq, length, if◌then◌else◌}
use Rattle.std.specs.List.{list_any, zip}
use Rattle.mz_base.specs.declared.fault.Span.{Span}
use Rattle.mz_base.specs.declared.kind.Kind.TheVariants as kind
use Rattle.mz_base.specs.Faults.{fault_at}
use Rattle.mz_base.specs.Names.{text_of as name_text}
use Rattle.mz_core.specs.declared.types.Base.{Base}
use Rattle.mz_core.specs.declared.types.Base.TheVariants as base
use Rattle.mz_core.specs.declared.types.Ix.{Ix}
use Rattle.mz_core.specs.Types.{PlainType, is_allowed}
use Rattle.mz_core.specs.Coercions.{PathLink}
use Rattle.mz_core.specs.Tree as tree
use Rattle.mz_core.specs.Tree.{Tree, Step, Gen, DeclaredType, Decl, Item, declares, constrains, trees, maybe, maybes, rows_of, branches, steps, gens, items, type_of, place_of}
use Rattle.mz_check_meaning.specs.declared.callee.Callee.{Callee}
use Rattle.mz_check_meaning.specs.declared.callee.Callee.TheVariants as callee
use Rattle.mz_tree.specs.declared.expr.PlacedOp.{PlacedOp}
use Rattle.mz_check_meaning.specs.Tests.{Test, ◌>>=◌, ◌>>◌, require, refuse, loop, each, maybe_some, if_there}
use Rattle.mz_check_meaning.specs.Models.{Model}
use Rattle.mz_check_meaning.specs.Coerced.{wrapped, coercions_to, coerced, all_coerced, fitted, condition, is_below, as_var, scalar, allowed_at, made_var, is_scalar, is_set_type, list_of, table_of, bottom_type}
use Rattle.mz_check_meaning.specs.Calls.{Candidate, candidates, best, called_node, call_node, applied, row_of, row_node}
use Rattle.mz_check_meaning.specs.Chains.{Operand, Chained, operator_name, step_of, operated, from_left, then_step, from_right, chain_node, appended}
use Rattle.mz_check_meaning.specs.Arrays.{elements_join, each_to, listed, all_in, tabled, is_var, member_base, set_base, member_next, set_literal, index_base, index_fitted, index_pair, indices_fitted, element_type, accessed}
use Rattle.mz_check_meaning.specs.Branches.{branches_join, whole_type, else_list, else_to, decided}
use Rattle.mz_check_meaning.specs.Comprehensions.{where_fitted, head_type, listed_heads, set_of_heads, heads, comprehended, is_var_gen}
use Rattle.mz_check_meaning.specs.Lets.{is_var_item, item_fitted, let_node, HasValue}
use Rattle.mz_check_meaning.specs.WrittenTypes.{Based, of_bool, of_int, of_set, with_base, par_set, Index, index_by, index, Values, values_by, values, declared_base, declared}
use Rattle.mz_core.specs.Nodes.{nodes_in, in_trees, in_maybe, in_maybes, in_rows, in_branches, in_steps, in_gens, in_items}
use Rattle.mz_check_meaning.proofs.Giving.{AllBy, all_both, all_mapped, Gives, gives_then, gives_after, gives_if, each_gives}
use Rattle.mz_check_meaning.proofs.Rules.{Rules, AreLinks, coercions_link}

module _ (rules : Rules) where
  -- all its nodes are so
  abbrev pub IsKept : Tree → Type 0
  IsKept e = AllBy rules.holds (nodes_in e)

  abbrev pub AreKept : List Tree → Type 0
  AreKept es = AllBy IsKept es

  abbrev pub IsKeptMaybe : Option Tree → Type 0
  IsKeptMaybe None = Unit {0}
  IsKeptMaybe (Some e) = IsKept e

  abbrev pub IsKeptPair : Tree × Tree → Type 0
  IsKeptPair b = IsKept b.0 × IsKept b.1

  abbrev pub IsKeptStep : Step → Type 0
  IsKeptStep s = IsKept s.operand

  abbrev pub IsKeptOperand : Operand → Type 0
  IsKeptOperand o = IsKept o.tree

  abbrev pub IsKeptChain : Chained → Type 0
  IsKeptChain c = AllBy IsKeptStep c.done

  abbrev pub IsKeptGen : Gen → Type 0
  IsKeptGen g = IsKept g.set × IsKeptMaybe g.cond

  abbrev pub IsKeptType : DeclaredType → Type 0
  IsKeptType t = AllBy IsKeptMaybe t.index × IsKeptMaybe t.set

  abbrev pub IsKeptDecl : Decl → Type 0
  IsKeptDecl d = IsKeptType d.ty × IsKeptMaybe d.value

  abbrev pub IsKeptItem : Item → Type 0
  IsKeptItem (declares d) = IsKeptDecl d
  IsKeptItem (constrains e) = IsKept e

  abbrev pub IsKeptBased : Based Tree → Type 0
  IsKeptBased of_bool = Unit {0}
  IsKeptBased of_int = Unit {0}
  IsKeptBased (of_set e) = IsKept e

  -- ---- lists of parts

  trees_kept : (es : List Tree) → AreKept es → AllBy rules.holds (in_trees (trees es))
  unfolding nodes_in
  trees_kept [] h = tt
  trees_kept (e ∷ es) h = all_both rules.holds (nodes_in e) (in_trees (trees es)) h.0 (trees_kept es h.1)

  pub maybe_kept : (m : Option Tree) → IsKeptMaybe m → AllBy rules.holds (in_maybe (maybe m))
  unfolding nodes_in
  maybe_kept None h = tt
  maybe_kept (Some e) h = h

  pub maybes_kept : (ms : List (Option Tree)) → AllBy IsKeptMaybe ms → AllBy rules.holds (in_maybes (maybes ms))
  unfolding nodes_in
  maybes_kept [] h = tt
  maybes_kept (m ∷ ms) h = all_both rules.holds (in_maybe (maybe m)) (in_maybes (maybes ms)) (maybe_kept m h.0) (maybes_kept ms h.1)

  rows_kept : (rs : List (List Tree)) → AllBy AreKept rs → AllBy rules.holds (in_rows (rows_of rs))
  unfolding nodes_in
  rows_kept [] h = tt
  rows_kept (r ∷ rs) h = all_both rules.holds (in_trees (trees r)) (in_rows (rows_of rs)) (trees_kept r h.0) (rows_kept rs h.1)

  branches_kept : (bs : List (Tree × Tree)) → AllBy IsKeptPair bs → AllBy rules.holds (in_branches (branches bs))
  unfolding nodes_in
  branches_kept [] h = tt
  branches_kept (b ∷ bs) h = all_both rules.holds (nodes_in b.0) (nodes_in b.1 ++ in_branches (branches bs)) h.0.0 (all_both rules.holds (nodes_in b.1) (in_branches (branches bs)) h.0.1 (branches_kept bs h.1))

  steps_kept : (ss : List Step) → AllBy IsKeptStep ss → AllBy rules.holds (in_steps (steps ss))
  unfolding nodes_in
  steps_kept [] h = tt
  steps_kept (s ∷ ss) h = all_both rules.holds (nodes_in s.operand) (in_steps (steps ss)) h.0 (steps_kept ss h.1)

  gens_kept : (gs : List Gen) → AllBy IsKeptGen gs → AllBy rules.holds (in_gens (gens gs))
  unfolding nodes_in
  gens_kept [] h = tt
  gens_kept (g ∷ gs) h = all_both rules.holds (nodes_in g.set) (in_maybe (maybe g.cond) ++ in_gens (gens gs)) h.0.0 (all_both rules.holds (in_maybe (maybe g.cond)) (in_gens (gens gs)) (maybe_kept g.cond h.0.1) (gens_kept gs h.1))

  pub items_kept : (is : List Item) → AllBy IsKeptItem is → AllBy rules.holds (in_items (items is))
  unfolding nodes_in
  items_kept [] h = tt
  items_kept (declares d ∷ is) h =
      all_both rules.holds (in_maybes (maybes d.ty.index)) (in_maybe (maybe d.ty.set) ++ (in_maybe (maybe d.value) ++ in_items (items is))) (maybes_kept d.ty.index h.0.0.0)
      (all_both rules.holds (in_maybe (maybe d.ty.set)) (in_maybe (maybe d.value) ++ in_items (items is)) (maybe_kept d.ty.set h.0.0.1)
      (all_both rules.holds (in_maybe (maybe d.value)) (in_items (items is)) (maybe_kept d.value h.0.1) (items_kept is h.1)))
  items_kept (constrains e ∷ is) h = all_both rules.holds (nodes_in e) (in_items (items is)) h.0 (items_kept is h.1)

  -- ---- coercions

  root_kept : (e : Tree) → IsKept e → rules.holds e
  unfolding nodes_in
  root_kept (tree.node at t f) h = h.0

  wrapped_kept : (at : Span) (e : Tree) (ls : List PathLink) → AreLinks (type_of e) ls → IsKept e → IsKept (wrapped at e ls)
  unfolding wrapped nodes_in
  wrapped_kept at e [] k h = h
  wrapped_kept at e (l ∷ ls) k h = wrapped_kept at (tree.node at l.1 (tree.coerce l.0 e)) ls k.1 (rules.link at l.0 l.1 e k.0 (root_kept e h), h)

  coerced_kept : (e : Tree) (t : PlainType) → IsKept e → IsKept (coerced e t)
  unfolding coerced
  coerced_kept e t h = wrapped_kept (place_of e) e (coercions_to (type_of e) t) (coercions_link (type_of e) t) h

  each_kept : (t : PlainType) (es : List Tree) → AreKept es → AreKept (each_to t es)
  each_kept t es h = all_mapped IsKept IsKept (λ e. coerced e t) es (λ e k. coerced_kept e t k) h

  all_kept : (es : List Tree) (ts : List PlainType) → AreKept es → AreKept (all_coerced es ts)
  unfolding all_coerced
  all_kept [] ts h = tt
  all_kept (e ∷ es) [] h = (h.0, all_kept es [] h.1)
  all_kept (e ∷ es) (t ∷ ts) h = (coerced_kept e t h.0, all_kept es ts h.1)

  pub fitted_kept : (e : Tree) (t : PlainType) → IsKept e → Gives (fitted e t) IsKept
  unfolding fitted
  fitted_kept e t h = gives_if IsKept (is_below e t) (coerced e t) (fault_at kind.TypeMismatch (place_of e)) (coerced_kept e t h)

  pub condition_kept : (e : Tree) → IsKept e → Gives (condition e) IsKept
  unfolding condition
  condition_kept e h = fitted_kept e (as_var e base.Bool) h

  conditions_kept : (es : List Tree) → AreKept es → AllBy (λ e. Gives (condition e) IsKept) es
  conditions_kept [] h = tt
  conditions_kept (e ∷ es) h = (condition_kept e h.0, conditions_kept es h.1)

  -- ---- literals and accesses

  pub listed_kept : (at : Span) (es : List Tree) → AreKept es → Gives (listed at es) IsKept
  unfolding listed nodes_in
  listed_kept at es h = gives_after IsKept (elements_join es) (λ t. Ok (tree.node at (list_of t) (tree.array (trees (each_to t es))))) (λ t. (rules.plain _ _ _ tt, trees_kept (each_to t es) (each_kept t es h)))

  all_rows_kept : (t : PlainType) (rs : List (List Tree)) → AllBy AreKept rs → AllBy AreKept (map (each_to t) rs)
  all_rows_kept t [] h = tt
  all_rows_kept t (r ∷ rs) h = (each_kept t r h.0, all_rows_kept t rs h.1)

  pub tabled_kept : (at : Span) (rs : List (List Tree)) → AllBy AreKept rs → Gives (tabled at rs) IsKept
  unfolding tabled nodes_in
  tabled_kept at rs h = gives_after IsKept (elements_join (all_in rs)) (λ t. Ok (tree.node at (table_of t) (tree.rows (rows_of (map (each_to t) rs))))) (λ t. (rules.plain _ _ _ tt, rows_kept (map (each_to t) rs) (all_rows_kept t rs h)))

  pub set_kept : (at : Span) (es : List Tree) → AreKept es → Gives (set_literal at es) IsKept
  unfolding set_literal nodes_in
  set_kept at es h =
      gives_after IsKept (loop member_next bottom_type es) (λ t. require (not (list_any is_var es)) kind.LeftOut at >> Ok (tree.node at (scalar (set_base t.base)) (tree.set (trees (each_to (scalar (member_base t.base)) es))))) (λ t.
      gives_after IsKept (require (not (list_any is_var es)) kind.LeftOut at) (λ u. Ok (tree.node at (scalar (set_base t.base)) (tree.set (trees (each_to (scalar (member_base t.base)) es))))) (λ u.
      (rules.plain _ _ _ tt, trees_kept (each_to (scalar (member_base t.base)) es) (each_kept (scalar (member_base t.base)) es h))))

  refused_if : (b : Bool) (at : Span) (e : Tree) (t : Test Tree) → Gives t IsKept → Gives (if b then refuse kind.LeftOut at else t) IsKept
  refused_if true at e t h = tt
  refused_if false at e t h = h

  index_kept : (at : Span) (e : Tree) (x : Ix) → IsKept e → Gives (index_fitted at e x) IsKept
  index_kept at e x h = refused_if (is_set_type (type_of e)) at e (fitted e (as_var e (index_base x))) (fitted_kept e (as_var e (index_base x)) h)

  pairs_kept : (at : Span) (es : List Tree) (xs : List Ix) → AreKept es → AllBy (λ p. Gives (index_pair at p) IsKept) (zip es xs)
  pairs_kept at [] xs h = tt
  pairs_kept at (e ∷ es) [] h = tt
  pairs_kept at (e ∷ es) (x ∷ xs) h = (index_kept at e x h.0, pairs_kept at es xs h.1)

  indices_kept : (at : Span) (es : List Tree) (xs : List Ix) → AreKept es → Gives (indices_fitted at es xs) AreKept
  unfolding indices_fitted
  indices_kept at es xs h = each_gives IsKept (index_pair at) (zip es xs) (pairs_kept at es xs h)

  pub access_kept : (at : Span) (e : Tree) (es : List Tree) → IsKept e → AreKept es → Gives (accessed at e es) IsKept
  unfolding accessed nodes_in
  access_kept at e es h k =
      let last : List Tree → PlainType → Test Tree = λ is t. Ok (tree.node at t (tree.access e (trees is))) in
      let typed : List Tree → Test Tree = λ is. allowed_at at (element_type e es) >>= λ t. last is t in
      gives_after IsKept (require (not (is_scalar (type_of e))) kind.TypeMismatch (place_of e)) (λ u. require (nat_eq (length es) (length (type_of e).dims)) kind.TypeMismatch at >> (indices_fitted at es (type_of e).dims >>= λ is. typed is)) (λ u.
      gives_after IsKept (require (nat_eq (length es) (length (type_of e).dims)) kind.TypeMismatch at) (λ v. indices_fitted at es (type_of e).dims >>= λ is. typed is) (λ v.
      gives_then AreKept IsKept (indices_fitted at es (type_of e).dims) typed (indices_kept at es (type_of e).dims k) (λ is l.
      gives_after IsKept (allowed_at at (element_type e es)) (last is) (λ t. (rules.plain _ _ _ tt, all_both rules.holds (nodes_in e) (in_trees (trees is)) h (trees_kept is l))))))

  -- ---- `if`

  both_kept : (cs es : List Tree) → AreKept cs → AreKept es → AllBy IsKeptPair (zip cs es)
  both_kept [] es h k = tt
  both_kept (c ∷ cs) [] h k = tt
  both_kept (c ∷ cs) (e ∷ es) h k = ((h.0, k.0), both_kept cs es h.1 k.1)

  else_kept : (t : PlainType) (m : Option Tree) → IsKeptMaybe m → IsKeptMaybe (else_to t m)
  else_kept t None h = tt
  else_kept t (Some e) h = coerced_kept e t h

  pub decided_kept : (at : Span) (conds thens : List Tree) (els : Option Tree) → AreKept conds → AreKept thens → IsKeptMaybe els → Gives (decided at conds thens els) IsKept
  unfolding decided nodes_in
  decided_kept at conds thens els h k l =
      let last : List Tree → PlainType → Test Tree = λ cs t. Ok (tree.node at t (tree.choice (branches (zip cs (each_to t thens))) (maybe (else_to t els)))) in
      let allowed : List Tree → PlainType → Test Tree = λ cs w. allowed_at at (made_var (list_any is_var cs) w) >>= λ t. last cs t in
      let whole : List Tree → PlainType → Test Tree = λ cs j. whole_type thens els j >>= λ w. allowed cs w in
      let joined : List Tree → Test Tree = λ cs. branches_join (thens ++ else_list els) >>= λ j. whole cs j in
      gives_then AreKept IsKept (each condition conds) joined (each_gives IsKept condition conds (conditions_kept conds h)) (λ cs c.
      gives_after IsKept (branches_join (thens ++ else_list els)) (whole cs) (λ j.
      gives_after IsKept (whole_type thens els j) (allowed cs) (λ w.
      gives_after IsKept (allowed_at at (made_var (list_any is_var cs) w)) (last cs) (λ t. (
        rules.plain _ _ _ tt,
        all_both rules.holds (in_branches (branches (zip cs (each_to t thens)))) (in_maybe (maybe (else_to t els)))
            (branches_kept (zip cs (each_to t thens)) (both_kept cs (each_to t thens) c (each_kept t thens k)))
            (maybe_kept (else_to t els) (else_kept t els l)),
      )))))

  -- ---- calls and operators

  called_kept : (at : Span) (t : PlainType) (c : Callee) (es : List Tree) → AreKept es → IsKept (called_node at t c es)
  unfolding nodes_in
  called_kept at t (callee.Function f) es h = (rules.plain _ _ _ tt, trees_kept es h)
  called_kept at t (callee.Row r) es h = (rules.plain _ _ _ tt, trees_kept es h)

  call_kept : (at : Span) (es : List Tree) (c : Candidate) → AreKept es → IsKept (call_node at es c)
  unfolding call_node
  call_kept at es c h = called_kept at c.signature.result c.callee (all_coerced es c.signature.params) (all_kept es c.signature.params h)

  pub applied_kept : (m : Model) (at : Span) (n : ℕ) (es : List Tree) → AreKept es → Gives (applied m at n es) IsKept
  unfolding applied
  applied_kept m at n es h =
      gives_after IsKept (candidates m at n (map type_of es)) (λ cs. best at (name_text m.texts n) (map type_of es) cs >>= λ c. Ok (call_node at es c)) (λ cs.
      gives_after IsKept (best at (name_text m.texts n) (map type_of es) cs) (λ c. Ok (call_node at es c)) (λ c. call_kept at es c h))

  pub row_kept : (at : Span) (name : List ℕ) (es : List Tree) → AreKept es → Gives (row_node at name es) IsKept
  unfolding row_node
  row_kept at name es h = gives_after IsKept (row_of at name (map type_of es)) (λ c. Ok (call_node at es c)) (λ c. call_kept at es c h)

  operated_kept : (at : Span) (o : PlacedOp) (left right : PlainType) (e : Tree) → IsKept e → Gives (operated at o left right e) IsKeptStep
  unfolding operated
  operated_kept at o left right e h = gives_after IsKeptStep (row_of at (operator_name o.op) (left ∷ right ∷ [])) (λ c. Ok (step_of o.start left right e c)) (λ c. h)

  pub left_kept : (at : Span) (acc : Chained) (o : Operand) → IsKeptChain acc → IsKept o.tree → Gives (from_left at acc o) IsKeptChain
  left_kept at acc o h k =
      gives_then IsKeptStep IsKeptChain (operated at o.operator acc.ty (type_of o.tree) o.tree) (λ s. Ok (then_step acc s)) (operated_kept at o.operator acc.ty (type_of o.tree) o.tree k)
      (λ s l. all_both IsKeptStep acc.done (s ∷ []) h (l, tt))

  right_kept : (at : Span) (e : Tree) (os : List Operand) → AllBy IsKeptOperand os → Gives (from_right at e os) IsKeptChain
  unfolding from_right
  right_kept at e [] h = tt
  right_kept at e (o ∷ os) h =
      let last : Chained → Step → Test Chained = λ rest s. Ok (record { ty = s.ty; done = s ∷ rest.done }) in
      let next : Chained → Test Chained = λ rest. operated at o.operator (type_of e) rest.ty o.tree >>= λ s. last rest s in
      gives_then IsKeptChain IsKeptChain (from_right o.operator.start o.tree os) next (right_kept o.operator.start o.tree os h.1) (λ rest r.
      gives_then IsKeptStep IsKeptChain (operated at o.operator (type_of e) rest.ty o.tree) (last rest) (operated_kept at o.operator (type_of e) rest.ty o.tree h.0) (λ s k. (k, r)))

  pub chain_kept : (at : Span) (e : Tree) (c : Chained) → IsKept e → IsKeptChain c → IsKept (chain_node at e c)
  unfolding nodes_in
  chain_kept at e c h k = (rules.plain _ _ _ tt, all_both rules.holds (nodes_in e) (in_steps (steps c.done)) h (steps_kept c.done k))

  pub appended_kept : (at : Span) (e : Tree) (os : List Operand) → IsKept e → AllBy IsKeptOperand os → Gives (appended at e os) IsKept
  unfolding appended
  appended_kept at e os h k = gives_then IsKeptChain IsKept (from_right at e os) (λ c. Ok (chain_node at e c)) (right_kept at e os k) (λ c l. chain_kept at e c h l)

  -- ---- comprehensions

  some_kept : (t : Test Tree) → Gives t IsKept → Gives (maybe_some t) IsKeptMaybe
  some_kept (Ok e) h = h
  some_kept (Err f) h = tt

  there_kept : (m : Option Tree) → IsKeptMaybe m → Gives (if_there condition m) IsKeptMaybe
  there_kept None h = tt
  there_kept (Some e) h = some_kept (condition e) (condition_kept e h)

  where_kept : (g : Gen) → IsKeptGen g → Gives (where_fitted g) IsKeptGen
  where_kept g h = gives_then IsKeptMaybe IsKeptGen (if_there condition g.cond) (λ c. Ok (record g { cond = c })) (there_kept g.cond h.1) (λ c k. (h.0, k))

  wheres_kept : (gs : List Gen) → AllBy IsKeptGen gs → AllBy (λ g. Gives (where_fitted g) IsKeptGen) gs
  wheres_kept [] h = tt
  wheres_kept (g ∷ gs) h = (where_kept g h.0, wheres_kept gs h.1)

  heads_kept : (at : Span) (braces : Bool) (gs : List Gen) (e : Tree) → AllBy IsKeptGen gs → IsKept e → Gives (heads at braces gs e) IsKept
  unfolding listed_heads set_of_heads nodes_in
  heads_kept at true gs e h k =
      let t : PlainType = scalar (member_base (type_of e).base) in
      let whole : Test Tree = Ok (tree.node at (scalar (set_base (type_of e).base)) (tree.comp true (coerced e t) (gens gs))) in
      let is_par : Test (Unit {0}) = require (not (list_any is_var_gen gs || is_var e)) kind.LeftOut at in
      gives_after IsKept (require (is_below e (as_var e base.Int)) kind.TypeMismatch (place_of e)) (λ u. is_par >> whole) (λ u.
      gives_after IsKept is_par (λ v. whole) (λ v.
      (rules.plain _ _ _ tt, all_both rules.holds (nodes_in (coerced e t)) (in_gens (gens gs)) (coerced_kept e t k) (gens_kept gs h))))
  heads_kept at false gs e h k =
      let t : PlainType = head_type gs (type_of e) in
      let whole : Test Tree = Ok (tree.node at (list_of t) (tree.comp false (coerced e t) (gens gs))) in
      gives_after IsKept (require (is_scalar (type_of e) && is_allowed t) kind.TypeMismatch (place_of e)) (λ u. whole) (λ u.
      (rules.plain _ _ _ tt, all_both rules.holds (nodes_in (coerced e t)) (in_gens (gens gs)) (coerced_kept e t k) (gens_kept gs h)))

  pub comprehended_kept : (at : Span) (braces : Bool) (gs : List Gen) (e : Tree) → AllBy IsKeptGen gs → IsKept e → Gives (comprehended at braces gs e) IsKept
  unfolding comprehended
  comprehended_kept at braces gs e h k = gives_then (AllBy IsKeptGen) IsKept (each where_fitted gs) (λ fs. heads at braces fs e) (each_gives IsKeptGen where_fitted gs (wheres_kept gs h)) (λ fs l. heads_kept at braces fs e l k)

  -- ---- lets

  -- an item of a let
  abbrev pub IsKeptLocal : Item → Type 0
  IsKeptLocal i = IsKeptItem i × HasValue i

  item_kept : (i : Item) → IsKeptLocal i → Gives (item_fitted i) IsKeptLocal
  item_kept (declares d) h = h
  item_kept (constrains e) h = gives_then IsKept IsKeptLocal (condition e) (λ c. Ok (constrains c)) (condition_kept e h.0) (λ c k. (k, tt))

  fitted_items_kept : (is : List Item) → AllBy IsKeptLocal is → AllBy (λ i. Gives (item_fitted i) IsKeptLocal) is
  fitted_items_kept [] h = tt
  fitted_items_kept (i ∷ is) h = (item_kept i h.0, fitted_items_kept is h.1)

  locals_kept : (is : List Item) → AllBy IsKeptLocal is → AllBy IsKeptItem is
  locals_kept [] h = tt
  locals_kept (i ∷ is) h = (h.0.0, locals_kept is h.1)

  locals_valued : (is : List Item) → AllBy IsKeptLocal is → AllBy HasValue is
  locals_valued [] h = tt
  locals_valued (i ∷ is) h = (h.0.1, locals_valued is h.1)

  pub let_kept : (at : Span) (is : List Item) (e : Tree) → AllBy IsKeptLocal is → IsKept e → Gives (let_node at is e) IsKept
  unfolding let_node nodes_in
  let_kept at is e h k =
      let last : List Item → PlainType → Test Tree = λ fs t. Ok (tree.node at t (tree.let_in (items fs) (coerced e t))) in
      let typed : List Item → Test Tree = λ fs. allowed_at at (made_var (list_any is_var_item is) (type_of e)) >>= λ t. last fs t in
      gives_then (AllBy IsKeptLocal) IsKept (each item_fitted is) typed (each_gives IsKeptLocal item_fitted is (fitted_items_kept is h)) (λ fs l.
      gives_after IsKept (allowed_at at (made_var (list_any is_var_item is) (type_of e))) (last fs) (λ t.
      (rules.local at t fs (coerced e t) (locals_valued fs l), all_both rules.holds (in_items (items fs)) (nodes_in (coerced e t)) (items_kept fs (locals_kept fs l)) (coerced_kept e t k))))

  -- ---- written types

  based_kept : (b : Base) (e : Tree) → IsKept e → IsKept (with_base b e)
  based_kept base.SetBottom e h = coerced_kept e (scalar base.SetInt) h
  based_kept b e h = h

  par_kept : (e : Tree) → IsKept e → Gives (par_set e) IsKept
  unfolding par_set
  par_kept e h = gives_if IsKept (is_set_type (type_of e) && not (is_var e)) (with_base (type_of e).base e) (fault_at kind.TypeMismatch (place_of e)) (based_kept (type_of e).base e h)

  index_set_kept : (at : Span) (b : Based Tree) → IsKeptBased b → Gives (index at b) (λ i. IsKeptMaybe i.set)
  unfolding index
  index_set_kept at of_bool h = tt
  index_set_kept at of_int h = tt
  index_set_kept at (of_set e) h = gives_then IsKept (λ i. IsKeptMaybe i.set) (par_set e) (λ s. Ok (index_by s)) (par_kept e h) (λ s k. k)

  values_kept : (b : Based Tree) → IsKeptBased b → Gives (values b) (λ v. IsKeptMaybe v.set)
  unfolding values
  values_kept of_bool h = tt
  values_kept of_int h = tt
  values_kept (of_set e) h = gives_then IsKept (λ v. IsKeptMaybe v.set) (par_set e) (λ s. Ok (values_by s)) (par_kept e h) (λ s k. k)

  all_indices_kept : (at : Span) (bs : List (Based Tree)) → AllBy IsKeptBased bs → AllBy (λ b. Gives (index at b) (λ i. IsKeptMaybe i.set)) bs
  all_indices_kept at [] h = tt
  all_indices_kept at (b ∷ bs) h = (index_set_kept at b h.0, all_indices_kept at bs h.1)

  index_sets : (is : List Index) → AllBy (λ i. IsKeptMaybe i.set) is → AllBy IsKeptMaybe (map (λ i. i.set) is)
  index_sets [] h = tt
  index_sets (i ∷ is) h = (h.0, index_sets is h.1)

  pub declared_kept : (at : Span) (var opt set : Bool) (dims : List (Based Tree)) (b : Based Tree) → AllBy IsKeptBased dims → IsKeptBased b → Gives (declared at var opt set dims b) IsKeptType
  unfolding declared
  declared_kept at var opt set dims b h k =
      let last : List Index → Values → Base → Test DeclaredType = λ is v s. Ok (record { span = at; ty = record { var = var; opt = opt; base = s; dims = map (λ i. i.ty) is }; index = map (λ i. i.set) is; set = v.set }) in
      let with_values : List Index → Values → Test DeclaredType = λ is v. declared_base at set v.base >>= λ s. last is v s in
      let with_index : List Index → Test DeclaredType = λ is. values b >>= λ v. with_values is v in
      gives_then (AllBy (λ i. IsKeptMaybe i.set)) IsKeptType (each (index at) dims) with_index (each_gives (λ i. IsKeptMaybe i.set) (index at) dims (all_indices_kept at dims h)) (λ is l.
      gives_then (λ v. IsKeptMaybe v.set) IsKeptType (values b) (with_values is) (values_kept b k) (λ v w.
      gives_after IsKeptType (declared_base at set v.base) (last is v) (λ s. (index_sets is l, w))))
