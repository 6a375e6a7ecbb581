-- What typing makes of parts whose places are all of a kind, at such a place, has such places alone.
use Rattle.std.proofs.Common.{ℕ, Bool, true, false, List, [], ◌∷◌, ◌++◌, Option, Some, None, Ok, Err, map}
use Rattle.std.specs.Prelude.{not, ◌&&◌, ◌||◌, nat_eq, length, if◌then◌else◌}
use Rattle.std.specs.List.{list_any, zip}
use Rattle.mz_base.specs.declared.fault.Span.{Span}
use Rattle.mz_base.specs.declared.kind.Kind.TheVariants as kind
use Rattle.mz_base.specs.Faults.{fault_at}
use Rattle.mz_base.specs.Names.{text_of as name_text}
use Rattle.mz_core.specs.declared.types.Base.{Base}
use Rattle.mz_core.specs.declared.types.Base.TheVariants as base
use Rattle.mz_core.specs.declared.types.Ix.{Ix}
use Rattle.mz_core.specs.Types.{PlainType, is_allowed}
use Rattle.mz_core.specs.Coercions.{PathLink}
use Rattle.mz_core.specs.Tree as tree
use Rattle.mz_core.specs.Tree.{Tree, Step, Gen, DeclaredType, Decl, Item, declares, constrains, trees, maybe, maybes, rows_of, branches, steps, gens, items, type_of, place_of}
use Rattle.mz_check_meaning.specs.declared.callee.Callee.{Callee}
use Rattle.mz_check_meaning.specs.declared.callee.Callee.TheVariants as callee
use Rattle.mz_tree.specs.declared.expr.PlacedOp.{PlacedOp}
use Rattle.mz_check_meaning.specs.Tests.{Test, ◌>>=◌, ◌>>◌, require, refuse, loop, each, maybe_some, if_there}
use Rattle.mz_check_meaning.specs.Models.{Model}
use Rattle.mz_check_meaning.specs.Coerced.{wrapped, coercions_to, coerced, all_coerced, fitted, condition, is_below, as_var, scalar, allowed_at, made_var, is_scalar, is_set_type, list_of, table_of, bottom_type}
use Rattle.mz_check_meaning.specs.Calls.{Candidate, candidates, best, called_node, call_node, applied, row_of, row_node}
use Rattle.mz_check_meaning.specs.Chains.{Operand, Chained, operator_name, step_of, operated, from_left, then_step, from_right, chain_node, appended}
use Rattle.mz_check_meaning.specs.Arrays.{elements_join, each_to, listed, all_in, tabled, is_var, member_base, set_base, member_next, set_literal, index_base, index_fitted, index_pair, indices_fitted, element_type, accessed}
use Rattle.mz_check_meaning.specs.Branches.{branches_join, whole_type, else_list, else_to, decided}
use Rattle.mz_check_meaning.specs.Comprehensions.{where_fitted, head_type, listed_heads, set_of_heads, heads, comprehended, is_var_gen}
use Rattle.mz_check_meaning.specs.Lets.{is_var_item, item_fitted, let_node}
use Rattle.mz_check_meaning.specs.WrittenTypes.{Based, of_bool, of_int, of_set, with_base, par_set, Index, index_by, index, Values, values_by, values, declared_base, declared}
use Rattle.mz_core.specs.Nodes.{nodes_in, in_trees, in_maybe, in_maybes, in_rows, in_branches, in_steps, in_gens, in_items}
use Rattle.mz_check_meaning.proofs.Giving.{AllBy, all_both, all_mapped, Gives, gives_then, gives_after, gives_if, each_gives}
use Rattle.mz_meaning_laws.specs.Places.{step_places, item_places, own_places}

module _ (P : Span → Type 0) where
  -- a node's own places, of a chain those of its operands, and of a let those of the names and types that it declares
  abbrev pub OwnPlaces : Tree → Type 0
  OwnPlaces e = AllBy P (own_places e)

  -- all its places are so
  abbrev pub IsPlaced : Tree → Type 0
  IsPlaced e = AllBy OwnPlaces (nodes_in e)

  abbrev pub ArePlaced : List Tree → Type 0
  ArePlaced es = AllBy IsPlaced es

  abbrev pub IsPlacedMaybe : Option Tree → Type 0
  IsPlacedMaybe None = Unit {0}
  IsPlacedMaybe (Some e) = IsPlaced e

  abbrev pub IsPlacedPair : Tree × Tree → Type 0
  IsPlacedPair b = IsPlaced b.0 × IsPlaced b.1

  abbrev pub IsPlacedStep : Step → Type 0
  IsPlacedStep s = P s.start × IsPlaced s.operand

  abbrev pub IsPlacedOperand : Operand → Type 0
  IsPlacedOperand o = P o.operator.start × IsPlaced o.tree

  abbrev pub IsPlacedChain : Chained → Type 0
  IsPlacedChain c = AllBy IsPlacedStep c.done

  abbrev pub IsPlacedGen : Gen → Type 0
  IsPlacedGen g = IsPlaced g.set × IsPlacedMaybe g.cond

  pub record IsPlacedType (t : DeclaredType) : Type 0 where
    pub span : P t.span
    pub index : AllBy IsPlacedMaybe t.index
    pub set : IsPlacedMaybe t.set

  pub record IsPlacedDecl (d : Decl) : Type 0 where
    pub span : P d.span
    pub ty : IsPlacedType d.ty
    pub value : IsPlacedMaybe d.value

  abbrev pub IsPlacedItem : Item → Type 0
  IsPlacedItem (declares d) = IsPlacedDecl d
  IsPlacedItem (constrains e) = IsPlaced e

  abbrev pub IsPlacedBased : Based Tree → Type 0
  IsPlacedBased of_bool = Unit {0}
  IsPlacedBased of_int = Unit {0}
  IsPlacedBased (of_set e) = IsPlaced e

  -- ---- lists of parts

  trees_placed : (es : List Tree) → ArePlaced es → AllBy OwnPlaces (in_trees (trees es))
  unfolding nodes_in
  trees_placed [] h = tt
  trees_placed (e ∷ es) h = all_both OwnPlaces (nodes_in e) (in_trees (trees es)) h.0 (trees_placed es h.1)

  pub maybe_placed : (m : Option Tree) → IsPlacedMaybe m → AllBy OwnPlaces (in_maybe (maybe m))
  unfolding nodes_in
  maybe_placed None h = tt
  maybe_placed (Some e) h = h

  pub maybes_placed : (ms : List (Option Tree)) → AllBy IsPlacedMaybe ms → AllBy OwnPlaces (in_maybes (maybes ms))
  unfolding nodes_in
  maybes_placed [] h = tt
  maybes_placed (m ∷ ms) h = all_both OwnPlaces (in_maybe (maybe m)) (in_maybes (maybes ms)) (maybe_placed m h.0) (maybes_placed ms h.1)

  rows_placed : (rs : List (List Tree)) → AllBy ArePlaced rs → AllBy OwnPlaces (in_rows (rows_of rs))
  unfolding nodes_in
  rows_placed [] h = tt
  rows_placed (r ∷ rs) h = all_both OwnPlaces (in_trees (trees r)) (in_rows (rows_of rs)) (trees_placed r h.0) (rows_placed rs h.1)

  branches_placed : (bs : List (Tree × Tree)) → AllBy IsPlacedPair bs → AllBy OwnPlaces (in_branches (branches bs))
  unfolding nodes_in
  branches_placed [] h = tt
  branches_placed (b ∷ bs) h = all_both OwnPlaces (nodes_in b.0) (nodes_in b.1 ++ in_branches (branches bs)) h.0.0 (all_both OwnPlaces (nodes_in b.1) (in_branches (branches bs)) h.0.1 (branches_placed bs h.1))

  steps_placed : (ss : List Step) → AllBy IsPlacedStep ss → AllBy OwnPlaces (in_steps (steps ss))
  unfolding nodes_in
  steps_placed [] h = tt
  steps_placed (s ∷ ss) h = all_both OwnPlaces (nodes_in s.operand) (in_steps (steps ss)) h.0.1 (steps_placed ss h.1)

  -- the places where operands begin
  starts_placed : (ss : List Step) → AllBy IsPlacedStep ss → AllBy P (step_places (steps ss))
  unfolding step_places
  starts_placed [] h = tt
  starts_placed (s ∷ ss) h = (h.0.0, starts_placed ss h.1)

  gens_placed : (gs : List Gen) → AllBy IsPlacedGen gs → AllBy OwnPlaces (in_gens (gens gs))
  unfolding nodes_in
  gens_placed [] h = tt
  gens_placed (g ∷ gs) h = all_both OwnPlaces (nodes_in g.set) (in_maybe (maybe g.cond) ++ in_gens (gens gs)) h.0.0 (all_both OwnPlaces (in_maybe (maybe g.cond)) (in_gens (gens gs)) (maybe_placed g.cond h.0.1) (gens_placed gs h.1))

  pub items_placed : (is : List Item) → AllBy IsPlacedItem is → AllBy OwnPlaces (in_items (items is))
  unfolding nodes_in
  items_placed [] h = tt
  items_placed (declares d ∷ is) h =
      all_both OwnPlaces (in_maybes (maybes d.ty.index)) (in_maybe (maybe d.ty.set) ++ (in_maybe (maybe d.value) ++ in_items (items is))) (maybes_placed d.ty.index h.0.ty.index)
      (all_both OwnPlaces (in_maybe (maybe d.ty.set)) (in_maybe (maybe d.value) ++ in_items (items is)) (maybe_placed d.ty.set h.0.ty.set)
      (all_both OwnPlaces (in_maybe (maybe d.value)) (in_items (items is)) (maybe_placed d.value h.0.value) (items_placed is h.1)))
  items_placed (constrains e ∷ is) h = all_both OwnPlaces (nodes_in e) (in_items (items is)) h.0 (items_placed is h.1)

  -- the places of the names and types that items declare
  spots_placed : (is : List Item) → AllBy IsPlacedItem is → AllBy P (item_places (items is))
  unfolding item_places
  spots_placed [] h = tt
  spots_placed (declares d ∷ is) h = (h.0.span, (h.0.ty.span, spots_placed is h.1))
  spots_placed (constrains e ∷ is) h = spots_placed is h.1

  -- ---- coercions

  pub place_placed : (e : Tree) → IsPlaced e → P (place_of e)
  unfolding nodes_in
  place_placed (tree.node at t f) h = h.0.0

  wrapped_placed : (at : Span) (e : Tree) (ls : List PathLink) → P at → IsPlaced e → IsPlaced (wrapped at e ls)
  unfolding wrapped nodes_in
  wrapped_placed at e [] here h = h
  wrapped_placed at e (l ∷ ls) here h = wrapped_placed at (tree.node at l.1 (tree.coerce l.0 e)) ls here ((here, tt), h)

  coerced_placed : (e : Tree) (t : PlainType) → IsPlaced e → IsPlaced (coerced e t)
  unfolding coerced
  coerced_placed e t h = wrapped_placed (place_of e) e (coercions_to (type_of e) t) (place_placed e h) h

  each_placed : (t : PlainType) (es : List Tree) → ArePlaced es → ArePlaced (each_to t es)
  each_placed t es h = all_mapped IsPlaced IsPlaced (λ e. coerced e t) es (λ e k. coerced_placed e t k) h

  all_placed : (es : List Tree) (ts : List PlainType) → ArePlaced es → ArePlaced (all_coerced es ts)
  unfolding all_coerced
  all_placed [] ts h = tt
  all_placed (e ∷ es) [] h = (h.0, all_placed es [] h.1)
  all_placed (e ∷ es) (t ∷ ts) h = (coerced_placed e t h.0, all_placed es ts h.1)

  pub fitted_placed : (e : Tree) (t : PlainType) → IsPlaced e → Gives (fitted e t) IsPlaced
  unfolding fitted
  fitted_placed e t h = gives_if IsPlaced (is_below e t) (coerced e t) (fault_at kind.TypeMismatch (place_of e)) (coerced_placed e t h)

  pub condition_placed : (e : Tree) → IsPlaced e → Gives (condition e) IsPlaced
  unfolding condition
  condition_placed e h = fitted_placed e (as_var e base.Bool) h

  conditions_placed : (es : List Tree) → ArePlaced es → AllBy (λ e. Gives (condition e) IsPlaced) es
  conditions_placed [] h = tt
  conditions_placed (e ∷ es) h = (condition_placed e h.0, conditions_placed es h.1)

  -- ---- literals and accesses

  pub listed_placed : (at : Span) (es : List Tree) → P at → ArePlaced es → Gives (listed at es) IsPlaced
  unfolding listed nodes_in
  listed_placed at es here h = gives_after IsPlaced (elements_join es) (λ t. Ok (tree.node at (list_of t) (tree.array (trees (each_to t es))))) (λ t. ((here, tt), trees_placed (each_to t es) (each_placed t es h)))

  all_rows_placed : (t : PlainType) (rs : List (List Tree)) → AllBy ArePlaced rs → AllBy ArePlaced (map (each_to t) rs)
  all_rows_placed t [] h = tt
  all_rows_placed t (r ∷ rs) h = (each_placed t r h.0, all_rows_placed t rs h.1)

  pub tabled_placed : (at : Span) (rs : List (List Tree)) → P at → AllBy ArePlaced rs → Gives (tabled at rs) IsPlaced
  unfolding tabled nodes_in
  tabled_placed at rs here h = gives_after IsPlaced (elements_join (all_in rs)) (λ t. Ok (tree.node at (table_of t) (tree.rows (rows_of (map (each_to t) rs))))) (λ t. ((here, tt), rows_placed (map (each_to t) rs) (all_rows_placed t rs h)))

  pub set_placed : (at : Span) (es : List Tree) → P at → ArePlaced es → Gives (set_literal at es) IsPlaced
  unfolding set_literal nodes_in
  set_placed at es here h =
      gives_after IsPlaced (loop member_next bottom_type es) (λ t. require (not (list_any is_var es)) kind.LeftOut at >> Ok (tree.node at (scalar (set_base t.base)) (tree.set (trees (each_to (scalar (member_base t.base)) es))))) (λ t.
      gives_after IsPlaced (require (not (list_any is_var es)) kind.LeftOut at) (λ u. Ok (tree.node at (scalar (set_base t.base)) (tree.set (trees (each_to (scalar (member_base t.base)) es))))) (λ u.
      ((here, tt), trees_placed (each_to (scalar (member_base t.base)) es) (each_placed (scalar (member_base t.base)) es h))))

  refused_if : (b : Bool) (at : Span) (e : Tree) (t : Test Tree) → Gives t IsPlaced → Gives (if b then refuse kind.LeftOut at else t) IsPlaced
  refused_if true at e t h = tt
  refused_if false at e t h = h

  index_placed : (at : Span) (e : Tree) (x : Ix) → IsPlaced e → Gives (index_fitted at e x) IsPlaced
  index_placed at e x h = refused_if (is_set_type (type_of e)) at e (fitted e (as_var e (index_base x))) (fitted_placed e (as_var e (index_base x)) h)

  pairs_placed : (at : Span) (es : List Tree) (xs : List Ix) → ArePlaced es → AllBy (λ p. Gives (index_pair at p) IsPlaced) (zip es xs)
  pairs_placed at [] xs h = tt
  pairs_placed at (e ∷ es) [] h = tt
  pairs_placed at (e ∷ es) (x ∷ xs) h = (index_placed at e x h.0, pairs_placed at es xs h.1)

  indices_placed : (at : Span) (es : List Tree) (xs : List Ix) → ArePlaced es → Gives (indices_fitted at es xs) ArePlaced
  unfolding indices_fitted
  indices_placed at es xs h = each_gives IsPlaced (index_pair at) (zip es xs) (pairs_placed at es xs h)

  pub access_placed : (at : Span) (e : Tree) (es : List Tree) → P at → IsPlaced e → ArePlaced es → Gives (accessed at e es) IsPlaced
  unfolding accessed nodes_in
  access_placed at e es here h k =
      let last : List Tree → PlainType → Test Tree = λ is t. Ok (tree.node at t (tree.access e (trees is))) in
      let typed : List Tree → Test Tree = λ is. allowed_at at (element_type e es) >>= λ t. last is t in
      gives_after IsPlaced (require (not (is_scalar (type_of e))) kind.TypeMismatch (place_of e)) (λ u. require (nat_eq (length es) (length (type_of e).dims)) kind.TypeMismatch at >> (indices_fitted at es (type_of e).dims >>= λ is. typed is)) (λ u.
      gives_after IsPlaced (require (nat_eq (length es) (length (type_of e).dims)) kind.TypeMismatch at) (λ v. indices_fitted at es (type_of e).dims >>= λ is. typed is) (λ v.
      gives_then ArePlaced IsPlaced (indices_fitted at es (type_of e).dims) typed (indices_placed at es (type_of e).dims k) (λ is l.
      gives_after IsPlaced (allowed_at at (element_type e es)) (last is) (λ t. ((here, tt), all_both OwnPlaces (nodes_in e) (in_trees (trees is)) h (trees_placed is l))))))

  -- ---- `if`

  both_placed : (cs es : List Tree) → ArePlaced cs → ArePlaced es → AllBy IsPlacedPair (zip cs es)
  both_placed [] es h k = tt
  both_placed (c ∷ cs) [] h k = tt
  both_placed (c ∷ cs) (e ∷ es) h k = ((h.0, k.0), both_placed cs es h.1 k.1)

  else_placed : (t : PlainType) (m : Option Tree) → IsPlacedMaybe m → IsPlacedMaybe (else_to t m)
  else_placed t None h = tt
  else_placed t (Some e) h = coerced_placed e t h

  pub decided_placed : (at : Span) (conds thens : List Tree) (els : Option Tree) → P at → ArePlaced conds → ArePlaced thens → IsPlacedMaybe els → Gives (decided at conds thens els) IsPlaced
  unfolding decided nodes_in
  decided_placed at conds thens els here h k l =
      let last : List Tree → PlainType → Test Tree = λ cs t. Ok (tree.node at t (tree.choice (branches (zip cs (each_to t thens))) (maybe (else_to t els)))) in
      let allowed : List Tree → PlainType → Test Tree = λ cs w. allowed_at at (made_var (list_any is_var cs) w) >>= λ t. last cs t in
      let whole : List Tree → PlainType → Test Tree = λ cs j. whole_type thens els j >>= λ w. allowed cs w in
      let joined : List Tree → Test Tree = λ cs. branches_join (thens ++ else_list els) >>= λ j. whole cs j in
      gives_then ArePlaced IsPlaced (each condition conds) joined (each_gives IsPlaced condition conds (conditions_placed conds h)) (λ cs c.
      gives_after IsPlaced (branches_join (thens ++ else_list els)) (whole cs) (λ j.
      gives_after IsPlaced (whole_type thens els j) (allowed cs) (λ w.
      gives_after IsPlaced (allowed_at at (made_var (list_any is_var cs) w)) (last cs) (λ t. (
        (here, tt),
        all_both OwnPlaces (in_branches (branches (zip cs (each_to t thens)))) (in_maybe (maybe (else_to t els)))
            (branches_placed (zip cs (each_to t thens)) (both_placed cs (each_to t thens) c (each_placed t thens k)))
            (maybe_placed (else_to t els) (else_placed t els l)),
      )))))

  -- ---- calls and operators

  called_placed : (at : Span) (t : PlainType) (c : Callee) (es : List Tree) → P at → ArePlaced es → IsPlaced (called_node at t c es)
  unfolding nodes_in
  called_placed at t (callee.Function f) es here h = ((here, tt), trees_placed es h)
  called_placed at t (callee.Row r) es here h = ((here, tt), trees_placed es h)

  call_placed : (at : Span) (es : List Tree) (c : Candidate) → P at → ArePlaced es → IsPlaced (call_node at es c)
  unfolding call_node
  call_placed at es c here h = called_placed at c.signature.result c.callee (all_coerced es c.signature.params) here (all_placed es c.signature.params h)

  pub applied_placed : (m : Model) (at : Span) (n : ℕ) (es : List Tree) → P at → ArePlaced es → Gives (applied m at n es) IsPlaced
  unfolding applied
  applied_placed m at n es here h =
      gives_after IsPlaced (candidates m at n (map type_of es)) (λ cs. best at (name_text m.texts n) (map type_of es) cs >>= λ c. Ok (call_node at es c)) (λ cs.
      gives_after IsPlaced (best at (name_text m.texts n) (map type_of es) cs) (λ c. Ok (call_node at es c)) (λ c. call_placed at es c here h))

  pub row_placed : (at : Span) (name : List ℕ) (es : List Tree) → P at → ArePlaced es → Gives (row_node at name es) IsPlaced
  unfolding row_node
  row_placed at name es here h = gives_after IsPlaced (row_of at name (map type_of es)) (λ c. Ok (call_node at es c)) (λ c. call_placed at es c here h)

  operated_placed : (at : Span) (o : PlacedOp) (left right : PlainType) (e : Tree) → P o.start → IsPlaced e → Gives (operated at o left right e) IsPlacedStep
  unfolding operated
  operated_placed at o left right e p h = gives_after IsPlacedStep (row_of at (operator_name o.op) (left ∷ right ∷ [])) (λ c. Ok (step_of o.start left right e c)) (λ c. (p, h))

  pub left_placed : (at : Span) (acc : Chained) (o : Operand) → IsPlacedChain acc → IsPlacedOperand o → Gives (from_left at acc o) IsPlacedChain
  left_placed at acc o h k =
      gives_then IsPlacedStep IsPlacedChain (operated at o.operator acc.ty (type_of o.tree) o.tree) (λ s. Ok (then_step acc s)) (operated_placed at o.operator acc.ty (type_of o.tree) o.tree k.0 k.1)
      (λ s l. all_both IsPlacedStep acc.done (s ∷ []) h (l, tt))

  right_placed : (at : Span) (e : Tree) (os : List Operand) → AllBy IsPlacedOperand os → Gives (from_right at e os) IsPlacedChain
  unfolding from_right
  right_placed at e [] h = tt
  right_placed at e (o ∷ os) h =
      let last : Chained → Step → Test Chained = λ rest s. Ok (record { ty = s.ty; done = s ∷ rest.done }) in
      let next : Chained → Test Chained = λ rest. operated at o.operator (type_of e) rest.ty o.tree >>= λ s. last rest s in
      gives_then IsPlacedChain IsPlacedChain (from_right o.operator.start o.tree os) next (right_placed o.operator.start o.tree os h.1) (λ rest r.
      gives_then IsPlacedStep IsPlacedChain (operated at o.operator (type_of e) rest.ty o.tree) (last rest) (operated_placed at o.operator (type_of e) rest.ty o.tree h.0.0 h.0.1) (λ s k. (k, r)))

  pub chain_placed : (at : Span) (e : Tree) (c : Chained) → P at → IsPlaced e → IsPlacedChain c → IsPlaced (chain_node at e c)
  unfolding nodes_in
  chain_placed at e c here h k = ((here, starts_placed c.done k), all_both OwnPlaces (nodes_in e) (in_steps (steps c.done)) h (steps_placed c.done k))

  pub appended_placed : (at : Span) (e : Tree) (os : List Operand) → P at → IsPlaced e → AllBy IsPlacedOperand os → Gives (appended at e os) IsPlaced
  unfolding appended
  appended_placed at e os here h k = gives_then IsPlacedChain IsPlaced (from_right at e os) (λ c. Ok (chain_node at e c)) (right_placed at e os k) (λ c l. chain_placed at e c here h l)

  -- ---- comprehensions

  some_placed : (t : Test Tree) → Gives t IsPlaced → Gives (maybe_some t) IsPlacedMaybe
  some_placed (Ok e) h = h
  some_placed (Err f) h = tt

  there_placed : (m : Option Tree) → IsPlacedMaybe m → Gives (if_there condition m) IsPlacedMaybe
  there_placed None h = tt
  there_placed (Some e) h = some_placed (condition e) (condition_placed e h)

  where_placed : (g : Gen) → IsPlacedGen g → Gives (where_fitted g) IsPlacedGen
  where_placed g h = gives_then IsPlacedMaybe IsPlacedGen (if_there condition g.cond) (λ c. Ok (record g { cond = c })) (there_placed g.cond h.1) (λ c k. (h.0, k))

  wheres_placed : (gs : List Gen) → AllBy IsPlacedGen gs → AllBy (λ g. Gives (where_fitted g) IsPlacedGen) gs
  wheres_placed [] h = tt
  wheres_placed (g ∷ gs) h = (where_placed g h.0, wheres_placed gs h.1)

  heads_placed : (at : Span) (braces : Bool) (gs : List Gen) (e : Tree) → P at → AllBy IsPlacedGen gs → IsPlaced e → Gives (heads at braces gs e) IsPlaced
  unfolding listed_heads set_of_heads nodes_in
  heads_placed at true gs e here h k =
      let t : PlainType = scalar (member_base (type_of e).base) in
      let whole : Test Tree = Ok (tree.node at (scalar (set_base (type_of e).base)) (tree.comp true (coerced e t) (gens gs))) in
      let is_par : Test (Unit {0}) = require (not (list_any is_var_gen gs || is_var e)) kind.LeftOut at in
      gives_after IsPlaced (require (is_below e (as_var e base.Int)) kind.TypeMismatch (place_of e)) (λ u. is_par >> whole) (λ u.
      gives_after IsPlaced is_par (λ v. whole) (λ v.
      ((here, tt), all_both OwnPlaces (nodes_in (coerced e t)) (in_gens (gens gs)) (coerced_placed e t k) (gens_placed gs h))))
  heads_placed at false gs e here h k =
      let t : PlainType = head_type gs (type_of e) in
      let whole : Test Tree = Ok (tree.node at (list_of t) (tree.comp false (coerced e t) (gens gs))) in
      gives_after IsPlaced (require (is_scalar (type_of e) && is_allowed t) kind.TypeMismatch (place_of e)) (λ u. whole) (λ u.
      ((here, tt), all_both OwnPlaces (nodes_in (coerced e t)) (in_gens (gens gs)) (coerced_placed e t k) (gens_placed gs h)))

  pub comprehended_placed : (at : Span) (braces : Bool) (gs : List Gen) (e : Tree) → P at → AllBy IsPlacedGen gs → IsPlaced e → Gives (comprehended at braces gs e) IsPlaced
  unfolding comprehended
  comprehended_placed at braces gs e here h k = gives_then (AllBy IsPlacedGen) IsPlaced (each where_fitted gs) (λ fs. heads at braces fs e) (each_gives IsPlacedGen where_fitted gs (wheres_placed gs h)) (λ fs l. heads_placed at braces fs e here l k)

  -- ---- lets

  item_placed : (i : Item) → IsPlacedItem i → Gives (item_fitted i) IsPlacedItem
  item_placed (declares d) h = h
  item_placed (constrains e) h = gives_then IsPlaced IsPlacedItem (condition e) (λ c. Ok (constrains c)) (condition_placed e h) (λ c k. k)

  fitted_items_placed : (is : List Item) → AllBy IsPlacedItem is → AllBy (λ i. Gives (item_fitted i) IsPlacedItem) is
  fitted_items_placed [] h = tt
  fitted_items_placed (i ∷ is) h = (item_placed i h.0, fitted_items_placed is h.1)

  pub let_placed : (at : Span) (is : List Item) (e : Tree) → P at → AllBy IsPlacedItem is → IsPlaced e → Gives (let_node at is e) IsPlaced
  unfolding let_node nodes_in
  let_placed at is e here h k =
      let last : List Item → PlainType → Test Tree = λ fs t. Ok (tree.node at t (tree.let_in (items fs) (coerced e t))) in
      let typed : List Item → Test Tree = λ fs. allowed_at at (made_var (list_any is_var_item is) (type_of e)) >>= λ t. last fs t in
      gives_then (AllBy IsPlacedItem) IsPlaced (each item_fitted is) typed (each_gives IsPlacedItem item_fitted is (fitted_items_placed is h)) (λ fs l.
      gives_after IsPlaced (allowed_at at (made_var (list_any is_var_item is) (type_of e))) (last fs) (λ t.
      ((here, spots_placed fs l), all_both OwnPlaces (in_items (items fs)) (nodes_in (coerced e t)) (items_placed fs l) (coerced_placed e t k))))

  -- ---- written types

  based_placed : (b : Base) (e : Tree) → IsPlaced e → IsPlaced (with_base b e)
  based_placed base.SetBottom e h = coerced_placed e (scalar base.SetInt) h
  based_placed b e h = h

  par_placed : (e : Tree) → IsPlaced e → Gives (par_set e) IsPlaced
  unfolding par_set
  par_placed e h = gives_if IsPlaced (is_set_type (type_of e) && not (is_var e)) (with_base (type_of e).base e) (fault_at kind.TypeMismatch (place_of e)) (based_placed (type_of e).base e h)

  index_set_placed : (at : Span) (b : Based Tree) → IsPlacedBased b → Gives (index at b) (λ i. IsPlacedMaybe i.set)
  unfolding index
  index_set_placed at of_bool h = tt
  index_set_placed at of_int h = tt
  index_set_placed at (of_set e) h = gives_then IsPlaced (λ i. IsPlacedMaybe i.set) (par_set e) (λ s. Ok (index_by s)) (par_placed e h) (λ s k. k)

  values_placed : (b : Based Tree) → IsPlacedBased b → Gives (values b) (λ v. IsPlacedMaybe v.set)
  unfolding values
  values_placed of_bool h = tt
  values_placed of_int h = tt
  values_placed (of_set e) h = gives_then IsPlaced (λ v. IsPlacedMaybe v.set) (par_set e) (λ s. Ok (values_by s)) (par_placed e h) (λ s k. k)

  all_indices_placed : (at : Span) (bs : List (Based Tree)) → AllBy IsPlacedBased bs → AllBy (λ b. Gives (index at b) (λ i. IsPlacedMaybe i.set)) bs
  all_indices_placed at [] h = tt
  all_indices_placed at (b ∷ bs) h = (index_set_placed at b h.0, all_indices_placed at bs h.1)

  index_sets : (is : List Index) → AllBy (λ i. IsPlacedMaybe i.set) is → AllBy IsPlacedMaybe (map (λ i. i.set) is)
  index_sets [] h = tt
  index_sets (i ∷ is) h = (h.0, index_sets is h.1)

  pub declared_placed : (at : Span) (var opt set : Bool) (dims : List (Based Tree)) (b : Based Tree) → P at → AllBy IsPlacedBased dims → IsPlacedBased b → Gives (declared at var opt set dims b) IsPlacedType
  unfolding declared
  declared_placed at var opt set dims b here h k =
      let last : List Index → Values → Base → Test DeclaredType = λ is v s. Ok (record { span = at; ty = record { var = var; opt = opt; base = s; dims = map (λ i. i.ty) is }; index = map (λ i. i.set) is; set = v.set }) in
      let with_values : List Index → Values → Test DeclaredType = λ is v. declared_base at set v.base >>= λ s. last is v s in
      let with_index : List Index → Test DeclaredType = λ is. values b >>= λ v. with_values is v in
      gives_then (AllBy (λ i. IsPlacedMaybe i.set)) IsPlacedType (each (index at) dims) with_index (each_gives (λ i. IsPlacedMaybe i.set) (index at) dims (all_indices_placed at dims h)) (λ is l.
      gives_then (λ v. IsPlacedMaybe v.set) IsPlacedType (values b) (with_values is) (values_placed b k) (λ v w.
      gives_after IsPlacedType (declared_base at set v.base) (last is v) (λ s. record { span = here; index = index_sets is l; set = w })))
