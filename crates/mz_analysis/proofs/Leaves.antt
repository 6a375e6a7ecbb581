-- Where the premises of forms stop, when their parts are typed: at the form, or at a part.
use Rattle.std.proofs.Common.{ℕ, Bool, true, false, List, [], ◌∷◌, ◌++◌, map, not, length}
use Rattle.std.specs.Prelude.{◌&&◌, ◌||◌, Option, Some, None, Ok, nat_eq, if◌then◌else◌, slice_get}
use Rattle.std.specs.List.{AllByRecursion, list_any, zip}
use Rattle.mz_base.specs.declared.fault.Span.{Span}
use Rattle.mz_base.specs.declared.kind.Kind.TheVariants as kind
use Rattle.mz_base.specs.Names.{text_of}
use Rattle.mz_core.specs.declared.types.Base.{Base}
use Rattle.mz_core.specs.declared.types.Base.TheVariants as base
use Rattle.mz_core.specs.declared.types.Ix.{Ix}
use Rattle.mz_core.specs.Types.{PlainType, is_allowed}
use Rattle.mz_core.specs.Coercions.{PathLink}
use Rattle.mz_core.specs.Join.{join}
use Rattle.mz_core.specs.Tree.{Tree, Gen, Item, declares, constrains, node, coerce, type_of, place_of}
use Rattle.mz_overload.specs.declared.resolution.Resolution.{Resolution}
use Rattle.mz_overload.specs.declared.resolution.Resolution.TheVariants.{One, NoneFits, Ambiguous}
use Rattle.mz_overload.specs.Best.{resolution}
use Rattle.mz_builtin.specs.Signatures.{fitting}
use Rattle.mz_tree.specs.Tree.{Name}
use Rattle.mz_tree.specs.declared.expr.PlacedOp.{PlacedOp}
use Rattle.mz_check_meaning.specs.declared.callee.Callee.{Callee}
use Rattle.mz_check_meaning.specs.declared.callee.Callee.TheVariants as callee
use Rattle.mz_check_meaning.specs.declared.meaning.Meaning.{Meaning}
use Rattle.mz_check_meaning.specs.declared.meaning.Meaning.TheVariants as meaning
use Rattle.mz_check_meaning.specs.Tests.{Test, refuse, require, loop, each, if_there}
use Rattle.mz_check_meaning.specs.Models.{Model, Env, Local, entry_of, entries_of, typed_so_far, type_of_decl, heading_of, local_in, is_bound_since}
use Rattle.mz_check_meaning.specs.Coerced.{wrapped, coerced, coercions_to, fitted, is_below, condition, as_var, allowed_at, is_scalar, is_set_type, made_var, bottom_type, scalar, element_of}
use Rattle.mz_check_meaning.specs.Calls.{Candidate, chosen, unfit, is_left_out, best, function_candidate, candidates, row_candidate, called_node, call_node, applied, row_of, row_node}
use Rattle.mz_check_meaning.specs.Chains.{Operand, Chained, operator_name, operated, from_left, from_right, appended}
use Rattle.mz_check_meaning.specs.Arrays.{join_next, element_next, elements_join, listed, all_in, tabled, is_var, member_next, set_literal, index_base, index_pair, indices_fitted, element_type, accessed}
use Rattle.mz_check_meaning.specs.Branches.{branches_join, whole_type, else_list, decided}
use Rattle.mz_check_meaning.specs.Comprehensions.{running_type, is_list_type, member_of, Bound, bind_next, bind_names, where_fitted, is_var_gen, head_type, listed_heads, set_of_heads, heads, comprehended}
use Rattle.mz_check_meaning.specs.WrittenTypes.{Based, of_bool, of_int, of_set, par_set, index, values, set_of_values, declared_base, declared, with_base}
use Rattle.mz_check_meaning.specs.Lets.{new_name, item_fitted, is_var_item, let_node}
use Rattle.mz_check_meaning.specs.Names.{meant, named_or, named, function_meant, bare_or, bare_call}
use Rattle.mz_analysis.specs.Analysis.{IsOfTests}
use Rattle.mz_analysis.proofs.Stopping.{OfSome, entry_all, both_all, Stops, Any, next, required, is_found, looped, each_stops, there_stops}

module _ (P : Span → Type 0) where
  -- a tree at such a place
  abbrev pub At : Tree → Type 0
  At e = P (place_of e)

  -- ---- coercions and tests of types

  wrapped_at : (at : Span) (e : Tree) (ls : List PathLink) → P at → At e → At (wrapped at e ls)
  unfolding wrapped
  wrapped_at at e [] p h = h
  wrapped_at at e (l ∷ ls) p h = wrapped_at at (node at l.1 (coerce l.0 e)) ls p p

  pub coerced_at : (e : Tree) (t : PlainType) → At e → At (coerced e t)
  unfolding coerced
  coerced_at e t h = wrapped_at (place_of e) e (coercions_to (type_of e) t) h h

  fitted_if : (b : Bool) (e : Tree) (t : PlainType) → At e → Stops P At (if b then Ok (coerced e t) else refuse kind.TypeMismatch (place_of e))
  fitted_if true e t h = coerced_at e t h
  fitted_if false e t h = (h, tt)

  pub fitted_stops : (e : Tree) (t : PlainType) → At e → Stops P At (fitted e t)
  unfolding fitted
  fitted_stops e t h = fitted_if (is_below e t) e t h

  pub condition_stops : (e : Tree) → At e → Stops P At (condition e)
  unfolding condition
  condition_stops e h = fitted_stops e (as_var e base.Bool) h

  allowed_if : (b : Bool) (at : Span) (t : PlainType) → P at → Stops P (Any P) (if b then Ok t else refuse kind.TypeMismatch at)
  allowed_if true at t p = tt
  allowed_if false at t p = (p, tt)

  allowed_stops : (at : Span) (t : PlainType) → P at → Stops P (Any P) (allowed_at at t)
  unfolding allowed_at
  allowed_stops at t p = allowed_if (is_allowed t) at t p

  -- ---- what is known of the model: its refused types are refused at such places

  pub record IsKnown (m : Model) : Type 0 where
    pub types : AllByRecursion (λ t. Stops P (Any P) t.1) m.types
    pub headings : AllByRecursion (λ h. Stops P (Any P) h.1) m.headings

  so_far : {A : Type 0} (at : Span) (o : Option (Test A)) → P at → OfSome (Stops P (Any P)) o → Stops P (Any P) (typed_so_far at o)
  so_far at None p h = (p, tt)
  so_far at (Some t) p h = h

  pub type_stops : (m : Model) (at : Span) (d : ℕ) → IsKnown m → P at → Stops P (Any P) (type_of_decl m at d)
  type_stops m at d k p = so_far at (entry_of d m.types) p (entry_all (Stops P (Any P)) d m.types k.types)

  pub heading_stops : (m : Model) (at : Span) (f : ℕ) → IsKnown m → P at → Stops P (Any P) (heading_of m at f)
  heading_stops m at f k p = so_far at (entry_of f m.headings) p (entry_all (Stops P (Any P)) f m.headings k.headings)

  -- ---- calls

  unfit_kind : (b : Bool) → IsOfTests (unfit b)
  unfit_kind true = tt
  unfit_kind false = tt

  chosen_stops : (at : Span) (name : List ℕ) (args : List PlainType) (cands : List Candidate) (c : Resolution) → P at → Stops P (Any P) (chosen at name args cands c)
  chosen_stops at name args cands (One k) p = is_found P kind.NoOverload at (slice_get cands k) (p, tt)
  chosen_stops at name args cands NoneFits p = (p, unfit_kind (is_left_out name args))
  chosen_stops at name args cands Ambiguous p = (p, tt)

  best_stops : (at : Span) (name : List ℕ) (args : List PlainType) (cands : List Candidate) → P at → Stops P (Any P) (best at name args cands)
  unfolding best
  best_stops at name args cands p = chosen_stops at name args cands (resolution (map (λ c. c.signature) cands) args) p

  called_at : (at : Span) (t : PlainType) (c : Callee) (es : List Tree) → P at → At (called_node at t c es)
  called_at at t (callee.Function f) es p = p
  called_at at t (callee.Row r) es p = p

  call_at : (at : Span) (es : List Tree) (c : Candidate) → P at → At (call_node at es c)
  unfolding call_node
  call_at at es c p = called_at at c.signature.result c.callee _ p

  any_list : {A : Type 0} (xs : List A) → AllByRecursion (Any P) xs
  any_list [] = tt
  any_list (x ∷ xs) = (tt, any_list xs)

  function_stops : (m : Model) (at : Span) (f : ℕ) → IsKnown m → P at → Stops P (Any P) (function_candidate m at f)
  function_stops m at f k p = next P (Any P) (Any P) (heading_of m at f) _ (heading_stops m at f k p) (λ h u. tt)

  candidates_stop : (m : Model) (at : Span) (n : Name) (args : List PlainType) → IsKnown m → P at → Stops P (Any P) (candidates m at n args)
  unfolding candidates
  candidates_stop m at n args k p =
      next P (AllByRecursion (Any P)) (Any P) (each (function_candidate m at) (entries_of n m.functions)) _ (each_stops P (Any P) (Any P) (function_candidate m at) (λ f u. function_stops m at f k p) (entries_of n m.functions) (any_list (entries_of n m.functions))) (λ fs u. tt)

  pub applied_stops : (m : Model) (at : Span) (n : Name) (es : List Tree) → IsKnown m → P at → Stops P At (applied m at n es)
  unfolding applied
  applied_stops m at n es k p =
      next P (Any P) At (candidates m at n (map type_of es)) _ (candidates_stop m at n (map type_of es) k p)
      (λ cs u. next P (Any P) At (best at (text_of m.texts n) (map type_of es) cs) _ (best_stops at (text_of m.texts n) (map type_of es) cs p) (λ c v. call_at at es c p))

  row_of_stops : (at : Span) (name : List ℕ) (args : List PlainType) → P at → Stops P (Any P) (row_of at name args)
  unfolding row_of
  row_of_stops at name args p = best_stops at name args (map row_candidate (fitting name args)) p

  pub row_stops : (at : Span) (name : List ℕ) (es : List Tree) → P at → Stops P At (row_node at name es)
  unfolding row_node
  row_stops at name es p = next P (Any P) At (row_of at name (map type_of es)) _ (row_of_stops at name (map type_of es) p) (λ c u. call_at at es c p)

  -- ---- names

  local_or : (m : Model) (env : Env) (at : Span) (n : Name) (l : Option Local) → Stops P At (meant m env.output at (entry_of n m.names)) → P at → Stops P At (named_or m env at n l)
  local_or m env at n None h p = h
  local_or m env at n (Some l) h p = p

  meant_stops : (m : Model) (output : Bool) (at : Span) (o : Option Meaning) → IsKnown m → P at → Stops P At (meant m output at o)
  unfolding meant
  meant_stops m output at None k p = (p, tt)
  meant_stops m output at (Some (meaning.Decl d)) k p = next P (Any P) At (type_of_decl m at d) _ (type_stops m at d k p) (λ t u. p)
  meant_stops m output at (Some (meaning.Function f)) k p = next P (Any P) At (heading_of m at f) _ (heading_stops m at f k p) (λ h u. p)
  meant_stops m output at (Some (meaning.Enum e)) k p = p
  meant_stops m output at (Some (meaning.Case e c)) k p = p

  pub named_stops : (m : Model) (env : Env) (at : Span) (n : Name) → IsKnown m → P at → Stops P At (named m env at n)
  unfolding named
  named_stops m env at n k p = local_or m env at n (local_in n env.locals) (meant_stops m env.output at (entry_of n m.names) k p) p

  function_meant_stops : (m : Model) (at : Span) (o : Option Meaning) → IsKnown m → P at → Stops P At (function_meant m at o)
  function_meant_stops m at None k p = (p, tt)
  function_meant_stops m at (Some (meaning.Decl d)) k p = (p, tt)
  function_meant_stops m at (Some (meaning.Function f)) k p = next P (Any P) At (heading_of m at f) _ (heading_stops m at f k p) (λ h u. p)
  function_meant_stops m at (Some (meaning.Enum e)) k p = (p, tt)
  function_meant_stops m at (Some (meaning.Case e c)) k p = (p, tt)

  bare_stops_or : (m : Model) (at : Span) (n : Name) (l : Option Local) → IsKnown m → P at → Stops P At (bare_or m at n l)
  bare_stops_or m at n (Some l) k p = (p, tt)
  bare_stops_or m at n None k p = function_meant_stops m at (entry_of n m.names) k p

  pub bare_stops : (m : Model) (env : Env) (at : Span) (n : Name) → IsKnown m → P at → Stops P At (bare_call m env at n)
  unfolding bare_call
  bare_stops m env at n k p = bare_stops_or m at n (local_in n env.locals) k p

  -- ---- operators

  abbrev pub OperandAt : Operand → Type 0
  OperandAt o = P o.operator.start × At o.tree

  operated_stops : (at : Span) (o : PlacedOp) (left right : PlainType) (e : Tree) → P at → Stops P (Any P) (operated at o left right e)
  unfolding operated
  operated_stops at o left right e p = next P (Any P) (Any P) (row_of at (operator_name o.op) (left ∷ right ∷ [])) _ (row_of_stops at (operator_name o.op) (left ∷ right ∷ []) p) (λ c u. tt)

  pub left_stops : (at : Span) (acc : Chained) (o : Operand) → P at → Stops P (Any P) (from_left at acc o)
  left_stops at acc o p = next P (Any P) (Any P) (operated at o.operator acc.ty (type_of o.tree) o.tree) _ (operated_stops at o.operator acc.ty (type_of o.tree) o.tree p) (λ s u. tt)

  right_stops : (at : Span) (e : Tree) (os : List Operand) → P at → AllByRecursion OperandAt os → Stops P (Any P) (from_right at e os)
  unfolding from_right
  right_stops at e [] p k = tt
  right_stops at e (o ∷ os) p k =
      next P (Any P) (Any P) (from_right o.operator.start o.tree os) _ (right_stops o.operator.start o.tree os k.0.0 k.1)
      (λ rest u. next P (Any P) (Any P) (operated at o.operator (type_of e) rest.ty o.tree) _ (operated_stops at o.operator (type_of e) rest.ty o.tree p) (λ s v. tt))

  pub appended_stops : (at : Span) (e : Tree) (os : List Operand) → P at → AllByRecursion OperandAt os → Stops P At (appended at e os)
  unfolding appended
  appended_stops at e os p k = next P (Any P) At (from_right at e os) _ (right_stops at e os p k) (λ c u. p)

  -- ---- arrays, sets, accesses

  join_stops : (t : PlainType) (e : Tree) → At e → Stops P (Any P) (join_next t e)
  unfolding join_next
  join_stops t e h = is_found P kind.TypeMismatch (place_of e) (join t (type_of e)) (h, tt)

  element_stops : (t : PlainType) (e : Tree) → At e → Stops P (Any P) (element_next t e)
  element_stops t e h = next P (Any P) (Any P) (require (is_scalar (type_of e)) kind.TypeMismatch (place_of e)) _ (required P (is_scalar (type_of e)) kind.TypeMismatch (place_of e) (h, tt)) (λ v u. join_stops t e h)

  elements_stop : (es : List Tree) → AllByRecursion At es → Stops P (Any P) (elements_join es)
  elements_stop es h = looped P At (Any P) element_next (λ t e u k. element_stops t e k) es h bottom_type tt

  pub listed_stops : (at : Span) (es : List Tree) → P at → AllByRecursion At es → Stops P At (listed at es)
  unfolding listed
  listed_stops at es p h = next P (Any P) At (elements_join es) _ (elements_stop es h) (λ t u. p)

  all_in_at : (rs : List (List Tree)) → AllByRecursion (AllByRecursion At) rs → AllByRecursion At (all_in rs)
  all_in_at [] h = tt
  all_in_at (r ∷ rs) h = both_all At r (all_in rs) h.0 (all_in_at rs h.1)

  pub tabled_stops : (at : Span) (rs : List (List Tree)) → P at → AllByRecursion (AllByRecursion At) rs → Stops P At (tabled at rs)
  unfolding tabled
  tabled_stops at rs p h = next P (Any P) At (elements_join (all_in rs)) _ (elements_stop (all_in rs) (all_in_at rs h)) (λ t u. p)

  member_stops : (t : PlainType) (e : Tree) → At e → Stops P (Any P) (member_next t e)
  member_stops t e h = next P (Any P) (Any P) (require (is_below e (as_var e base.Int)) kind.TypeMismatch (place_of e)) _ (required P (is_below e (as_var e base.Int)) kind.TypeMismatch (place_of e) (h, tt)) (λ v u. join_stops t e h)

  pub set_stops : (at : Span) (es : List Tree) → P at → AllByRecursion At es → Stops P At (set_literal at es)
  unfolding set_literal
  set_stops at es p h =
      next P (Any P) At (loop member_next bottom_type es) _ (looped P At (Any P) member_next (λ t e u k. member_stops t e k) es h bottom_type tt)
      (λ t u. next P (Any P) At (require (not (list_any is_var es)) kind.LeftOut at) _ (required P (not (list_any is_var es)) kind.LeftOut at (p, tt)) (λ v w. p))

  index_if : (b : Bool) (at : Span) (e : Tree) (x : Ix) → P at → At e → Stops P At (if b then refuse kind.LeftOut at else fitted e (as_var e (index_base x)))
  index_if true at e x p h = (p, tt)
  index_if false at e x p h = fitted_stops e (as_var e (index_base x)) h

  zip_at : {B : Type 0} (es : List Tree) (xs : List B) → AllByRecursion At es → AllByRecursion (λ p. At p.0) (zip es xs)
  zip_at [] xs h = tt
  zip_at (e ∷ es) [] h = tt
  zip_at (e ∷ es) (x ∷ xs) h = (h.0, zip_at es xs h.1)

  indices_stop : (at : Span) (es : List Tree) (xs : List Ix) → P at → AllByRecursion At es → Stops P (AllByRecursion At) (indices_fitted at es xs)
  unfolding indices_fitted
  indices_stop at es xs p h = each_stops P (λ q. At q.0) At (index_pair at) (λ q k. index_if (is_set_type (type_of q.0)) at q.0 q.1 p k) (zip es xs) (zip_at es xs h)

  pub accessed_stops : (at : Span) (e : Tree) (es : List Tree) → P at → At e → AllByRecursion At es → Stops P At (accessed at e es)
  unfolding accessed
  accessed_stops at e es p h hs =
      next P (Any P) At (require (not (is_scalar (type_of e))) kind.TypeMismatch (place_of e)) _ (required P (not (is_scalar (type_of e))) kind.TypeMismatch (place_of e) (h, tt))
      (λ a u. next P (Any P) At (require (nat_eq (length es) (length (type_of e).dims)) kind.TypeMismatch at) _ (required P (nat_eq (length es) (length (type_of e).dims)) kind.TypeMismatch at (p, tt))
      (λ b v. next P (AllByRecursion At) At (indices_fitted at es (type_of e).dims) _ (indices_stop at es (type_of e).dims p hs)
      (λ is w. next P (Any P) At (allowed_at at (element_type e es)) _ (allowed_stops at (element_type e es) p) (λ t x. p))))

  -- ---- `if`

  branches_stop : (es : List Tree) → AllByRecursion At es → Stops P (Any P) (branches_join es)
  unfolding branches_join
  branches_stop [] h = tt
  branches_stop (e ∷ es) h = looped P At (Any P) join_next (λ t x u k. join_stops t x k) es h.1 (type_of e) tt

  whole_stops : (es : List Tree) (o : Option Tree) (t : PlainType) → AllByRecursion At es → Stops P (Any P) (whole_type es o t)
  whole_stops es (Some e) t h = tt
  whole_stops es None t h = next P (AllByRecursion At) (Any P) (each condition es) _ (each_stops P At At condition condition_stops es h) (λ cs u. tt)

  else_at : (o : Option Tree) → OfSome At o → AllByRecursion At (else_list o)
  else_at None h = tt
  else_at (Some e) h = (h, tt)

  pub decided_stops : (at : Span) (conds thens : List Tree) (els : Option Tree) → P at → AllByRecursion At conds → AllByRecursion At thens → OfSome At els → Stops P At (decided at conds thens els)
  unfolding decided
  decided_stops at conds thens els p hc ht he =
      next P (AllByRecursion At) At (each condition conds) _ (each_stops P At At condition condition_stops conds hc)
      (λ cs u. next P (Any P) At (branches_join (thens ++ else_list els)) _ (branches_stop (thens ++ else_list els) (both_all At thens (else_list els) ht (else_at els he)))
      (λ joined v. next P (Any P) At (whole_type thens els joined) _ (whole_stops thens els joined ht)
      (λ whole w. next P (Any P) At (allowed_at at (made_var (list_any is_var cs) whole)) _ (allowed_stops at (made_var (list_any is_var cs) whole) p) (λ t x. p))))

  -- ---- comprehensions

  abbrev pub GenAt : Gen → Type 0
  GenAt g = OfSome At g.cond

  list_if : (b : Bool) (e : Tree) → At e → Stops P (Any P) (if b then Ok (element_of (type_of e)) else refuse kind.TypeMismatch (place_of e))
  list_if true e h = tt
  list_if false e h = (h, tt)

  running_if : (b : Bool) (e : Tree) → At e → Stops P (Any P) (if b then Ok (scalar (member_of (type_of e).base)) else (if is_list_type (type_of e).dims then Ok (element_of (type_of e)) else refuse kind.TypeMismatch (place_of e)))
  running_if true e h = tt
  running_if false e h = list_if (is_list_type (type_of e).dims) e h

  pub running_stops : (e : Tree) → At e → Stops P (Any P) (running_type e)
  unfolding running_type
  running_stops e h = running_if (is_set_type (type_of e)) e h

  bind_stops : (start : ℕ) (t : PlainType) (b : Bound) (n : Name × Span) → P n.1 → Stops P (Any P) (bind_next start t b n)
  bind_stops start t b n p = next P (Any P) (Any P) (require (not (is_bound_since start n.0 b.env)) kind.DuplicateName n.1) _ (required P (not (is_bound_since start n.0 b.env)) kind.DuplicateName n.1 (p, tt)) (λ u v. tt)

  pub names_stop : (start : ℕ) (t : PlainType) (ns : List (Name × Span)) (env : Env) → AllByRecursion (λ n. P n.1) ns → Stops P (Any P) (bind_names start t ns env)
  unfolding bind_names
  names_stop start t ns env h = looped P (λ n. P n.1) (Any P) (bind_next start t) (λ b n u k. bind_stops start t b n k) ns h (record { slots = []; env = env }) tt

  where_stops : (g : Gen) → GenAt g → Stops P (Any P) (where_fitted g)
  where_stops g h = next P (OfSome At) (Any P) (if_there condition g.cond) _ (there_stops P At At condition condition_stops g.cond h) (λ c u. tt)

  heads_stop : (at : Span) (braces : Bool) (gs : List Gen) (e : Tree) → P at → At e → Stops P At (heads at braces gs e)
  unfolding listed_heads set_of_heads
  heads_stop at true gs e p h =
      next P (Any P) At (require (is_below e (as_var e base.Int)) kind.TypeMismatch (place_of e)) _ (required P (is_below e (as_var e base.Int)) kind.TypeMismatch (place_of e) (h, tt))
      (λ a u. next P (Any P) At (require (not (list_any is_var_gen gs || is_var e)) kind.LeftOut at) _ (required P (not (list_any is_var_gen gs || is_var e)) kind.LeftOut at (p, tt)) (λ b v. p))
  heads_stop at false gs e p h =
      next P (Any P) At (require (is_scalar (type_of e) && is_allowed (head_type gs (type_of e))) kind.TypeMismatch (place_of e)) _
      (required P (is_scalar (type_of e) && is_allowed (head_type gs (type_of e))) kind.TypeMismatch (place_of e) (h, tt)) (λ a u. p)

  pub comprehended_stops : (at : Span) (braces : Bool) (gs : List Gen) (e : Tree) → P at → At e → AllByRecursion GenAt gs → Stops P At (comprehended at braces gs e)
  unfolding comprehended
  comprehended_stops at braces gs e p h hs = next P (AllByRecursion (Any P)) At (each where_fitted gs) _ (each_stops P GenAt (Any P) where_fitted where_stops gs hs) (λ fs u. heads_stop at braces fs e p h)

  -- ---- written types

  abbrev pub BasedAt : Based Tree → Type 0
  BasedAt of_bool = Unit {0}
  BasedAt of_int = Unit {0}
  BasedAt (of_set e) = At e

  par_if : (b : Bool) (e f : Tree) → At e → Stops P (Any P) (if b then Ok f else refuse kind.TypeMismatch (place_of e))
  par_if true e f h = tt
  par_if false e f h = (h, tt)

  par_stops : (e : Tree) → At e → Stops P (Any P) (par_set e)
  unfolding par_set
  par_stops e h = par_if (is_set_type (type_of e) && not (is_var e)) e (with_base (type_of e).base e) h

  index_stops : (at : Span) (b : Based Tree) → P at → BasedAt b → Stops P (Any P) (index at b)
  unfolding index
  index_stops at of_bool p h = (p, tt)
  index_stops at of_int p h = tt
  index_stops at (of_set e) p h = next P (Any P) (Any P) (par_set e) _ (par_stops e h) (λ s u. tt)

  values_stop : (b : Based Tree) → BasedAt b → Stops P (Any P) (values b)
  unfolding values
  values_stop of_bool h = tt
  values_stop of_int h = tt
  values_stop (of_set e) h = next P (Any P) (Any P) (par_set e) _ (par_stops e h) (λ s u. tt)

  set_of_stops : (at : Span) (b : Base) → P at → Stops P (Any P) (set_of_values at b)
  unfolding set_of_values
  set_of_stops at (base.Enum e) p = tt
  set_of_stops at base.Int p = tt
  set_of_stops at base.Bool p = (p, tt)
  set_of_stops at base.SetInt p = (p, tt)
  set_of_stops at (base.SetEnum e) p = (p, tt)
  set_of_stops at base.Text p = (p, tt)
  set_of_stops at base.Bottom p = (p, tt)
  set_of_stops at base.SetBottom p = (p, tt)

  base_stops : (at : Span) (set : Bool) (b : Base) → P at → Stops P (Any P) (declared_base at set b)
  unfolding declared_base
  base_stops at true b p = set_of_stops at b p
  base_stops at false b p = tt

  pub declared_stops : (at : Span) (var opt set : Bool) (dims : List (Based Tree)) (b : Based Tree) → P at → AllByRecursion BasedAt dims → BasedAt b → Stops P (Any P) (declared at var opt set dims b)
  unfolding declared
  declared_stops at var opt set dims b p hs h =
      next P (AllByRecursion (Any P)) (Any P) (each (index at) dims) _ (each_stops P BasedAt (Any P) (index at) (λ x k. index_stops at x p k) dims hs)
      (λ is u. next P (Any P) (Any P) (values b) _ (values_stop b h)
      (λ v w. next P (Any P) (Any P) (declared_base at set v.base) _ (base_stops at set v.base p) (λ s x. tt)))

  -- ---- lets

  abbrev pub ItemAt : Item → Type 0
  ItemAt (declares d) = Unit {0}
  ItemAt (constrains e) = At e

  pub new_stops : (start : ℕ) (n : Name) (at : Span) (env : Env) → P at → Stops P (Any P) (new_name start n at env)
  new_stops start n at env p = required P (not (is_bound_since start n env)) kind.DuplicateName at (p, tt)

  item_stops : (i : Item) → ItemAt i → Stops P (Any P) (item_fitted i)
  item_stops (declares d) h = tt
  item_stops (constrains e) h = next P At (Any P) (condition e) _ (condition_stops e h) (λ c u. tt)

  pub let_stops : (at : Span) (is : List Item) (e : Tree) → P at → AllByRecursion ItemAt is → Stops P At (let_node at is e)
  unfolding let_node
  let_stops at is e p hs =
      next P (AllByRecursion (Any P)) At (each item_fitted is) _ (each_stops P ItemAt (Any P) item_fitted item_stops is hs)
      (λ fs u. next P (Any P) At (allowed_at at (made_var (list_any is_var_item is) (type_of e))) _ (allowed_stops at (made_var (list_any is_var_item is) (type_of e)) p) (λ t v. p))
