-- All declarations and functions have their turn in the order of types.
use Rattle.std.proofs.Common.{◌≡◌, ℕ, zero, suc, ◌+◌, ◌<◌, List, [], ◌∷◌, ◌++◌, sym, subst, ⊎_elim, length, arith, append_assoc, append-nil}
use Rattle.mz_graph.specs.Graph.{Graph, Edge, IsIn}
use Rattle.mz_graph.specs.Order.{Continues, over, turn, IsOrder}
use Rattle.mz_graph.proofs.Membership.{in_or_not, in_front}
use Rattle.mz_scope_names.specs.declared.name_use.NameUse.{NameUse}
use Rattle.mz_scope_names.specs.Sketches.{Sketch}
use Rattle.mz_scope_order.specs.Dependencies.{sketch_at, RefersTo, AreRanks}
use Rattle.mz_scope_order.specs.StepsFaithful.{IsName, of_function, of_decl, TypeEdge, to_name, to_decl, AreTypes}

-- at the end of an order all whose needs had their turn had their own
served_at_end : {Needs : ℕ → ℕ → Type 0} {count : ℕ} (done rest : List ℕ) (y : ℕ) → Continues Needs count done rest → y < count → ((z : ℕ) → Needs y z → IsIn z (done ++ rest)) → IsIn y (done ++ rest)
served_at_end done [] y (over none) counted served =
    ⊎_elim (λ there. in_front y done [] there)
    (λ remains. absurd (none y (record { counted = counted; remains = remains; served = λ z n. subst (IsIn z) (append-nil done) (served z n) })))
    (in_or_not y done)
served_at_end done (x ∷ rest) y (turn next more) counted served =
    subst (IsIn y) (append_assoc done (x ∷ []) rest)
    (served_at_end (done ++ x ∷ []) rest y more counted (λ z n. subst (IsIn z) (sym (append_assoc done (x ∷ []) rest)) (served z n)))

served_is_in : (g : Graph) (order : List ℕ) (y : ℕ) → IsOrder (Edge g) (length g) order → y < length g → ((z : ℕ) → Edge g y z → IsIn z order) → IsIn y order
served_is_in g order y o counted served = served_at_end [] order y o counted served

module _ (decls functions : List Sketch) (of_d of_f : ℕ → ℕ) (node : ℕ → ℕ) (base : ℕ) (types : Graph) (order : List ℕ)
    (ranks : AreRanks decls functions of_d of_f) (are : AreTypes decls functions node base types) (sized : length types ≡ base + length decls) (o : IsOrder (Edge types) (length types) order) where
  -- all declarations and functions below a rank have their turn
  pub record HaveTurns (k : ℕ) : Type 0 where
    pub functions_have : (f : ℕ) → f < length functions → of_f f < k → IsIn f order
    pub decls_have : (d : ℕ) → d < length decls → of_d d < k → IsIn (base + d) order

  -- a name has its turn, where all functions have theirs that these uses mean by it
  name_in : (us : List NameUse) (y : ℕ) → y < base → IsName functions types us y → ((h : ℕ) → RefersTo us functions h → IsIn h order) → IsIn y order
  name_in us y low name all = served_is_in types order y o (omega (arith, low, sized)) (λ z edge. all z (name.meant z edge))

  to_in : (us : List NameUse) (y : ℕ) → ((h : ℕ) → RefersTo us functions h → IsIn h order) → ((d : ℕ) → RefersTo us decls d → IsIn (base + d) order) → TypeEdge decls functions base types us y → IsIn y order
  to_in us y functions_in decls_in (to_name low name) = name_in us y low name functions_in
  to_in us y functions_in decls_in (to_decl d refers is) = subst (λ z. IsIn z order) (sym is) (decls_in d refers)

  function_in : (k f : ℕ) → HaveTurns k → f < length functions → of_f f < suc k → IsIn f order
  function_in k f before counted low =
      served_is_in types order f o (omega (arith, counted, sized, are.later)) (λ y edge.
      to_in (sketch_at functions f).types y
      (λ h refers. let less : of_f h < of_f f = ranks.function_function f h counted refers in before.functions_have h refers.counted (omega (arith, less, low)))
      (λ d refers. let less : of_d d < of_f f = ranks.function_decl f d counted refers in before.decls_have d refers.counted (omega (arith, less, low)))
      (are.down f y (sketch_at functions f).types (of_function f counted) edge))

  decl_in : (k d : ℕ) → HaveTurns k → d < length decls → of_d d < suc k → IsIn (base + d) order
  decl_in k d before counted low =
      served_is_in types order (base + d) o (omega (arith, counted, sized)) (λ y edge.
      to_in (sketch_at decls d).types y
      (λ h refers. let less : of_f h < of_d d = ranks.decl_function d h counted refers in before.functions_have h refers.counted (omega (arith, less, low)))
      (λ e refers. let less : of_d e < of_d d = ranks.decl_decl d e counted refers in before.decls_have e refers.counted (omega (arith, less, low)))
      (are.down (base + d) y (sketch_at decls d).types (of_decl d counted) edge))

  below : (k : ℕ) → HaveTurns k
  below zero = record { functions_have = λ f counted low. absurd (omega (arith, low)); decls_have = λ d counted low. absurd (omega (arith, low)) }
  below (suc k) = record { functions_have = λ f counted low. function_in k f (below k) counted low; decls_have = λ d counted low. decl_in k d (below k) counted low }

  pub all_functions_in : (f : ℕ) → f < length functions → IsIn f order
  all_functions_in f counted = (below (suc (of_f f))).functions_have f counted (omega arith)

  pub all_decls_in : (d : ℕ) → d < length decls → IsIn (base + d) order
  all_decls_in d counted = (below (suc (of_d d))).decls_have d counted (omega arith)
