-- Each function's name is among the names of its space, and so has a node.
use Rattle.std.proofs.Common.{◌≡◌, ℕ, zero, suc, ◌+◌, ◌<◌, inl, inr, List, [], ◌∷◌, ◌++◌, Bool, true, false, Option, Some, length, refl, ap, sym, ◌∙◌, subst, arith}
use Rattle.std.specs.Prelude.{if◌then◌else◌, ◌||◌}
use Rattle.std.specs.Option.{option_map}
use Rattle.std.proofs.lemmas.Bool.{ne_eqb}
use Rattle.mz_graph.specs.Graph.{IsIn}
use Rattle.mz_graph.proofs.Membership.{same_or_not, in_front, in_last}
use Rattle.mz_scope_names.specs.Sets.{holds, with_name, place_of}
use Rattle.mz_scope_names.specs.declared.name_use.NameUse.TheVariants.{Mention, Call}
use Rattle.mz_scope_names.specs.Sketches.{Sketch}
use Rattle.mz_scope_order.specs.Dependencies.{sketch_at, meant_by}
use Rattle.mz_scope_order.specs.StepsPlaces.{if_in, names_in, callee, or_zero}
use Rattle.mz_scope_order.proofs.Placing.{place_there}

holds_in : (n : ℕ) (ns : List ℕ) → holds n ns ≡ true → IsIn n ns
holds_in n [] e = absurd (cc)
holds_in n (m ∷ ms) e = elim (same_or_not n m) [
  | inl i ↦ inl i
  | inr o ↦ inr (holds_in n ms (sym (ap (λ z. z || holds n ms) (ne_eqb n m o)) ∙ e))
]

in_with_case : (b : Bool) (n m : ℕ) (ns : List ℕ) → IsIn n ns → IsIn n (if b then ns else ns ++ m ∷ [])
in_with_case true n m ns a = a
in_with_case false n m ns a = in_front n ns (m ∷ []) a

in_with : (n m : ℕ) (ns : List ℕ) → IsIn n ns → IsIn n (with_name ns m)
in_with n m ns a = in_with_case (holds m ns) n m ns a

there_case : (b : Bool) (m : ℕ) (ns : List ℕ) → holds m ns ≡ b → IsIn m (if b then ns else ns ++ m ∷ [])
there_case true m ns e = holds_in m ns e
there_case false m ns e = in_last m ns

there_with : (m : ℕ) (ns : List ℕ) → IsIn m (with_name ns m)
there_with m ns = there_case (holds m ns) m ns refl

either : (b : Bool) (n : ℕ) (xs ys : List ℕ) → IsIn n xs → IsIn n ys → IsIn n (if b then xs else ys)
either true n xs ys a c = a
either false n xs ys a c = c

in_if : (applied : Bool) (n : ℕ) (ns : List ℕ) (s : Sketch) → IsIn n ns → IsIn n (if_in applied ns s)
in_if true n ns s a = either s.applied n (with_name ns s.name) ns (in_with n s.name ns a) a
in_if false n ns s a = either s.applied n ns (with_name ns s.name) a (in_with n s.name ns a)

there_if : (applied : Bool) (ns : List ℕ) (s : Sketch) → s.applied ≡ applied → IsIn s.name (if_in applied ns s)
there_if true ns s e = subst (λ z. IsIn s.name (if z then with_name ns s.name else ns)) (sym e) (there_with s.name ns)
there_if false ns s e = subst (λ z. IsIn s.name (if z then ns else with_name ns s.name)) (sym e) (there_with s.name ns)

kept_in : (applied : Bool) (n : ℕ) (ns : List ℕ) (ss : List Sketch) → IsIn n ns → IsIn n (names_in applied ns ss)
unfolding names_in
kept_in applied n ns [] a = a
kept_in applied n ns (s ∷ ss) a = kept_in applied n (if_in applied ns s) ss (in_if applied n ns s a)

named_in : (applied : Bool) (ns : List ℕ) (ss : List Sketch) (h : ℕ) → h < length ss → (sketch_at ss h).applied ≡ applied → IsIn (sketch_at ss h).name (names_in applied ns ss)
unfolding names_in
named_in applied ns [] h l e = absurd (omega (arith, l))
named_in applied ns (s ∷ ss) zero l e = kept_in applied s.name (if_in applied ns s) ss (there_if applied ns s e)
named_in applied ns (s ∷ ss) (suc h) l e = named_in applied (if_in applied ns s) ss h (omega (arith, l)) e

is_some : (o : Option ℕ) (k : ℕ) → o ≡ Some k → o ≡ Some (or_zero o)
is_some o k e = e ∙ ap (λ z. Some (or_zero z)) (sym e)

callee_case : (b : Bool) (n : ℕ) (bare applied : List ℕ) → (b ≡ false → IsIn n bare) → (b ≡ true → IsIn n applied) → callee bare applied (if b then Call n else Mention n) ≡ Some (or_zero (callee bare applied (if b then Call n else Mention n)))
callee_case true n bare applied f g = is_some (option_map (λ k. length bare + k) (place_of n applied)) _ (ap (λ z. option_map (λ k. length bare + k) z) (place_there n applied (g refl)))
callee_case false n bare applied f g = is_some (place_of n bare) _ (place_there n bare (f refl))

-- a function's own name has a node
pub callee_there : (functions : List Sketch) (h : ℕ) → h < length functions → callee (names_in false [] functions) (names_in true [] functions) (meant_by (sketch_at functions h)) ≡ Some (or_zero (callee (names_in false [] functions) (names_in true [] functions) (meant_by (sketch_at functions h))))
callee_there functions h l =
    callee_case (sketch_at functions h).applied (sketch_at functions h).name (names_in false [] functions) (names_in true [] functions)
    (λ e. named_in false [] functions h l e) (λ e. named_in true [] functions h l e)
