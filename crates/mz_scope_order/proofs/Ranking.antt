-- Where all declarations have their turn, and no function's types lead back to it, there is no cycle of types at all.
use Rattle.std.proofs.Common.{◌≡◌, ℕ, suc, ◌+◌, ◌<◌, ◌≤◌, ◌⊎◌, inl, inr, List, [], ◌∷◌, ◌++◌, length, refl, ap, subst, arith}
use Rattle.std.specs.Prelude.{if◌then◌else◌, nat_eq}
use Rattle.std.proofs.lemmas.Bool.{eq-eqb, ne_eqb}
use Rattle.mz_graph.specs.Graph.{Graph, IsIn, Edge, IsGraph, Path, arrived, onward, AreComponents, number_of}
use Rattle.mz_graph.specs.Order.{Continues, turn, IsOrder, IsComplete}
use Rattle.mz_graph.proofs.Membership.{below_or_not, same_or_not, old_or_last}
use Rattle.mz_scope_names.specs.declared.name_use.NameUse.{NameUse}
use Rattle.mz_scope_names.specs.Sketches.{Sketch}
use Rattle.mz_scope_order.specs.Dependencies.{sketch_at, IsUsed, RefersTo, itself, Depends, LeadsBack, AreRanks}
use Rattle.mz_scope_order.specs.StepsFaithful.{IsName, of_function, of_decl, to_name, to_decl, AreTypes}
use Rattle.mz_scope_order.proofs.Following.{steps, leads}

-- the place of a number in an order
abbrev spot : ℕ → List ℕ → ℕ
spot x [] = 0
spot x (y ∷ ys) = if nat_eq x y then 0 else suc (spot x ys)

spot_here : (x y : ℕ) (ys : List ℕ) → x ≡ y → spot x (y ∷ ys) ≡ 0
spot_here x y ys e = ap (λ z. if z then 0 else suc (spot x ys)) (eq-eqb x y e)

spot_later : (x y : ℕ) (ys : List ℕ) → (x ≡ y → ⊥) → spot x (y ∷ ys) ≡ suc (spot x ys)
spot_later x y ys n = ap (λ z. if z then 0 else suc (spot x ys)) (ne_eqb x y n)

-- what a number needs has an earlier place
falls : {Needs : ℕ → ℕ → Type 0} {count : ℕ} (done rest : List ℕ) (d e : ℕ) → Continues Needs count done rest → IsIn d rest → Needs d e → IsIn e done ⊎ (spot e rest < spot d rest)
falls done [] d e o a n = absurd a
falls {Needs = Needs} done (x ∷ rest) d e (turn next more) a n = elim (same_or_not d x) [
  | inl i ↦ inl (next.ready.served e (subst (λ z. Needs z e) i n))
  | inr m ↦
      let b : IsIn d rest = elim a [ inl i ↦ absurd (m i) | inr t ↦ t ] in
      let late = spot_later d x rest m in
      elim (same_or_not e x) [
        | inl i ↦ let here = spot_here e x rest i in inr (omega (arith, here, late))
        | inr o ↦ let later = spot_later e x rest o in elim (falls (done ++ x ∷ []) rest d e more b n) [
          | inl t ↦ elim (old_or_last e x done t) [ inl w ↦ inl w | inr i ↦ absurd (o i) ]
          | inr l ↦ inr (omega (arith, late, later, l))
        ]
      ]
]

earlier : {Needs : ℕ → ℕ → Type 0} {count : ℕ} (order : List ℕ) (d e : ℕ) → IsOrder Needs count order → IsIn d order → Needs d e → spot e order < spot d order
earlier order d e o a n = elim (falls [] order d e o a n) [ inl t ↦ absurd t | inr l ↦ l ]

used_in_front : (u : NameUse) (us vs : List NameUse) → IsUsed u us → IsUsed u (us ++ vs)
used_in_front u [] vs h = absurd h
used_in_front u (v ∷ us) vs h = elim h [ inl e ↦ inl e | inr t ↦ inr (used_in_front u us vs t) ]

joined : {g : Graph} {x y z : ℕ} → Path g x y → Path g y z → Path g x z
joined arrived q = q
joined (onward e p) q = onward e (joined p q)

-- a function on the way from one node to another
record IsVia (types : Graph) (m x y : ℕ) : Type 0 where
  pub function : ℕ
  pub counted : function < m
  pub there : Path types x function
  pub from : Path types function y

module _ (decls functions : List Sketch) (node : ℕ → ℕ) (base : ℕ) (types : Graph) (count : ℕ) (of order : List ℕ) (k : AreTypes decls functions node base types) (closed : IsGraph types) (sized : length types ≡ base + length decls) (parts : AreComponents types count of) (o : IsOrder (Depends decls functions) (length decls) order) (whole : IsComplete (length decls) order) (acyclic : (f : ℕ) → f < length functions → LeadsBack decls functions f → ⊥) where
  type_before : (d e : ℕ) → d < length decls → RefersTo (sketch_at decls d).types decls e → spot e order < spot d order
  type_before d e h r = earlier order d e o (whole d h) (itself (record { counted = r.counted; used = used_in_front _ (sketch_at decls d).types (sketch_at decls d).rest r.used }))

  past_name : (x y z : ℕ) (us : List NameUse) → y < base → base ≤ z → IsName functions types us y → Edge types x y → Path types y z → IsVia types (length functions) x z
  past_name x y _ us b l n u arrived = absurd (omega (arith, b, l))
  past_name x y z us b l n u (onward {y = g} v p) = record { function = g; counted = (n.meant g v).counted; there = onward u (onward v arrived); from = p }

  -- a path of types from one declaration to another goes through a function, or to an earlier place
  way : (x z d e : ℕ) → x ≡ base + e → e < length decls → Path types x z → z ≡ base + d → IsVia types (length functions) x z ⊎ (spot d order ≤ spot e order)
  way x _ d e i h arrived j = inr (let same : d ≡ e = omega (arith, i, j) in let s = ap (λ w. spot w order) same in omega (arith, s))
  way x z d e i h (onward {y = y} u p) j = elim (k.down (base + e) y (sketch_at decls e).types (of_decl e h) (subst (λ w. Edge types w y) i u)) [
    | to_decl a r l ↦ elim (way y z d a l r.counted p j) [
      | inl v ↦ inl (record { function = v.function; counted = v.counted; there = onward u v.there; from = v.from })
      | inr t ↦ inr (let b = type_before e a h r in omega (arith, b, t))
    ]
    | to_name b n ↦ inl (past_name x y z (sketch_at decls e).types b (omega (arith, j)) n u p)
  ]

  -- no edge of a function leads back to it
  no_loop : (f y : ℕ) → f < length functions → Edge types f y → Path types y f → ⊥
  no_loop f y h u p = acyclic f h (leads decls functions node base types k (suc (steps p)) f y f (sketch_at functions f).types p (omega arith) h (of_function f h) u)

  no_loop_by : (f z : ℕ) → f < length functions → base ≤ z → Path types f z → Path types z f → ⊥
  no_loop_by f _ h b arrived q = let l = k.later in absurd (omega (arith, h, b, l))
  no_loop_by f z h b (onward {y = y} u p) q = no_loop f y h u (joined p q)

  strictly : (x y : ℕ) → x < length types → y < length types → number_of of y ≤ number_of of x → (Path types y x → ⊥) → number_of of y < number_of of x
  strictly x y h g a n = elim (below_or_not (number_of of y) (number_of of x)) [
    | inl b ↦ b
    | inr b ↦ absurd (n (parts.connected y x g h (omega (arith, a, b))))
  ]

  decl_counted : (d : ℕ) → d < length decls → base + d < length types
  decl_counted d h = omega (arith, h, sized)

  function_counted : (f : ℕ) → f < length functions → f < length types
  function_counted f h = let l = k.later in omega (arith, h, l, sized)

  pub ranked : AreRanks decls functions (λ d. number_of of (base + d)) (λ f. number_of of f)
  ranked = record {
    decl_decl = λ d e h r.
        let u = k.up_decl (base + d) e (sketch_at decls d).types (of_decl d h) r in
        strictly (base + d) (base + e) (decl_counted d h) (decl_counted e r.counted) (parts.falls (base + d) (base + e) (decl_counted d h) u)
        (λ p. elim (way (base + e) (base + d) d e refl r.counted p refl) [
          | inl v ↦ no_loop_by v.function (base + d) v.counted (omega arith) v.from (onward u v.there)
          | inr l ↦ absurd (let b = type_before d e h r in omega (arith, b, l))
        ]);
    decl_function = λ d f h r.
        let u = k.up_name (base + d) f (sketch_at decls d).types (of_decl d h) r in
        let v = k.names.leads f r.counted in
        let g : node f < length types = closed (base + d) (node f) u.listed in
        let a = parts.falls (base + d) (node f) (decl_counted d h) u in
        let b = parts.falls (node f) f g v in
        strictly (base + d) f (decl_counted d h) (function_counted f r.counted) (omega (arith, a, b))
        (λ p. no_loop_by f (base + d) r.counted (omega arith) p (onward u (onward v arrived)));
    function_decl = λ f e h r.
        let u = k.up_decl f e (sketch_at functions f).types (of_function f h) r in
        strictly f (base + e) (function_counted f h) (decl_counted e r.counted) (parts.falls f (base + e) (function_counted f h) u)
        (λ p. no_loop f (base + e) h u p);
    function_function = λ f g h r.
        let u = k.up_name f g (sketch_at functions f).types (of_function f h) r in
        let v = k.names.leads g r.counted in
        let i : node g < length types = closed f (node g) u.listed in
        let a = parts.falls f (node g) (function_counted f h) u in
        let b = parts.falls (node g) g i v in
        strictly f g (function_counted f h) (function_counted g r.counted) (omega (arith, a, b))
        (λ p. no_loop f (node g) h u (onward v p));
  }
