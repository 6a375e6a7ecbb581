-- The order of all layers, cut to the declarations, is the order of the declarations.
use Rattle.std.proofs.Common.{◌≡◌, ℕ, zero, suc, ◌+◌, ◌-◌, ◌<◌, ◌≤◌, inl, inr, List, [], ◌∷◌, ◌++◌, Bool, true, false, refl, ap, sym, ◌∙◌, subst, arith, length}
use Rattle.std.proofs.lemmas.List.{append-nil}
use Rattle.std.specs.Prelude.{if◌then◌else◌, nat_lt}
use Rattle.std.proofs.lemmas.Bool.{ltb-true, lt-ltb}
use Rattle.mz_graph.specs.Graph.{Graph, IsIn, Edge, IsGraph, Path, arrived, onward, AreComponents, number_of}
use Rattle.mz_graph.specs.Order.{IsReady, Continues, over, turn}
use Rattle.mz_graph.proofs.Membership.{below_or_not, same_or_not, in_or_not, in_front, old_or_last}
use Rattle.mz_graph.specs.Depends.{LeadsTo, itself, through, DependsOn, directly, by_call, AllBelow}
use Rattle.mz_graph.specs.StepsLayers.{to_component, to_decl, by_component, by_decl, AreLayers, decls_in}

-- the declarations of an order

pub skips : (base x : ℕ) (xs : List ℕ) → x < base → decls_in base (x ∷ xs) ≡ decls_in base xs
skips base x xs h = ap (λ z. if z then decls_in base xs else (x - base) ∷ decls_in base xs) (lt-ltb x base h)

is_not : (b : Bool) (x base : ℕ) → (b ≡ true → x < base) → base ≤ x → b ≡ false
is_not true x base f h = absurd (let g = f refl in omega (arith, g, h))
is_not false x base f h = refl

pub takes : (base x : ℕ) (xs : List ℕ) → base ≤ x → decls_in base (x ∷ xs) ≡ (x - base) ∷ decls_in base xs
takes base x xs h = ap (λ z. if z then decls_in base xs else (x - base) ∷ decls_in base xs) (is_not (nat_lt x base) x base (ltb-true x base) h)

pub decls_of_both : (base : ℕ) (xs ys : List ℕ) → decls_in base (xs ++ ys) ≡ decls_in base xs ++ decls_in base ys
decls_of_both base [] ys = refl
decls_of_both base (x ∷ xs) ys = elim (below_or_not x base) [
  | inl h ↦ skips base x (xs ++ ys) h ∙ decls_of_both base xs ys ∙ ap (λ z. z ++ decls_in base ys) (sym (skips base x xs h))
  | inr h ↦ takes base x (xs ++ ys) h ∙ ap (λ z. (x - base) ∷ z) (decls_of_both base xs ys) ∙ ap (λ z. z ++ decls_in base ys) (sym (takes base x xs h))
]

decl_of : (base d : ℕ) (xs : List ℕ) → IsIn (base + d) xs → IsIn d (decls_in base xs)
decl_of base d [] h = absurd h
decl_of base d (x ∷ xs) h = elim (below_or_not x base) [
  | inl l ↦ subst (λ z. IsIn d z) (sym (skips base x xs l)) (elim h [ inl e ↦ absurd (omega (arith, e, l)) | inr t ↦ decl_of base d xs t ])
  | inr l ↦ subst (λ z. IsIn d z) (sym (takes base x xs l)) (elim h [ inl e ↦ inl (omega (arith, e, l)) | inr t ↦ inr (decl_of base d xs t) ])
]

of_decl : (base d : ℕ) (xs : List ℕ) → IsIn d (decls_in base xs) → IsIn (base + d) xs
of_decl base d [] h = absurd h
of_decl base d (x ∷ xs) h = elim (below_or_not x base) [
  | inl l ↦ inr (of_decl base d xs (subst (λ z. IsIn d z) (skips base x xs l) h))
  | inr l ↦ elim (subst (λ z. IsIn d z) (takes base x xs l) h) [ inl e ↦ inl (omega (arith, e, l)) | inr t ↦ inr (of_decl base d xs t) ]
]

-- a function leads to all that a function that it reaches leads to
along : {calls mentions : Graph} (f h e : ℕ) → Path calls f h → LeadsTo calls mentions h e → LeadsTo calls mentions f e
along f h e arrived l = l
along f h e (onward {y = y} u r) l = through u (along y h e r l)

abbrev AllServed : Graph → List ℕ → Type 0
AllServed g done = (x y : ℕ) → IsIn x done → Edge g x y → IsIn y done

module _ (calls mentions decl_calls decl_mentions : Graph) (of : List ℕ) (count n : ℕ) (all : Graph) (closed : IsGraph calls) (decls_closed : AllBelow decl_calls (length calls)) (parts : AreComponents calls count of) (layers : AreLayers calls mentions decl_calls decl_mentions of (length calls) count n all) where
  -- a component had its turn: so had all that its functions lead to
  had : (done : List ℕ) → AllServed all done → (f e : ℕ) → f < length calls → IsIn (length calls + number_of of f) done → LeadsTo calls mentions f e → IsIn ((length calls + count) + e) done
  had done down f e h a (itself u) =
      let mine = down (length calls + number_of of f) f a (layers.component_up f h) in
      down f ((length calls + count) + e) mine (layers.function_up f ((length calls + count) + e) h (to_decl e u refl))
  had done down f e h a (through {h = g} u l) =
      let mine = down (length calls + number_of of f) f a (layers.component_up f h) in
      had done down g e (closed f g u.listed) (elim (same_or_not (number_of of g) (number_of of f)) [
        | inl i ↦ subst (λ z. IsIn (length calls + z) done) (sym i) a
        | inr o ↦ down f (length calls + number_of of g) mine (layers.function_up f (length calls + number_of of g) h (to_component g u o refl))
      ]) l

  -- where no function and no component is ready: a component had its turn if all had that one of its functions leads to
  has_had : (done : List ℕ) → ((x : ℕ) → x < length calls + count → IsReady (Edge all) (length all) done x → ⊥) → (limit f : ℕ) → number_of of f < limit → f < length calls → ((e : ℕ) → LeadsTo calls mentions f e → IsIn ((length calls + count) + e) done) → IsIn (length calls + number_of of f) done
  has_had done none zero f l h needs = absurd (omega (arith, l))
  has_had done none (suc limit) f l h needs =
      let a : ℕ = number_of of f in
      let ranged : a < count = parts.numbered f h in
      elim (in_or_not (length calls + a) done) [
        | inl r ↦ r
        | inr r ↦ absurd (none (length calls + a) (omega (arith, ranged)) (record {
          counted = let z = layers.sized in omega (arith, z, ranged);
          remains = r;
          served = λ y u.
              let mine = layers.component_down a y ranged u in
              let counted = mine.counted in
              elim (in_or_not y done) [
                | inl t ↦ t
                | inr t ↦ absurd (none y (omega (arith, counted)) (record {
                  counted = let z = layers.sized in omega (arith, z, counted);
                  remains = t;
                  served = λ w v. elim (layers.function_down y w mine.counted v) [
                    | to_decl e k i ↦ subst (λ z. IsIn z done) (sym i) (needs e (along f y e (parts.connected f y h mine.counted (sym mine.is)) (itself k)))
                    | to_component g k o i ↦
                        let falls = parts.falls y g mine.counted k in
                        let is = mine.is in
                        let less : number_of of g < number_of of y = elim (below_or_not (number_of of g) (number_of of y)) [ inl p ↦ p | inr p ↦ absurd (o (omega (arith, p, falls))) ] in
                        subst (λ z. IsIn z done) (sym i)
                        (has_had done none limit g (omega (arith, less, is, l)) (closed y g k.listed) (λ e p. needs e (along f y e (parts.connected f y h mine.counted (sym mine.is)) (through k p))))
                  ];
                }))
              ];
        }))
      ]

  ready_up : (done : List ℕ) → ((x : ℕ) → x < length calls + count → IsReady (Edge all) (length all) done x → ⊥) → (d : ℕ) → IsReady (DependsOn calls mentions decl_calls decl_mentions) n (decls_in (length calls + count) done) d → IsReady (Edge all) (length all) done ((length calls + count) + d)
  ready_up done none d r = record {
    counted = let z = layers.sized in let h = r.counted in omega (arith, z, h);
    remains = λ a. r.remains (decl_of (length calls + count) d done a);
    served = λ y u. elim (layers.decl_down d y r.counted u) [
      | by_decl e k i ↦ subst (λ z. IsIn z done) (sym i) (of_decl (length calls + count) e done (r.served e (directly k)))
      | by_component f k i ↦ subst (λ z. IsIn z done) (sym i) (has_had done none (suc (number_of of f)) f (omega arith) (decls_closed.below d f k.listed) (λ e l. of_decl (length calls + count) e done (r.served e (by_call f k l))))
    ];
  }

  ready_down : (done : List ℕ) → AllServed all done → (d : ℕ) → d < n → IsReady (Edge all) (length all) done ((length calls + count) + d) → IsReady (DependsOn calls mentions decl_calls decl_mentions) n (decls_in (length calls + count) done) d
  ready_down done down d h r = record {
    counted = h;
    remains = λ a. r.remains (of_decl (length calls + count) d done a);
    served = λ e k. decl_of (length calls + count) e done (elim k [
      | directly u ↦ r.served ((length calls + count) + e) (layers.decl_up d ((length calls + count) + e) h (by_decl e u refl))
      | by_call f u l ↦ had done down f e (decls_closed.below d f u.listed) (r.served (length calls + number_of of f) (layers.decl_up d (length calls + number_of of f) h (by_component f u refl))) l
    ]);
  }

  served_more : (done : List ℕ) (x : ℕ) → AllServed all done → IsReady (Edge all) (length all) done x → AllServed all (done ++ x ∷ [])
  served_more done x down r v y a u = in_front y done (x ∷ []) (elim (old_or_last v x done a) [
    | inl o ↦ down v y o u
    | inr i ↦ r.served y (subst (λ z. Edge all z y) i u)
  ])

  pub decl_order : (done rest : List ℕ) → AllServed all done → Continues (Edge all) (length all) done rest → Continues (DependsOn calls mentions decl_calls decl_mentions) n (decls_in (length calls + count) done) (decls_in (length calls + count) rest)
  decl_order done [] down (over none) = over (λ d r. none ((length calls + count) + d) (ready_up done (λ x h. none x) d r))
  decl_order done (x ∷ rest) down (turn next more) =
      let base : ℕ = length calls + count in
      let after = decl_order (done ++ x ∷ []) rest (served_more done x down next.ready) more in
      elim (below_or_not x base) [
        | inl h ↦
            let same_done : decls_in base (done ++ x ∷ []) ≡ decls_in base done = decls_of_both base done (x ∷ []) ∙ ap (λ z. decls_in base done ++ z) (skips base x [] h) ∙ simp append-nil in
            subst (λ z. Continues (DependsOn calls mentions decl_calls decl_mentions) n (decls_in base done) z) (sym (skips base x rest h)) (subst (λ z. Continues (DependsOn calls mentions decl_calls decl_mentions) n z (decls_in base rest)) same_done after)
        | inr h ↦
            let d : ℕ = x - base in
            let is : base + d ≡ x = omega (arith, h) in
            let one_more : decls_in base (done ++ x ∷ []) ≡ decls_in base done ++ d ∷ [] = decls_of_both base done (x ∷ []) ∙ ap (λ z. decls_in base done ++ z) (takes base x [] h) in
            let none : (y : ℕ) → y < base → IsReady (Edge all) (length all) done y → ⊥ = λ y l. next.least y (omega (arith, l, h)) in
            let ranged : d < n = let z = layers.sized in let r = next.ready.counted in omega (arith, z, r, is) in
            subst (λ z. Continues (DependsOn calls mentions decl_calls decl_mentions) n (decls_in base done) z) (sym (takes base x rest h))
            (turn
            (record {
              ready = ready_down done down d ranged (subst (λ z. IsReady (Edge all) (length all) done z) (sym is) next.ready);
              least = λ e l r. next.least (base + e) (omega (arith, l, is)) (ready_up done none e r);
            })
            (subst (λ z. Continues (DependsOn calls mentions decl_calls decl_mentions) n z (decls_in base rest)) one_more after))
      ]
