-- The lists of functions, of components and of declarations, one after the other, are the graph of all layers.
use Rattle.std.proofs.Common.{◌≡◌, ℕ, zero, suc, ◌+◌, ◌-◌, ◌<◌, ◌≤◌, inl, inr, List, [], ◌∷◌, ◌++◌, Vec, refl, ap, sym, ◌∙◌, subst, arith, length, set, replicate}
use Rattle.std.specs.Prelude.{if◌then◌else◌}
use Rattle.std.specs.List.{flat_map}
use Rattle.std.proofs.lemmas.List.{get_or-replicate, length-replicate, length-set, get_or_past}
use Rattle.std.proofs.lemmas.Bool.{eq-eqb, ne_eqb}
use Rattle.mz_graph.specs.Graph.{Graph, heads, graph_of, IsIn, IsGraph, AreComponents, number_of}
use Rattle.mz_graph.proofs.Membership.{below_or_not, same_or_not, in_front, in_back, in_either, old_or_last}
use Rattle.mz_graph.proofs.Tables.{row_kept, row_now}
use Rattle.mz_graph.specs.Depends.{AllBelow, AreUses}
use Rattle.mz_graph.specs.Members.{AreMembers}
use Rattle.mz_graph.specs.StepsLayers.{to_component, to_decl, by_component, by_decl, AreLayers, other, raised, row_heads, in_layers, AreRows}

-- one row

left_out : (of : List ℕ) (own first x : ℕ) (hs : List ℕ) → number_of of x ≡ own → flat_map (other of own first) (x ∷ hs) ≡ flat_map (other of own first) hs
left_out of own first x hs e = ap (λ z. (if z then [] else (first + number_of of x) ∷ []) ++ flat_map (other of own first) hs) (eq-eqb (number_of of x) own e)

put_in : (of : List ℕ) (own first x : ℕ) (hs : List ℕ) → (number_of of x ≡ own → ⊥) → flat_map (other of own first) (x ∷ hs) ≡ (first + number_of of x) ∷ flat_map (other of own first) hs
put_in of own first x hs n = ap (λ z. (if z then [] else (first + number_of of x) ∷ []) ++ flat_map (other of own first) hs) (ne_eqb (number_of of x) own n)

-- a number in the list of other components
record IsOther (of : List ℕ) (own first y : ℕ) (hs : List ℕ) : Type 0 where
  pub function : ℕ
  pub listed : IsIn function hs
  pub apart : number_of of function ≡ own → ⊥
  pub is : y ≡ first + number_of of function

other_of : (of : List ℕ) (own first y : ℕ) (hs : List ℕ) → IsIn y (flat_map (other of own first) hs) → IsOther of own first y hs
other_of of own first y [] h = absurd h
other_of of own first y (x ∷ hs) h = elim (same_or_not (number_of of x) own) [
  | inl e ↦ let r = other_of of own first y hs (subst (λ z. IsIn y z) (left_out of own first x hs e) h) in record { function = r.function; listed = inr r.listed; apart = r.apart; is = r.is }
  | inr n ↦ elim (subst (λ z. IsIn y z) (put_in of own first x hs n) h) [
    | inl e ↦ record { function = x; listed = inl refl; apart = n; is = e }
    | inr t ↦ let r = other_of of own first y hs t in record { function = r.function; listed = inr r.listed; apart = r.apart; is = r.is }
  ]
]

of_other : (of : List ℕ) (own first h : ℕ) (hs : List ℕ) → IsIn h hs → (number_of of h ≡ own → ⊥) → IsIn (first + number_of of h) (flat_map (other of own first) hs)
of_other of own first h [] a n = absurd a
of_other of own first h (x ∷ hs) a n = elim a [
  | inl e ↦ subst (λ z. IsIn (first + number_of of h) z) (sym (put_in of own first x hs (λ i. n (ap (λ z. number_of of z) e ∙ i)))) (inl (ap (λ z. first + number_of of z) e))
  | inr t ↦ in_back (first + number_of of h) (other of own first x) (flat_map (other of own first) hs) (of_other of own first h hs t n)
]

-- a number in the list of declarations
record IsRaised (base y : ℕ) (es : List ℕ) : Type 0 where
  pub decl : ℕ
  pub listed : IsIn decl es
  pub is : y ≡ base + decl

raised_of : (base y : ℕ) (es : List ℕ) → IsIn y (raised base es) → IsRaised base y es
raised_of base y [] h = absurd h
raised_of base y (e ∷ es) h = elim h [
  | inl i ↦ record { decl = e; listed = inl refl; is = i }
  | inr t ↦ let r = raised_of base y es t in record { decl = r.decl; listed = inr r.listed; is = r.is }
]

of_raised : (base e : ℕ) (es : List ℕ) → IsIn e es → IsIn (base + e) (raised base es)
of_raised base e [] a = absurd a
of_raised base e (x ∷ es) a = elim a [ inl i ↦ inl (ap (λ z. base + z) i) | inr t ↦ inr (of_raised base e es t) ]

leads_to_other : (hs es of : List ℕ) (own first base h y : ℕ) → IsIn h hs → (number_of of h ≡ own → ⊥) → y ≡ first + number_of of h → IsIn y (row_heads hs es of own first base)
leads_to_other hs es of own first base h y a n i = subst (λ z. IsIn z (row_heads hs es of own first base)) (sym i) (in_front (first + number_of of h) (flat_map (other of own first) hs) (raised base es) (of_other of own first h hs a n))

leads_to_decl : (hs es of : List ℕ) (own first base e y : ℕ) → IsIn e es → y ≡ base + e → IsIn y (row_heads hs es of own first base)
leads_to_decl hs es of own first base e y a i = subst (λ z. IsIn z (row_heads hs es of own first base)) (sym i) (in_back (base + e) (flat_map (other of own first) hs) (raised base es) (of_raised base e es a))

-- graphs, one after the other

pub both_sized : (g h : Graph) → length (g ++ h) ≡ length g + length h
both_sized [] h = omega arith
both_sized (us ∷ g) h = let r = both_sized g h in omega (arith, r)

pub in_first : (g h : Graph) (x : ℕ) → x < length g → heads (g ++ h) x ≡ heads g x
in_first [] h x l = absurd (omega (arith, l))
in_first (us ∷ g) h zero l = refl
in_first (us ∷ g) h (suc x) l = in_first g h x (omega (arith, l))

pub in_second : (g h : Graph) (x y : ℕ) → x ≡ length g + y → heads (g ++ h) x ≡ heads h y
in_second [] h x y e = let f : x ≡ y = omega (arith, e) in ap (λ z. heads h z) f
in_second (us ∷ g) h zero y e = absurd (omega (arith, e))
in_second (us ∷ g) h (suc x) y e = in_second g h x y (omega (arith, e))

pub rows_of_both : {Z : Type 0} (vs ws : List (Vec ℕ Z)) → graph_of (vs ++ ws) ≡ graph_of vs ++ graph_of ws
rows_of_both [] ws = refl
rows_of_both (v ∷ vs) ws = ap (λ z. v.items ∷ z) (rows_of_both vs ws)

pub rows_more : (row : ℕ → List ℕ) (till : ℕ) (us : List ℕ) (g h : Graph) → AreRows row till g → h ≡ g ++ us ∷ [] → us ≡ row till → AreRows row (till + 1) h
rows_more row till us g h k e i = record {
  sized = let a = ap length e ∙ both_sized g (us ∷ []) in let b = k.sized in omega (arith, a, b);
  each = λ x l. ap (λ z. heads z x) e ∙ elim (below_or_not x till) [
    | inl b ↦ in_first g (us ∷ []) x (let a = k.sized in omega (arith, a, b)) ∙ k.each x b
    | inr b ↦ let j : x ≡ till = omega (arith, b, l) in in_second g (us ∷ []) x 0 (let a = k.sized in omega (arith, a, j)) ∙ i ∙ ap (λ z. row z) (sym j)
  ];
}

pub rows_same : (calls mentions : Graph) (of own : List ℕ) (first base till first_of base_of till_of : ℕ) (g : Graph) → AreRows (in_layers calls mentions of own first base) till g → first ≡ first_of → base ≡ base_of → till ≡ till_of → AreRows (in_layers calls mentions of own first_of base_of) till_of g
rows_same calls mentions of own first base till first_of base_of till_of g k p q r =
    subst (λ z. AreRows (in_layers calls mentions of own first_of base_of) z g) r (subst (λ z. AreRows (in_layers calls mentions of own first_of z) till g) q (subst (λ z. AreRows (in_layers calls mentions of own z base) till g) p k))

-- members of components

nothing_in : (n a f : ℕ) → IsIn f (heads (replicate n []) a) → ⊥
nothing_in n a f h = elim (below_or_not a n) [
  | inl l ↦ subst (λ z. IsIn f z) (get_or-replicate n a [] [] l) h
  | inr l ↦ subst (λ z. IsIn f z) (get_or_past (replicate n []) a [] (let e = length-replicate n (let x : List ℕ = [] in x) in omega (arith, e, l))) h
]

pub members_none : (of : List ℕ) (count : ℕ) (g : Graph) → g ≡ replicate count [] → AreMembers of count 0 g
members_none of count g e = record {
  sized = ap length e ∙ length-replicate count [];
  up = λ f h. absurd (omega (arith, h));
  down = λ a f h. absurd (nothing_in count a f (subst (λ z. IsIn f (heads z a)) e h));
}

pub members_more : (of : List ℕ) (count till : ℕ) (g h : Graph) → AreMembers of count till g → number_of of till < count → h ≡ set g (number_of of till) (heads g (number_of of till) ++ till ∷ []) → AreMembers of count (till + 1) h
members_more of count till g h k l e =
    let a : ℕ = number_of of till in
    let ys : List ℕ = heads g a ++ till ∷ [] in
    let inside : a < length g = let s = k.sized in omega (arith, s, l) in
    let here : (b : ℕ) → b ≡ a → heads h b ≡ ys = λ b i. ap (λ z. heads z b) e ∙ ap (λ z. heads (set g a ys) z) i ∙ row_now g a ys inside in
    let there : (b : ℕ) → (b ≡ a → ⊥) → heads h b ≡ heads g b = λ b n. ap (λ z. heads z b) e ∙ row_kept g a b ys n in
    record {
      sized = ap length e ∙ length-set g a ys ∙ k.sized;
      up = λ f r. elim (same_or_not (number_of of f) a) [
        | inl i ↦ subst (λ z. IsIn f z) (sym (here (number_of of f) i)) (elim (below_or_not f till) [
          | inl b ↦ in_front f (heads g a) (till ∷ []) (subst (λ z. IsIn f (heads g z)) i (k.up f b))
          | inr b ↦ in_back f (heads g a) (till ∷ []) (inl (omega (arith, b, r)))
        ])
        | inr n ↦ subst (λ z. IsIn f z) (sym (there (number_of of f) n)) (elim (below_or_not f till) [
          | inl b ↦ k.up f b
          | inr b ↦ let i : f ≡ till = omega (arith, b, r) in absurd (n (ap (λ z. number_of of z) i))
        ])
      ];
      down = λ b f r. elim (same_or_not b a) [
        | inl i ↦ elim (old_or_last f till (heads g a) (subst (λ z. IsIn f z) (here b i) r)) [
          | inl o ↦ let d = k.down a f o in record { counted = (let c = d.counted in omega (arith, c)); is = d.is ∙ sym i }
          | inr j ↦ record { counted = omega (arith, j); is = ap (λ z. number_of of z) j ∙ sym i }
        ]
        | inr n ↦ let d = k.down b f (subst (λ z. IsIn f z) (there b n) r) in record { counted = (let c = d.counted in omega (arith, c)); is = d.is }
      ];
    }

pub members_same : (of : List ℕ) (count till count_of till_of : ℕ) (g : Graph) → AreMembers of count till g → count ≡ count_of → till ≡ till_of → AreMembers of count_of till_of g
members_same of count till count_of till_of g k p q = subst (λ z. AreMembers of count_of z g) q (subst (λ z. AreMembers of z till g) p k)

-- no component has the number that stands for none
pub past_all : (count n last sized : ℕ) (none : List ℕ) → none ≡ replicate sized last → last ≡ count → sized ≡ n → (d : ℕ) → d < n → count ≤ number_of none d
past_all count n last sized none e p q d h =
    let is : number_of none d ≡ last = ap (λ z. number_of z d) e ∙ get_or-replicate sized d last 0 (omega (arith, h, q)) in
    omega (arith, is, p)

-- all layers

pub layered : (calls mentions decl_calls decl_mentions : Graph) (of none : List ℕ) (count n : ℕ) (fs cs ds all : Graph) → AreComponents calls count of → AllBelow decl_calls (length calls) → AreRows (in_layers calls mentions of of (length calls) (length calls + count)) (length calls) fs → AreMembers of count (length calls) cs → AreRows (in_layers decl_calls decl_mentions of none (length calls) (length calls + count)) n ds → ((d : ℕ) → d < n → count ≤ number_of none d) → all ≡ (fs ++ cs) ++ ds → AreLayers calls mentions decl_calls decl_mentions of (length calls) count n all
layered calls mentions decl_calls decl_mentions of none count n fs cs ds all parts below f c d past e =
    let m : ℕ = length calls in
    let base : ℕ = m + count in
    let front : length (fs ++ cs) ≡ m + count = let x = both_sized fs cs in let y = f.sized in let z = c.sized in omega (arith, x, y, z) in
    let on_function : (x : ℕ) → x < m → heads all x ≡ row_heads (heads calls x) (heads mentions x) of (number_of of x) m base = λ x h. ap (λ z. heads z x) e ∙ in_first (fs ++ cs) ds x (omega (arith, front, h)) ∙ in_first fs cs x (let y = f.sized in omega (arith, y, h)) ∙ f.each x h in
    let on_component : (a : ℕ) → a < count → heads all (m + a) ≡ heads cs a = λ a h. ap (λ z. heads z (m + a)) e ∙ in_first (fs ++ cs) ds (m + a) (omega (arith, front, h)) ∙ in_second fs cs (m + a) a (let y = f.sized in omega (arith, y)) in
    let on_decl : (x : ℕ) → x < n → heads all ((m + count) + x) ≡ row_heads (heads decl_calls x) (heads decl_mentions x) of (number_of none x) m base = λ x h. ap (λ z. heads z ((m + count) + x)) e ∙ in_second (fs ++ cs) ds ((m + count) + x) x (omega (arith, front)) ∙ d.each x h in
    record {
      sized = let x = ap length e ∙ both_sized (fs ++ cs) ds in let y = d.sized in omega (arith, x, y, front);
      function_up = λ x y h u. record {
        listed = subst (λ z. IsIn y z) (sym (on_function x h)) (elim u [
          | to_component k v o i ↦ leads_to_other (heads calls x) (heads mentions x) of (number_of of x) m base k y v.listed o i
          | to_decl k v i ↦ leads_to_decl (heads calls x) (heads mentions x) of (number_of of x) m base k y v.listed i
        ]);
      };
      function_down = λ x y h u. elim (in_either y (flat_map (other of (number_of of x) m) (heads calls x)) (raised base (heads mentions x)) (subst (λ z. IsIn y z) (on_function x h) u.listed)) [
        | inl a ↦ let r = other_of of (number_of of x) m y (heads calls x) a in to_component r.function (record { listed = r.listed }) r.apart r.is
        | inr a ↦ let r = raised_of base y (heads mentions x) a in to_decl r.decl (record { listed = r.listed }) r.is
      ];
      component_up = λ x h. record { listed = subst (λ z. IsIn x z) (sym (on_component (number_of of x) (parts.numbered x h))) (c.up x h) };
      component_down = λ a x h u. c.down a x (subst (λ z. IsIn x z) (on_component a h) u.listed);
      decl_up = λ x y h u. record {
        listed = subst (λ z. IsIn y z) (sym (on_decl x h)) (elim u [
          | by_component k v i ↦ leads_to_other (heads decl_calls x) (heads decl_mentions x) of (number_of none x) m base k y v.listed (λ j. let a = parts.numbered k (below.below x k v.listed) in let b = past x h in absurd (omega (arith, a, b, j))) i
          | by_decl k v i ↦ leads_to_decl (heads decl_calls x) (heads decl_mentions x) of (number_of none x) m base k y v.listed i
        ]);
      };
      decl_down = λ x y h u. elim (in_either y (flat_map (other of (number_of none x) m) (heads decl_calls x)) (raised base (heads decl_mentions x)) (subst (λ z. IsIn y z) (on_decl x h) u.listed)) [
        | inl a ↦ let r = other_of of (number_of none x) m y (heads decl_calls x) a in by_component r.function (record { listed = r.listed }) r.is
        | inr a ↦ let r = raised_of base y (heads decl_mentions x) a in by_decl r.decl (record { listed = r.listed }) r.is
      ];
    }

pub layers_closed : (calls mentions decl_calls decl_mentions : Graph) (of : List ℕ) (count : ℕ) (all : Graph) → AreUses calls mentions decl_calls decl_mentions → AreComponents calls count of → AreLayers calls mentions decl_calls decl_mentions of (length calls) count (length decl_mentions) all → IsGraph all
layers_closed calls mentions decl_calls decl_mentions of count all uses parts k x y a =
    let size = k.sized in
    elim (below_or_not x (length calls)) [
      | inl h ↦ elim (k.function_down x y h (record { listed = a })) [
        | to_component g u o i ↦ let b = parts.numbered g (uses.called.below x g u.listed) in omega (arith, b, i, size)
        | to_decl e u i ↦ let b = uses.mentioned.below x e u.listed in omega (arith, b, i, size)
      ]
      | inr h ↦ elim (below_or_not x (length calls + count)) [
        | inl l ↦
            let i : length calls + (x - length calls) ≡ x = omega (arith, h) in
            let r = k.component_down (x - length calls) y (omega (arith, h, l)) (record { listed = subst (λ z. IsIn y (heads all z)) (sym i) a }) in
            let d = r.counted in omega (arith, d, size)
        | inr l ↦ elim (below_or_not x (length all)) [
          | inl t ↦
              let i : (length calls + count) + (x - (length calls + count)) ≡ x = omega (arith, l) in
              elim (k.decl_down (x - (length calls + count)) y (omega (arith, l, t, size)) (record { listed = subst (λ z. IsIn y (heads all z)) (sym i) a })) [
                | by_component g u e ↦ let b = parts.numbered g (uses.called_by_decls.below _ g u.listed) in omega (arith, b, e, size)
                | by_decl e u j ↦ let b = uses.mentioned_by_decls.below _ e u.listed in omega (arith, b, j, size)
              ]
          | inr t ↦ absurd (subst (λ z. IsIn y z) (get_or_past all x [] t) a)
        ]
      ]
    ]
