-- What nodes that wait for their turn keep, as they find their places and as one has its turn.
use Rattle.std.proofs.Common.{◌≡◌, ℕ, zero, suc, ◌+◌, ◌-◌, ◌<◌, ◌≤◌, ◌⊎◌, inl, inr, List, [], ◌∷◌, ◌++◌, Bool, true, false, cond, refl, ap, sym, ◌∙◌, subst, arith, length, get_or, set, append_assoc, append-nil}
use Rattle.std.proofs.lemmas.List.{get_or-set_same, get_or-set_other, length-set}
use Rattle.std.proofs.lemmas.Bool.{eqb-true, ltb-true}
use Rattle.std.specs.Prelude.{nat_lt, ◌==◌}
use Rattle.std.specs.Ordering.{nat_cmp, match_ordering}
use Rattle.std.specs.declared.cmp.Ordering.TheVariants.{Less, Equal, Greater}
use Rattle.std.specs.BTreeSet.{insert_key}
use Rattle.std.specs.List.{All}
use Rattle.mz_graph.specs.Graph.{Graph, heads, IsIn, Edge, IsGraph}
use Rattle.mz_graph.specs.Order.{IsNext, Continues, over, turn}
use Rattle.mz_graph.specs.StepsTurns.{Line, is_done, passed_of, HasRows, IsWaiting, Stands, IsPending, AreDone, open_turns, from_on, IsNew, Turned}
use Rattle.mz_graph.proofs.Membership.{below_or_not, same_or_not, in_front, in_back, old_or_last, in_last, in_at, place_of}
use Rattle.mz_graph.proofs.Tables.{row_kept, row_now}

-- keys of a set

came_case : (b c : Bool) (y k x : ℕ) (xs rest : List ℕ) → (IsIn y rest → IsIn y xs ⊎ (y ≡ k)) → IsIn y (match_ordering (cond b Less (cond c Equal Greater)) (k ∷ x ∷ xs) (x ∷ xs) (x ∷ rest)) → IsIn y (x ∷ xs) ⊎ (y ≡ k)
came_case true c y k x xs rest f h = elim h [ inl e ↦ inr e | inr t ↦ inl t ]
came_case false true y k x xs rest f h = inl h
came_case false false y k x xs rest f h = elim h [ inl e ↦ inl (inl e) | inr t ↦ elim (f t) [ inl a ↦ inl (inr a) | inr e ↦ inr e ] ]

came : (y k : ℕ) (ks : List ℕ) → IsIn y (insert_key nat_cmp ks k) → IsIn y ks ⊎ (y ≡ k)
came y k [] h = elim h [ inl e ↦ inr e | inr n ↦ absurd n ]
came y k (x ∷ xs) h = came_case (nat_lt k x) (k == x) y k x xs (insert_key nat_cmp xs k) (came y k xs) h

comes_case : (b c : Bool) (y k x : ℕ) (xs rest : List ℕ) → (c ≡ true → k ≡ x) → (IsIn y xs ⊎ (y ≡ k) → IsIn y rest) → IsIn y (x ∷ xs) ⊎ (y ≡ k) → IsIn y (match_ordering (cond b Less (cond c Equal Greater)) (k ∷ x ∷ xs) (x ∷ xs) (x ∷ rest))
comes_case true c y k x xs rest equal f h = elim h [ inl t ↦ inr t | inr e ↦ inl e ]
comes_case false true y k x xs rest equal f h = elim h [ inl t ↦ t | inr e ↦ inl (e ∙ equal refl) ]
comes_case false false y k x xs rest equal f h = elim h [
  | inl t ↦ elim t [ inl e ↦ inl e | inr a ↦ inr (f (inl a)) ]
  | inr e ↦ inr (f (inr e))
]

comes : (y k : ℕ) (ks : List ℕ) → IsIn y ks ⊎ (y ≡ k) → IsIn y (insert_key nat_cmp ks k)
comes y k [] h = elim h [ inl n ↦ absurd n | inr e ↦ inl e ]
comes y k (x ∷ xs) h = comes_case (nat_lt k x) (k == x) y k x xs (insert_key nat_cmp xs k) (eqb-true k x) (comes y k xs) h

less_case : (b c : Bool) (j k : ℕ) → (b ≡ true → j < k) → cond b Less (cond c Equal Greater) ≡ Less → j < k
less_case true c j k f e = f refl
less_case false true j k f e = cc
less_case false false j k f e = cc

is_less : (j k : ℕ) → nat_cmp j k ≡ Less → j < k
is_less j k e = less_case (nat_lt j k) (j == k) j k (ltb-true j k) e

above_first : (x : ℕ) (ks : List ℕ) → All (λ k. nat_cmp x k ≡ Less) ks → (y : ℕ) → IsIn y ks → x < y
above_first x ks h y a =
    let p = place_of y ks a in
    is_less x y (subst (λ z. nat_cmp x z ≡ Less) (p.is 0) (h p.at 0 p.within))

-- flags

contrary : (b : Bool) → b ≡ true → b ≡ false → ⊥
contrary true p q = cc
contrary false p q = cc

-- a node becomes ready

all_served : (g : Graph) (l : Line) (todo : List ℕ) (x : ℕ) → Stands g (x ∷ todo) l → AreDone (heads g x) l.done (passed_of l.passed x) → (y : ℕ) → Edge g x y → IsIn y l.order
all_served g l todo x s done y e =
    let p = place_of y (heads g x) e.listed in
    subst (λ z. IsIn z l.order) (p.is 0)
    (elim (below_or_not p.at (passed_of l.passed x)) [
      | inl h ↦ s.known x p.at h
      | inr h ↦ s.flags (get_or (heads g x) p.at 0) (done p.at h p.within)
    ])

placed_ready : (g : Graph) (l : Line) (todo : List ℕ) (x : ℕ) → Stands g (x ∷ todo) l → AreDone (heads g x) l.done (passed_of l.passed x) → Stands g todo (record l { ready = insert_key nat_cmp l.ready x })
placed_ready g l todo x s done =
    let mine = s.left x (inl refl) in
    record {
      begins = s.begins;
      flags = s.flags;
      flagged = s.flagged;
      served = s.served;
      ready = λ y h. elim (came y x l.ready h) [
        | inl old ↦ s.ready y old
        | inr e ↦ record {
          counted = subst (λ z. z < length g) (sym e) mine.counted;
          remains = λ m. mine.remains (subst (λ z. IsIn z l.order) e m);
          served = λ w u. all_served g l todo x s done w (subst (λ z. Edge g z w) e u);
        }
      ];
      waits = s.waits;
      known = s.known;
      left = λ y h. s.left y (inr h);
      placed = λ y h. elim (s.placed y h) [
        | inl p ↦ elim p [ inl o ↦ inl (inl o) | inr r ↦ inl (inr (comes y x l.ready (inl r))) ]
        | inr p ↦ elim p [
          | inl t ↦ elim t [ inl e ↦ inl (inr (comes y x l.ready (inr e))) | inr m ↦ inr (inl m) ]
          | inr w ↦ inr (inr w)
        ]
      ];
    }

-- a node waits

waits_then : (waiting : Graph) (w x y : ℕ) → w < length waiting → IsWaiting waiting y ⊎ (y ≡ x) → IsWaiting (set waiting w (heads waiting w ++ x ∷ [])) y
waits_then waiting w x y h c = elim c [
  | inl u ↦ elim (same_or_not u.for w) [
    | inl e ↦ record { for = w; listed = subst (λ z. IsIn y z) (sym (row_now waiting w (heads waiting w ++ x ∷ []) h)) (in_front y (heads waiting w) (x ∷ []) (subst (λ z. IsIn y (heads waiting z)) e u.listed)) }
    | inr n ↦ record { for = u.for; listed = subst (λ z. IsIn y z) (sym (row_kept waiting w u.for (heads waiting w ++ x ∷ []) n)) u.listed }
  ]
  | inr e ↦ record { for = w; listed = subst (λ z. IsIn y z) (sym (row_now waiting w (heads waiting w ++ x ∷ []) h)) (in_back y (heads waiting w) (x ∷ []) (inl e)) }
]

waited : (waiting : Graph) (w x v y : ℕ) → w < length waiting → IsIn y (heads (set waiting w (heads waiting w ++ x ∷ [])) v) → IsIn y (heads waiting v) ⊎ ((v ≡ w) × (y ≡ x))
waited waiting w x v y h a = elim (same_or_not v w) [
  | inl e ↦
      let here = subst (λ z. IsIn y z) (ap (λ z. heads (set waiting w (heads waiting w ++ x ∷ [])) z) e ∙ row_now waiting w (heads waiting w ++ x ∷ []) h) a in
      elim (old_or_last y x (heads waiting w) here) [
        | inl o ↦ inl (subst (λ z. IsIn y (heads waiting z)) (sym e) o)
        | inr f ↦ inr (e, f)
      ]
  | inr n ↦ inl (subst (λ z. IsIn y z) (row_kept waiting w v (heads waiting w ++ x ∷ []) n) a)
]

placed_waiting : (g : Graph) (l : Line) (todo : List ℕ) (x k : ℕ) → IsGraph g → HasRows (length g) l → Stands g (x ∷ todo) l → IsPending (heads g x) l.done (passed_of l.passed x) k → Stands g todo (record l { passed = set l.passed x k; waiting = set l.waiting (get_or (heads g x) k 0) (heads l.waiting (get_or (heads g x) k 0) ++ x ∷ []) })
placed_waiting g l todo x k closed rows s f =
    let w : ℕ = get_or (heads g x) k 0 in
    let listed : IsIn w (heads g x) = in_at (heads g x) k 0 f.within in
    let inside : w < length l.waiting = subst (λ z. w < z) (sym rows.waiting) (closed x w listed) in
    let mine = s.left x (inl refl) in
    record {
      begins = s.begins;
      flags = s.flags;
      flagged = s.flagged;
      served = s.served;
      ready = s.ready;
      waits = λ v y a. elim (waited l.waiting w x v y inside a) [
        | inl t ↦ s.waits v y t
        | inr e ↦ record {
          edge = record { listed = subst (λ z. IsIn z (heads g y)) (sym e.0) (subst (λ z. IsIn w (heads g z)) (sym e.1) listed) };
          counted = subst (λ z. z < length g) (sym e.1) mine.counted;
          still = λ m. contrary (is_done l.done w) (s.flagged w (subst (λ z. IsIn z l.order) e.0 m)).flag f.is_open;
        }
      ];
      known = λ y j h. elim (same_or_not y x) [
        | inl e ↦
            let at : get_or (set l.passed x k) y 0 ≡ k = ap (λ z. get_or (set l.passed x k) z 0) e ∙ get_or-set_same l.passed x k 0 (subst (λ z. x < z) (sym rows.passed) mine.counted) in
            let low : j < k = omega (arith, at, h) in
            subst (λ z. IsIn (get_or (heads g z) j 0) l.order) (sym e)
            (elim (below_or_not j (passed_of l.passed x)) [
              | inl b ↦ s.known x j b
              | inr b ↦ s.flags (get_or (heads g x) j 0) (f.before j b low)
            ])
        | inr n ↦ s.known y j (subst (λ z. j < z) (get_or-set_other l.passed x y k 0 n) h)
      ];
      left = λ y h. s.left y (inr h);
      placed = λ y h. elim (s.placed y h) [
        | inl p ↦ inl p
        | inr p ↦ elim p [
          | inl t ↦ elim t [ inl e ↦ inr (inr (waits_then l.waiting w x y inside (inr e))) | inr m ↦ inr (inl m) ]
          | inr u ↦ inr (inr (waits_then l.waiting w x y inside (inl u)))
        ]
      ];
    }

-- the first ready node has its turn

goes_next : (g : Graph) (l : Line) (x : ℕ) (rest : List ℕ) → Stands g [] l → l.ready ≡ x ∷ rest → ((y : ℕ) → IsIn y rest → x < y) → IsNext (Edge g) (length g) l.order x
goes_next g l x rest s e above = record {
  ready = s.ready x (subst (λ z. IsIn x z) (sym e) (inl refl));
  least = λ y below is. elim (s.placed y is.counted) [
    | inl p ↦ elim p [
      | inl o ↦ is.remains o
      | inr r ↦ elim (subst (λ z. IsIn y z) e r) [ inl f ↦ absurd (omega arith) | inr t ↦ let h = above y t in absurd (omega arith) ]
    ]
    | inr p ↦ elim p [ inl n ↦ n | inr u ↦ let w = s.waits u.for y u.listed in w.still (is.served u.for w.edge) ]
  ];
}

after_turn : (g : Graph) (l : Line) (x : ℕ) (rest : List ℕ) → HasRows (length g) l → Stands g [] l → l.ready ≡ x ∷ rest → ((y : ℕ) → IsIn y rest → x < y) → Stands g (heads l.waiting x) (record l { ready = rest; waiting = set l.waiting x []; done = set l.done x true; order = l.order ++ x ∷ [] })
after_turn g l x rest rows s e above =
    let next = goes_next g l x rest s e above in
    let mine = next.ready in
    let inside : x < length l.waiting = subst (λ z. x < z) (sym rows.waiting) mine.counted in
    let flag : x < length l.done = subst (λ z. x < z) (sym rows.done) mine.counted in
    record {
      begins = λ more f. subst (λ z. Continues (Edge g) (length g) [] z) (sym (append_assoc l.order (x ∷ []) more)) (s.begins (x ∷ more) (turn next f));
      flags = λ y h. elim (same_or_not y x) [
        | inl f ↦ subst (λ z. IsIn z (l.order ++ x ∷ [])) (sym f) (in_last x l.order)
        | inr n ↦ in_front y l.order (x ∷ []) (s.flags y (subst (λ z. z ≡ true) (get_or-set_other l.done x y true false n) h))
      ];
      flagged = λ y h. elim (same_or_not y x) [
        | inl f ↦ record { counted = subst (λ z. z < length g) (sym f) mine.counted; flag = ap (λ z. is_done (set l.done x true) z) f ∙ get_or-set_same l.done x true false flag }
        | inr n ↦ elim (old_or_last y x l.order h) [
          | inl o ↦ let m = s.flagged y o in record { counted = m.counted; flag = get_or-set_other l.done x y true false n ∙ m.flag }
          | inr f ↦ absurd (n f)
        ]
      ];
      served = λ y w h u. in_front w l.order (x ∷ []) (elim (old_or_last y x l.order h) [
        | inl o ↦ s.served y w o u
        | inr f ↦ mine.served w (subst (λ z. Edge g z w) f u)
      ]);
      ready = λ y h.
          let r = s.ready y (subst (λ z. IsIn y z) (sym e) (inr h)) in
          let low = above y h in
          record {
            counted = r.counted;
            remains = λ m. elim (old_or_last y x l.order m) [ inl o ↦ r.remains o | inr f ↦ absurd (omega arith) ];
            served = λ w u. in_front w l.order (x ∷ []) (r.served w u);
          };
      waits = λ w y a. elim (same_or_not w x) [
        | inl f ↦ absurd (subst (λ z. IsIn y z) (ap (λ z. heads (set l.waiting x []) z) f ∙ row_now l.waiting x [] inside) a)
        | inr n ↦
            let h = s.waits w y (subst (λ z. IsIn y z) (row_kept l.waiting x w [] n) a) in
            record { edge = h.edge; counted = h.counted; still = λ m. elim (old_or_last w x l.order m) [ inl o ↦ h.still o | inr f ↦ n f ] }
      ];
      known = λ y j h. in_front (get_or (heads g y) j 0) l.order (x ∷ []) (s.known y j h);
      left = λ y a.
          let h = s.waits x y a in
          record {
            counted = h.counted;
            remains = λ m. elim (old_or_last y x l.order m) [
              | inl o ↦ mine.remains (s.served y x o h.edge)
              | inr f ↦ mine.remains (mine.served x (subst (λ z. Edge g z x) f h.edge))
            ];
          };
      placed = λ y h. elim (s.placed y h) [
        | inl p ↦ elim p [
          | inl o ↦ inl (inl (in_front y l.order (x ∷ []) o))
          | inr r ↦ elim (subst (λ z. IsIn y z) e r) [
            | inl f ↦ inl (inl (subst (λ z. IsIn z (l.order ++ x ∷ [])) (sym f) (in_last x l.order)))
            | inr t ↦ inl (inr t)
          ]
        ]
        | inr p ↦ elim p [
          | inl n ↦ absurd n
          | inr u ↦ elim (same_or_not u.for x) [
            | inl f ↦ inr (inl (subst (λ z. IsIn y (heads l.waiting z)) f u.listed))
            | inr n ↦ inr (inr (record { for = u.for; listed = subst (λ z. IsIn y z) (sym (row_kept l.waiting x u.for [] n)) u.listed }))
          ]
        ]
      ];
    }

pub no_more_turns : (g : Graph) (l : Line) → Stands g [] l → l.ready ≡ [] → Continues (Edge g) (length g) [] l.order
no_more_turns g l s e =
    subst (λ z. Continues (Edge g) (length g) [] z) (append-nil l.order) (s.begins [] (over (λ x is. elim (s.placed x is.counted) [
      | inl p ↦ elim p [ inl o ↦ is.remains o | inr r ↦ absurd (subst (λ z. IsIn x z) e r) ]
      | inr p ↦ elim p [ inl n ↦ n | inr u ↦ let w = s.waits u.for x u.listed in w.still (is.served u.for w.edge) ]
    ])))

-- before the first turn

within_from : (y x n : ℕ) → IsIn y (from_on x n) → (x ≤ y) × (y < x + n)
within_from y x zero h = absurd h
within_from y x (suc n) h = elim h [
  | inl e ↦ (omega arith, omega arith)
  | inr t ↦ let r = within_from y (x + 1) n t in (omega (arith, r.0), omega (arith, r.1))
]

in_from : (y x n : ℕ) → x ≤ y → y < x + n → IsIn y (from_on x n)
in_from y x zero a b = absurd (omega arith)
in_from y x (suc n) a b = elim (same_or_not y x) [ inl e ↦ inl e | inr m ↦ inr (in_from y (x + 1) n (omega arith) (omega arith)) ]

pub first_from : (x n : ℕ) → x < n → from_on x (n - x) ≡ x ∷ from_on (x + 1) (n - (x + 1))
first_from x n h = let e : n - x ≡ suc (n - (x + 1)) = omega arith in ap (λ z. from_on x z) e

pub none_placed : (g : Graph) (l : Line) → IsNew (length g) l → Stands g (from_on 0 (length g)) l
none_placed g l f = record {
  begins = λ rest h. subst (λ z. Continues (Edge g) (length g) [] (z ++ rest)) (sym f.order) (subst (λ z. Continues (Edge g) (length g) z rest) f.order h);
  flags = λ x h. absurd (contrary (is_done l.done x) h (f.done x));
  flagged = λ x h. absurd (subst (λ z. IsIn x z) f.order h);
  served = λ x w h u. absurd (subst (λ z. IsIn x z) f.order h);
  ready = λ x h. absurd (subst (λ z. IsIn x z) f.ready h);
  waits = λ w x h. absurd (subst (λ z. IsIn x z) (f.waiting w) h);
  known = λ x k h. let e = f.passed x in absurd (omega arith);
  left = λ x h. let r = within_from x 0 (length g) h in record { counted = omega (arith, r.1); remains = λ m. subst (λ z. IsIn x z) f.order m };
  placed = λ x h. inr (inl (in_from x 0 (length g) (omega arith) (omega arith)));
}

-- a measure

fewer_open : (done : List Bool) (x : ℕ) → x < length done → is_done done x ≡ false → open_turns (set done x true) < open_turns done
fewer_open [] x h e = absurd (omega arith)
fewer_open (true ∷ bs) zero h e = cc
fewer_open (false ∷ bs) zero h e = omega arith
fewer_open (true ∷ bs) (suc x) h e = fewer_open bs x (omega arith) e
fewer_open (false ∷ bs) (suc x) h e = let r = fewer_open bs x (omega arith) e in omega arith

-- the same, of what the code has in hand

pub code_waits : (g : Graph) (l : Line) (x k w from : ℕ) (hs : List ℕ) (done : List Bool) (waiting : Graph) → IsGraph g → HasRows (length g) l → hs ≡ heads g x → done ≡ l.done → from ≡ passed_of l.passed x → IsPending hs done from k → w ≡ get_or hs k 0 → waiting ≡ set l.waiting w (heads l.waiting w ++ x ∷ []) → (todo : List ℕ) → Stands g (x ∷ todo) l → Stands g todo (record l { passed = set l.passed x k; waiting = waiting })
code_waits g l x k w from hs done waiting closed rows p q r f e m todo s =
    let first : IsPending (heads g x) l.done (passed_of l.passed x) k = subst (λ z. IsPending z l.done (passed_of l.passed x) k) p (subst (λ z. IsPending hs z (passed_of l.passed x) k) q (subst (λ z. IsPending hs done z k) r f)) in
    let at : w ≡ get_or (heads g x) k 0 = e ∙ ap (λ z. get_or z k 0) p in
    subst (λ z. Stands g todo (record l { passed = set l.passed x k; waiting = z })) (sym (m ∙ ap (λ z. set l.waiting z (heads l.waiting z ++ x ∷ [])) at)) (placed_waiting g l todo x k closed rows s first)

pub code_ready : (g : Graph) (l : Line) (x from : ℕ) (hs ready : List ℕ) (done : List Bool) → hs ≡ heads g x → done ≡ l.done → from ≡ passed_of l.passed x → AreDone hs done from → ready ≡ insert_key nat_cmp l.ready x → (todo : List ℕ) → Stands g (x ∷ todo) l → Stands g todo (record l { ready = ready })
code_ready g l x from hs ready done p q r f m todo s =
    let all : AreDone (heads g x) l.done (passed_of l.passed x) = subst (λ z. AreDone z l.done (passed_of l.passed x)) p (subst (λ z. AreDone hs z (passed_of l.passed x)) q (subst (λ z. AreDone hs done z) r f)) in
    subst (λ z. Stands g todo (record l { ready = z })) (sym m) (placed_ready g l todo x s all)

pub code_turn : (g : Graph) (l : Line) (x : ℕ) (rest todo order : List ℕ) (waiting : Graph) → HasRows (length g) l → Stands g [] l → l.ready ≡ x ∷ rest → All (λ k. nat_cmp x k ≡ Less) rest → todo ≡ heads l.waiting x → order ≡ l.order ++ x ∷ [] → waiting ≡ set l.waiting x [] → Stands g todo (record l { ready = rest; waiting = waiting; done = set l.done x true; order = order })
code_turn g l x rest todo order waiting rows s e above p q r =
    subst (λ z. Stands g z (record l { ready = rest; waiting = waiting; done = set l.done x true; order = order })) (sym p)
    (subst (λ z. Stands g (heads l.waiting x) (record l { ready = rest; waiting = waiting; done = set l.done x true; order = z })) (sym q)
    (subst (λ z. Stands g (heads l.waiting x) (record l { ready = rest; waiting = z; done = set l.done x true; order = l.order ++ x ∷ [] })) (sym r)
    (after_turn g l x rest rows s e (above_first x rest above))))

pub turn_rows : (g : Graph) (l : Line) (x : ℕ) (rest order : List ℕ) (waiting : Graph) → HasRows (length g) l → waiting ≡ set l.waiting x [] → HasRows (length g) (record l { ready = rest; waiting = waiting; done = set l.done x true; order = order })
turn_rows g l x rest order waiting rows r = record {
  passed = rows.passed;
  waiting = ap length r ∙ length-set l.waiting x [] ∙ rows.waiting;
  done = length-set l.done x true ∙ rows.done;
}

pub first_counted : (g : Graph) (l : Line) (x : ℕ) (rest : List ℕ) → Stands g [] l → l.ready ≡ x ∷ rest → x < length g
first_counted g l x rest s e = (s.ready x (subst (λ z. IsIn x z) (sym e) (inl refl))).counted

pub one_turn_less : (g : Graph) (l : Line) (x : ℕ) (rest : List ℕ) (done : List Bool) → HasRows (length g) l → Stands g [] l → l.ready ≡ x ∷ rest → done ≡ set l.done x true → open_turns done < open_turns l.done
one_turn_less g l x rest done rows s e f =
    let r = s.ready x (subst (λ z. IsIn x z) (sym e) (inl refl)) in
    let inside : x < length l.done = omega (arith, r.counted, rows.done) in
    subst (λ z. open_turns z < open_turns l.done) (sym f) (fewer_open l.done x inside (not_true (is_done l.done x) (λ h. r.remains (s.flags x h))))
  where
    not_true : (b : Bool) → (b ≡ true → ⊥) → b ≡ false
    not_true true n = absurd (n refl)
    not_true false n = refl

pub stopped : (went : Bool) (old new : Line) → went ≡ false → Turned went old new → new.ready ≡ []
stopped went old new e h = subst (λ z. Turned z old new) e h
