-- An edge is followed: to a node with a number, or back along the path.
use Rattle.std.proofs.Common.{◌≡◌, ℕ, ◌+◌, ◌-◌, ◌<◌, ◌≤◌, inl, inr, List, [], ◌∷◌, ap, sym, ◌∙◌, subst, arith, length, take}
use Rattle.mz_graph.specs.Graph.{Graph, Path, arrived, onward}
use Rattle.mz_graph.specs.declared.search.Visit.TheVariants.{OnPath, Numbered}
use Rattle.mz_graph.specs.StepsSearch.{Trail, visit_of, at, IsCovered, by_number, by_path, by_work, by_hand, Tail, AreParts, Holds, AllReach, BeginsPath, IsPrefix}
use Rattle.mz_graph.proofs.Membership.{below_or_not}
use Rattle.mz_graph.proofs.Visits.{onto, front}

-- the last edge is taken in hand

fewer_tails : (g : Graph) (path work ws starts floors : List ℕ) → AreParts g path work starts floors → IsPrefix ws work → 0 < length starts → at floors (length starts - 1) ≤ length ws → AreParts g path ws starts floors
fewer_tails g path work ws starts floors was f some low = record {
  paired = was.paired;
  tails = λ k h. let o = f.one in subst (λ z. Tail g path starts floors k z) (sym (f.same k h)) (was.tails k (omega (arith, h, o)));
  back = was.back;
  rises = was.rises;
  inside = was.inside;
  above = λ i h. elim (below_or_not i (length starts - 1)) [
    | inl b ↦ let r = was.rises i (length starts - 1) b (omega (arith, some)) in let c = r.floor in omega (arith, c, low)
    | inr b ↦ let is : i ≡ length starts - 1 = omega (arith, b, h) in let e = ap (λ z. at floors z) is in omega (arith, e, low)
  ];
  begins = was.begins;
}

pub in_hand : (g : Graph) (t : Trail) (ws : List ℕ) → Holds g [] t → IsPrefix ws t.work → 0 < length t.starts → at t.floors (length t.starts - 1) ≤ length ws → Holds g (at t.work (length ws) ∷ []) (record t { work = ws })
in_hand g t ws h f some low = record {
  path = h.path;
  parts = fewer_tails g t.path t.work ws t.starts t.floors h.parts f some low;
  covered = λ i q y b l k u. elim (h.covered i q y b l k u) [
    | by_number d e ↦ by_number d e
    | by_path p e a ↦ by_path p e a
    | by_work j a w e ↦ elim (below_or_not j (length ws)) [
      | inl o ↦ by_work j a o (f.same j o ∙ e)
      | inr o ↦ let one = f.one in let is : length ws ≡ j = omega (arith, o, w, one) in by_hand (inl (sym (ap (λ z. at t.work z) is ∙ e)))
    ]
    | by_hand a ↦ absurd a
  ];
}

-- all of the path reach the head of an edge of the last component
pub reach_head : (g : Graph) (t : Trail) (k : ℕ) → Holds g [] t → 0 < length t.starts → k < length t.work → at t.floors (length t.starts - 1) ≤ k → AllReach g t (at t.work k)
reach_head g t k h some within low q b =
    let top : ℕ = length t.starts - 1 in
    let is : top < length t.starts = omega (arith, some) in
    let last : ℕ = length t.path - 1 in
    let edge = h.parts.tails k within in
    let on : last < length t.path = omega (arith, b) in
    onto (h.path.onwards q last (omega (arith, b)) on)
    (onto (h.parts.back top last is on (λ c. absurd (omega (arith, c, some))))
    (onto (h.path.onwards (at t.starts top) edge.place (edge.after top is low) edge.within)
    (onward edge.edge arrived)))

-- the edge in hand leads to a node with a number

pub to_number : (g : Graph) (t : Trail) (y c : ℕ) → Holds g (y ∷ []) t → visit_of t.visits y ≡ Numbered c → Holds g [] t
to_number g t y c h is = record {
  path = h.path;
  parts = h.parts;
  covered = λ i q w b l k u. elim (h.covered i q w b l k u) [
    | by_number d e ↦ by_number d e
    | by_path p e a ↦ by_path p e a
    | by_work j a v e ↦ by_work j a v e
    | by_hand a ↦ elim a [ inl e ↦ by_number c (ap (λ z. visit_of t.visits z) e ∙ is) | inr n ↦ absurd n ]
  ];
}

-- it leads to the last component of the path

pub to_last : (g : Graph) (t : Trail) (y p : ℕ) → Holds g (y ∷ []) t → visit_of t.visits y ≡ OnPath p → 0 < length t.starts → at t.starts (length t.starts - 1) ≤ p → Holds g [] t
to_last g t y p h is some low = record {
  path = h.path;
  parts = h.parts;
  covered = λ i q w b l k u. elim (h.covered i q w b l k u) [
    | by_number d e ↦ by_number d e
    | by_path o e a ↦ by_path o e a
    | by_work j a v e ↦ by_work j a v e
    | by_hand a ↦ elim a [
      | inl e ↦ by_path p (ap (λ z. visit_of t.visits z) e ∙ is) (elim (below_or_not i (length t.starts - 1)) [
        | inl c ↦ let r = h.parts.rises i (length t.starts - 1) c (omega (arith, some)) in let s = r.start in omega (arith, s, low)
        | inr c ↦ let j : i ≡ length t.starts - 1 = omega (arith, c, b) in let f = ap (λ z. at t.starts z) j in omega (arith, f, low)
      ])
      | inr n ↦ absurd n
    ]
  ];
}

-- it leads before the last component: the last two become one

module _ (g : Graph) (t : Trail) (ss fs : List ℕ) (sf : IsPrefix ss t.starts) (ff : IsPrefix fs t.floors) where
  merged_parts : (p : ℕ) → AreParts g t.path t.work t.starts t.floors → ((q : ℕ) → q < length t.path → Path g (at t.path q) (at t.path p)) → p < length t.path → p < at t.starts (length ss) → AreParts g t.path t.work ss fs
  merged_parts p was reach inside above =
      let so = sf.one in
      let fo = ff.one in
      let pair = was.paired in
      let old : (i : ℕ) → i < length ss → i < length t.starts = λ i h. omega (arith, h, so) in
      let rest : (i : ℕ) → i < length ss → i < length fs = λ i h. omega (arith, h, so, fo, pair) in
      record {
        paired = omega (arith, pair, so, fo);
        tails = λ k h.
            let r = was.tails k h in
            record {
              place = r.place;
              within = r.within;
              edge = r.edge;
              after = λ i c l. let s = sf.same i c in let f = ff.same i (rest i c) in let a = r.after i (old i c) (omega (arith, l, f)) in omega (arith, a, s);
              before = λ i c l. let s = sf.same i c in let f = ff.same i (rest i c) in let a = r.before i (old i c) (omega (arith, l, f)) in omega (arith, a, s);
            };
        back = λ i q h b f.
            subst (λ z. Path g (at t.path q) (at t.path z)) (sym (sf.same i h)) (elim (below_or_not (i + 1) (length ss)) [
              | inl c ↦ was.back i q (old i h) b (λ d. let a = f c in let s = sf.same (i + 1) c in omega (arith, a, s))
              | inr c ↦
                  let j : i + 1 ≡ length ss = omega (arith, c, h) in
                  let low : p < at t.starts (i + 1) = subst (λ z. p < at t.starts z) (sym j) above in
                  onto (reach q b) (was.back i p (old i h) inside (λ d. low))
            ]);
        rises = λ i j l h.
            let io : i < length ss = omega (arith, l, h) in
            let r = was.rises i j l (old j h) in
            let a = sf.same i io in let b = sf.same j h in let c = ff.same i (rest i io) in let d = ff.same j (rest j h) in
            let s = r.start in let f = r.floor in
            record { start = omega (arith, a, b, s); floor = omega (arith, c, d, f) };
        inside = λ i h. let a = sf.same i h in let r = was.inside i (old i h) in omega (arith, a, r);
        above = λ i h. let a = ff.same i (rest i h) in let r = was.above i (old i h) in omega (arith, a, r);
        begins = λ h.
            let f = was.begins h in
            let first = f.is in
            let some : 0 < length ss = elim (below_or_not 0 (length ss)) [
              | inl c ↦ c
              | inr c ↦ let z : length ss ≡ 0 = omega (arith, c) in let e = ap (λ y. at t.starts y) z in absurd (omega (arith, e, first, above))
            ] in
            record { some = some; is = sf.same 0 some ∙ first };
      }

  merged_whole : (y p : ℕ) → Holds g (y ∷ []) t → visit_of t.visits y ≡ OnPath p → AllReach g t y → p < at t.starts (length ss) → Holds g (y ∷ []) (record t { starts = ss; floors = fs })
  merged_whole y p h is reach above =
      let r = h.path.placed y p is in
      let so = sf.one in
      let fo = ff.one in
      let pair = h.parts.paired in
      record {
        path = h.path;
        parts = merged_parts p h.parts (λ q b. subst (λ z. Path g (at t.path q) z) (sym r.is) (reach q b)) r.within above;
        covered = λ i q w b l k u.
            let s = sf.same i b in
            let f = ff.same i (omega (arith, b, so, fo, pair)) in
            subst (λ z. IsCovered t.visits t.work (y ∷ []) z (at fs i) w) (sym s) (subst (λ z. IsCovered t.visits t.work (y ∷ []) (at t.starts i) z w) (sym f) (h.covered i q w (omega (arith, b, so)) (omega (arith, l, s)) k u));
      }

-- the same, of what the code has in hand

pub code_merged : (g : Graph) (t : Trail) (ss fs : List ℕ) (y p : ℕ) → Holds g (y ∷ []) t → visit_of t.visits y ≡ OnPath p → AllReach g t y → 0 < length t.starts → p < at t.starts (length t.starts - 1) → ss ≡ take (length t.starts - 1) t.starts → fs ≡ take (length t.floors - 1) t.floors → Holds g (y ∷ []) (record t { starts = ss; floors = fs })
code_merged g t ss fs y p h is reach some above starts floors =
    let pair = h.parts.paired in
    let sf = front t.starts ss starts some in
    let ff = front t.floors fs floors (omega (arith, pair, some)) in
    let one = sf.one in
    let top : length t.starts - 1 ≡ length ss = omega (arith, one) in
    merged_whole g t ss fs sf ff y p h is reach (subst (λ z. p < at t.starts z) top above)

pub code_begins : (starts ss : List ℕ) (p : ℕ) → BeginsPath starts → ss ≡ take (length starts - 1) starts → p < at starts (length starts - 1) → BeginsPath ss
code_begins starts ss p b e above =
    let sf = front starts ss e b.some in
    let one = sf.one in
    let first = b.is in
    let some : 0 < length ss = elim (below_or_not 0 (length ss)) [
      | inl c ↦ c
      | inr c ↦ let z : length starts - 1 ≡ 0 = omega (arith, c, one) in let h = ap (λ y. at starts y) z in absurd (omega (arith, h, first, above))
    ] in
    record { some = some; is = sf.same 0 some ∙ first }
