-- The last component of the path gets its number.
use Rattle.std.proofs.Common.{◌≡◌, ℕ, zero, suc, ◌+◌, ◌-◌, ◌<◌, ◌≤◌, ◌⊎◌, inl, inr, List, [], ◌∷◌, ◌++◌, refl, ap, sym, ◌∙◌, subst, arith, length, get_or, set, map, take, drop}
use Rattle.std.proofs.lemmas.List.{length-set, length-map, length-take-le, get_or-take, take_all, take_more, map_push}
use Rattle.std.proofs.Math.ListN.{get_or-map}
use Rattle.mz_graph.specs.Graph.{Graph, IsIn, IsGraph, Edge, Path, AreComponents, number_of}
use Rattle.mz_graph.specs.declared.search.Visit.{Visit}
use Rattle.mz_graph.specs.declared.search.Visit.TheVariants.{Unvisited, OnPath, Numbered}
use Rattle.mz_graph.specs.StepsTurns.{AreBelow}
use Rattle.mz_graph.specs.StepsSearch.{Trail, visit_of, at, IsCovered, by_number, by_path, by_work, by_hand, Holds, unvisited, left, StayVisited, IsPrefix, AreNumberedFrom, AreNumbered, number, AreVisits}
use Rattle.mz_graph.proofs.Membership.{below_or_not, same_or_not, in_or_not, in_front, in_back, old_or_last, in_at, place_of}
use Rattle.mz_graph.proofs.Visits.{onto, path_is_visited, number_is_visited, path_or_number, one_place, one_number, visit_kept, visit_now, front}

-- a node of the path from `start` on
pub record Member (path : List ℕ) (start x : ℕ) : Type 0 where
  pub place : ℕ
  pub from : start ≤ place
  pub within : place < length path
  pub is : at path place ≡ x

module _ (g : Graph) (t : Trail) (vs : List Visit) (start : ℕ) (h : Holds g [] t) (got : AreNumberedFrom t.visits vs t.path start (length t.path) t.count) where
  keeps : (x : ℕ) (v : Visit) → visit_of t.visits x ≡ v → ((q : ℕ) → start ≤ q → v ≡ OnPath q → ⊥) → visit_of vs x ≡ v
  keeps x v e n = got.others x (λ q l b i. n q l (sym e ∙ sym (ap (λ z. visit_of t.visits z) i) ∙ h.path.on_path q b)) ∙ e

  keeps_number : (x c : ℕ) → visit_of t.visits x ≡ Numbered c → visit_of vs x ≡ Numbered c
  keeps_number x c e = keeps x (Numbered c) e (λ q l i. path_or_number q c (sym i))

  keeps_place : (x p : ℕ) → visit_of t.visits x ≡ OnPath p → p < start → visit_of vs x ≡ OnPath p
  keeps_place x p e low = keeps x (OnPath p) e (λ q l i. let j = one_place p q i in absurd (omega (arith, j, low, l)))

  gets_number : (x p : ℕ) → visit_of t.visits x ≡ OnPath p → start ≤ p → visit_of vs x ≡ Numbered t.count
  gets_number x p e l = let r = h.path.placed x p e in ap (λ z. visit_of vs z) (sym r.is) ∙ got.now p l r.within

  had_place : (v : Visit) (x p : ℕ) → visit_of t.visits x ≡ v → visit_of vs x ≡ OnPath p → (visit_of t.visits x ≡ OnPath p) × (p < start)
  had_place Unvisited x p e f = absurd (path_is_visited p (sym f ∙ keeps x Unvisited e (λ q l i. path_is_visited q (sym i))))
  had_place (Numbered c) x p e f = absurd (path_or_number p c (sym f ∙ keeps_number x c e))
  had_place (OnPath q) x p e f = elim (below_or_not q start) [
    | inl l ↦ let i = one_place q p (sym (keeps_place x q e l) ∙ f) in (e ∙ ap (λ z. OnPath z) i, omega (arith, i, l))
    | inr l ↦ absurd (path_or_number p t.count (sym f ∙ gets_number x q e l))
  ]

  had_number : (v : Visit) (x c : ℕ) → visit_of t.visits x ≡ v → visit_of vs x ≡ Numbered c → (visit_of t.visits x ≡ Numbered c) ⊎ ((c ≡ t.count) × Member t.path start x)
  had_number Unvisited x c e f = absurd (number_is_visited c (sym f ∙ keeps x Unvisited e (λ q l i. path_is_visited q (sym i))))
  had_number (Numbered d) x c e f = inl (e ∙ sym (keeps_number x d e) ∙ f)
  had_number (OnPath q) x c e f = elim (below_or_not q start) [
    | inl l ↦ absurd (path_or_number q c (sym (keeps_place x q e l) ∙ f))
    | inr l ↦ let r = h.path.placed x q e in inr (one_number c t.count (sym f ∙ gets_number x q e l), record { place = q; from = l; within = r.within; is = r.is })
  ]

  pub settled : (ss fs path : List ℕ) → IsPrefix ss t.starts → IsPrefix fs t.floors → start ≡ at t.starts (length ss) → length t.work ≤ at t.floors (length ss) → length path ≡ start → ((q : ℕ) → q < start → at path q ≡ at t.path q) → Holds g [] (record { visits = vs; path = path; work = t.work; starts = ss; floors = fs; count = t.count + 1 })
  settled ss fs path sf ff begins idle cut same =
      let so = sf.one in
      let fo = ff.one in
      let pair = h.parts.paired in
      let top : ℕ = length ss in
      let is_top : top < length t.starts = omega (arith, so) in
      let start_in = h.parts.inside top is_top in
      let inner : start < length t.path = omega (arith, begins, start_in) in
      let old : (i : ℕ) → i < length ss → i < length t.starts = λ i b. omega (arith, b, so) in
      let rest : (i : ℕ) → i < length ss → i < length fs = λ i b. omega (arith, b, so, fo, pair) in
      let low : (q : ℕ) → q < length path → q < start = λ q b. omega (arith, b, cut) in
      let deep : (q : ℕ) → q < length path → q < length t.path = λ q b. omega (arith, b, cut, inner) in
      record {
        path = record {
          sized = got.sized ∙ h.path.sized;
          on_path = λ q b. subst (λ z. visit_of vs z ≡ OnPath q) (sym (same q (low q b))) (keeps_place (at t.path q) q (h.path.on_path q (deep q b)) (low q b));
          placed = λ x p e. let w = had_place (visit_of t.visits x) x p refl e in let l = w.1 in let r = h.path.placed x p w.0 in record { within = omega (arith, l, cut); is = same p w.1 ∙ r.is };
          numbers = λ x c e. elim (had_number (visit_of t.visits x) x c refl e) [
            | inl o ↦ let r = h.path.numbers x c o in omega (arith, r)
            | inr o ↦ let r = o.0 in omega (arith, r)
          ];
          falls = λ x c y e u. elim (had_number (visit_of t.visits x) x c refl e) [
            | inl o ↦ let r = h.path.falls x c y o u in record { number = r.number; numbered = keeps_number y r.number r.numbered; low = r.low }
            | inr o ↦
                let k = o.0 in
                let from = o.1.from in
                let b : at t.starts top ≤ o.1.place = omega (arith, begins, from) in
                elim (h.covered top o.1.place y is_top b o.1.within (subst (λ z. Edge g z y) (sym o.1.is) u)) [
                  | by_number d f ↦ let r = h.path.numbers y d f in record { number = d; numbered = keeps_number y d f; low = omega (arith, r, k) }
                  | by_path p f l ↦ record { number = t.count; numbered = gets_number y p f (omega (arith, l, begins)); low = omega (arith, k) }
                  | by_work j l b f ↦ absurd (omega (arith, l, b, idle))
                  | by_hand a ↦ absurd a
                ]
          ];
          connected = λ x y c e d. elim (had_number (visit_of t.visits x) x c refl e) [
            | inl o ↦ elim (had_number (visit_of t.visits y) y c refl d) [
              | inl a ↦ h.path.connected x y c o a
              | inr a ↦ let r = h.path.numbers x c o in let k = a.0 in absurd (omega (arith, r, k))
            ]
            | inr o ↦ elim (had_number (visit_of t.visits y) y c refl d) [
              | inl a ↦ let r = h.path.numbers y c a in let k = o.0 in absurd (omega (arith, r, k))
              | inr a ↦
                  let from = a.1.from in
                  let b : at t.starts top ≤ a.1.place = omega (arith, begins, from) in
                  subst (λ z. Path g z y) o.1.is (subst (λ z. Path g (at t.path o.1.place) z) a.1.is
                  (onto (h.parts.back top o.1.place is_top o.1.within (λ b. absurd (omega (arith, b, so)))) (h.path.onwards (at t.starts top) a.1.place b a.1.within)))
            ]
          ];
          onwards = λ p q l b.
              let pl : p < start = let z = low q b in omega (arith, l, z) in
              subst (λ z. Path g z (at path q)) (sym (same p pl)) (subst (λ z. Path g (at t.path p) z) (sym (same q (low q b))) (h.path.onwards p q l (deep q b)));
        };
        parts = record {
          paired = omega (arith, pair, so, fo);
          tails = λ k b.
              let r = h.parts.tails k b in
              let z = r.before top is_top (omega (arith, b, idle)) in
              let lower : r.place < start = omega (arith, z, begins) in
              record {
                place = r.place;
                within = omega (arith, lower, cut);
                edge = subst (λ z. Edge g z (at t.work k)) (sym (same r.place lower)) r.edge;
                after = λ i c l. let s = sf.same i c in let f = ff.same i (rest i c) in let a = r.after i (old i c) (omega (arith, l, f)) in omega (arith, a, s);
                before = λ i c l. let s = sf.same i c in let f = ff.same i (rest i c) in let a = r.before i (old i c) (omega (arith, l, f)) in omega (arith, a, s);
              };
          back = λ i q b l f.
              let rise = h.parts.rises i top b is_top in
              let rs = rise.start in
              let s = sf.same i b in
              let sl : at ss i < start = omega (arith, s, rs, begins) in
              subst (λ z. Path g z (at path (at ss i))) (sym (same q (low q l))) (subst (λ z. Path g (at t.path q) z) (sym (same (at ss i) sl)) (subst (λ z. Path g (at t.path q) (at t.path z)) (sym s)
              (h.parts.back i q (old i b) (deep q l) (λ d. elim (below_or_not (i + 1) (length ss)) [
                | inl c ↦ let a = f c in let e = sf.same (i + 1) c in omega (arith, a, e)
                | inr c ↦ let j : i + 1 ≡ length ss = omega (arith, c, b) in let e = ap (λ z. at t.starts z) j in let a = low q l in omega (arith, e, begins, a)
              ]))));
          rises = λ i j l b.
              let io : i < length ss = omega (arith, l, b) in
              let r = h.parts.rises i j l (old j b) in
              let rs = r.start in let rf = r.floor in
              let a = sf.same i io in let d = sf.same j b in let e = ff.same i (rest i io) in let f = ff.same j (rest j b) in
              record { start = omega (arith, a, d, rs); floor = omega (arith, e, f, rf) };
          inside = λ i b. let a = sf.same i b in let r = h.parts.rises i top b is_top in let s = r.start in omega (arith, a, s, begins, cut);
          above = λ i b. let a = ff.same i (rest i b) in let r = h.parts.above i (old i b) in omega (arith, a, r);
          begins = λ b.
              let f = h.parts.begins (omega (arith, inner)) in
              let first = f.is in
              let some : 0 < length ss = elim (below_or_not 0 (length ss)) [
                | inl c ↦ c
                | inr c ↦ let z : length ss ≡ 0 = omega (arith, c) in let e = ap (λ y. at t.starts y) z in absurd (omega (arith, e, first, begins, cut, b))
              ] in
              record { some = some; is = sf.same 0 some ∙ first };
        };
        covered = λ i q y b l k u.
            let s = sf.same i b in
            subst (λ z. IsCovered vs t.work [] z (at fs i) y) (sym s) (subst (λ z. IsCovered vs t.work [] (at t.starts i) z y) (sym (ff.same i (rest i b)))
            (elim (h.covered i q y (old i b) (omega (arith, l, s)) (deep q k) (subst (λ z. Edge g z y) (same q (low q k)) u)) [
              | by_number d f ↦ by_number d (keeps_number y d f)
              | by_path p f a ↦ elim (below_or_not p start) [ inl c ↦ by_path p (keeps_place y p f c) a | inr c ↦ by_number t.count (gets_number y p f c) ]
              | by_work j a o f ↦ by_work j a o f
              | by_hand a ↦ absurd a
            ]));
      }

-- node by node

pub one_more_numbered : (old vs : List Visit) (xs ys : List ℕ) (x c : ℕ) → AreNumbered old vs xs c → ys ≡ xs ++ x ∷ [] → x < length vs → AreNumbered old (set vs x (Numbered c)) ys c
one_more_numbered old vs xs ys x c was e h = record {
  sized = length-set vs x (Numbered c) ∙ was.sized;
  now = λ y a. elim (same_or_not y x) [
    | inl i ↦ ap (λ z. visit_of (set vs x (Numbered c)) z) i ∙ visit_now vs x (Numbered c) h
    | inr n ↦ elim (old_or_last y x xs (subst (λ z. IsIn y z) e a)) [ inl o ↦ visit_kept vs x y (Numbered c) n ∙ was.now y o | inr i ↦ absurd (n i) ]
  ];
  others = λ y n.
      visit_kept vs x y (Numbered c) (λ i. n (subst (λ z. IsIn y z) (sym e) (in_back y xs (x ∷ []) (inl i))))
      ∙ was.others y (λ a. n (subst (λ z. IsIn y z) (sym e) (in_front y xs (x ∷ []) a)));
}

in_dropped : (xs : List ℕ) (b q : ℕ) → b ≤ q → q < length xs → IsIn (at xs q) (drop b xs)
in_dropped xs zero q l h = in_at xs q 0 h
in_dropped [] (suc b) q l h = absurd (omega (arith, h))
in_dropped (x ∷ xs) (suc b) zero l h = absurd (omega (arith, l))
in_dropped (x ∷ xs) (suc b) (suc q) l h = in_dropped xs b q (omega (arith, l)) (omega (arith, h))

member_of_rest : (xs : List ℕ) (b x : ℕ) → IsIn x (drop b xs) → Member xs b x
member_of_rest xs zero x h = let p = place_of x xs h in record { place = p.at; from = omega arith; within = p.within; is = p.is 0 }
member_of_rest [] (suc b) x h = absurd h
member_of_rest (y ∷ xs) (suc b) x h = let r = member_of_rest xs b x h in record { place = suc r.place; from = let f = r.from in omega (arith, f); within = let w = r.within in omega (arith, w); is = r.is }

numbered_from : (old new : List Visit) (path : List ℕ) (start c : ℕ) → AreNumbered old new (drop start path) c → AreNumberedFrom old new path start (length path) c
numbered_from old new path start c a = record {
  sized = a.sized;
  now = λ q l b. a.now (at path q) (in_dropped path start q l b);
  others = λ x n. a.others x (λ i. let r = member_of_rest path start x i in n r.place r.from r.within r.is);
}

pub numbered_visits : (old new : List Visit) (nodes : List ℕ) (c : ℕ) → AreNumbered old new nodes c → StayVisited old new
numbered_visits old new nodes c a x e = elim (in_or_not x nodes) [
  | inl i ↦ absurd (number_is_visited c (sym (a.now x i) ∙ e))
  | inr n ↦ sym (a.others x n) ∙ e
]

-- the measure

less_unvisited : (old new : List Visit) (g : Graph) → length new ≡ length old → StayVisited old new → unvisited new g ≤ unvisited old g
less_unvisited [] [] g e s = omega arith
less_unvisited [] (v ∷ new) g e s = absurd (omega (arith, e))
less_unvisited (v ∷ old) [] g e s = absurd (omega (arith, e))
less_unvisited (v ∷ old) (w ∷ new) [] e s = omega arith
less_unvisited (v ∷ old) (OnPath p ∷ new) (hs ∷ g) e s =
    let r = less_unvisited old new g (omega (arith, e)) (λ x i. s (suc x) i) in
    let low : unvisited old g ≤ unvisited (v ∷ old) (hs ∷ g) = elim v as (λ z. unvisited old g ≤ unvisited (z ∷ old) (hs ∷ g)) [ Unvisited ↦ omega arith | OnPath q ↦ omega arith | Numbered c ↦ omega arith ] in
    omega (arith, r, low)
less_unvisited (v ∷ old) (Numbered c ∷ new) (hs ∷ g) e s =
    let r = less_unvisited old new g (omega (arith, e)) (λ x i. s (suc x) i) in
    let low : unvisited old g ≤ unvisited (v ∷ old) (hs ∷ g) = elim v as (λ z. unvisited old g ≤ unvisited (z ∷ old) (hs ∷ g)) [ Unvisited ↦ omega arith | OnPath q ↦ omega arith | Numbered d ↦ omega arith ] in
    omega (arith, r, low)
less_unvisited (v ∷ old) (Unvisited ∷ new) (hs ∷ g) e s =
    let r = less_unvisited old new g (omega (arith, e)) (λ x i. s (suc x) i) in
    let is : v ≡ Unvisited = s zero refl in
    subst (λ z. unvisited (Unvisited ∷ new) (hs ∷ g) ≤ unvisited (z ∷ old) (hs ∷ g)) (sym is) (omega (arith, r))

-- the same, of what the code has in hand

pub code_settled : (g : Graph) (t u : Trail) (start : ℕ) → Holds g [] t → AreNumbered t.visits u.visits (drop start t.path) t.count → start ≡ at t.starts (length t.starts - 1) → 0 < length t.starts → length t.work ≤ at t.floors (length t.floors - 1) → u.path ≡ take start t.path → u.starts ≡ take (length t.starts - 1) t.starts → u.floors ≡ take (length t.floors - 1) t.floors → u.work ≡ t.work → u.count ≡ t.count + 1 → Holds g [] u
code_settled g t u start h got begins some idle path starts floors work count =
    let pair = h.parts.paired in
    let sf = front t.starts u.starts starts some in
    let ff = front t.floors u.floors floors (omega (arith, pair, some)) in
    let so = sf.one in
    let start_in = h.parts.inside (length t.starts - 1) (omega (arith, some)) in
    let inner : start < length t.path = omega (arith, begins, start_in) in
    let top : length t.starts - 1 ≡ length u.starts = omega (arith, so) in
    let top_floor : length t.floors - 1 ≡ length u.starts = omega (arith, so, pair) in
    subst (λ z. Holds g [] (record { visits = u.visits; path = u.path; work = z; starts = u.starts; floors = u.floors; count = u.count })) (sym work)
    (subst (λ z. Holds g [] (record { visits = u.visits; path = u.path; work = t.work; starts = u.starts; floors = u.floors; count = z })) (sym count)
    (settled g t u.visits start h (numbered_from t.visits u.visits t.path start t.count got) u.starts u.floors u.path sf ff
    (begins ∙ ap (λ z. at t.starts z) top)
    (subst (λ z. length t.work ≤ at t.floors z) top_floor idle)
    (ap length path ∙ length-take-le start t.path (omega (arith, inner)))
    (λ q b. ap (λ z. at z q) path ∙ get_or-take start t.path q 0 b)))

pub code_less : (g : Graph) (t u : Trail) (start : ℕ) (nodes : List ℕ) → AreNumbered t.visits u.visits nodes t.count → start < length t.path → u.path ≡ take start t.path → u.work ≡ t.work → left g u < left g t
code_less g t u start nodes got h path work =
    let a = less_unvisited t.visits u.visits g got.sized (numbered_visits t.visits u.visits nodes t.count got) in
    let b = ap length path ∙ length-take-le start t.path (omega (arith, h)) in
    let c = ap length work in
    omega (arith, a, b, c, h)

pub rest_is_below : (vs : List Visit) (path : List ℕ) (start : ℕ) → AreVisits vs path → AreBelow (length vs) (drop start path)
rest_is_below vs path start a x i = let r = member_of_rest path start x i in subst (λ z. z < length vs) r.is (a r.place r.within)

-- the end

pub no_path : (g : Graph) (t : Trail) → Holds g [] t → length t.starts ≡ 0 → length t.path ≡ 0
no_path g t h e = elim (below_or_not 0 (length t.path)) [ inl b ↦ let f = h.parts.begins b in let s = f.some in absurd (omega (arith, s, e)) | inr b ↦ omega (arith, b) ]

has_number : (g : Graph) (t : Trail) (v : Visit) (x : ℕ) → Holds g [] t → length t.path ≡ 0 → visit_of t.visits x ≡ v → (visit_of t.visits x ≡ Unvisited → ⊥) → visit_of t.visits x ≡ Numbered (number v)
has_number g t Unvisited x h e is n = absurd (n is)
has_number g t (OnPath p) x h e is n = let r = h.path.placed x p is in let w = r.within in absurd (omega (arith, w, e))
has_number g t (Numbered c) x h e is n = is

all_numbered : (g : Graph) (t : Trail) (of : List ℕ) → IsGraph g → Holds g [] t → length t.path ≡ 0 → ((x : ℕ) → x < length g → visit_of t.visits x ≡ Unvisited → ⊥) → length of ≡ length t.visits → ((x : ℕ) → number_of of x ≡ number (visit_of t.visits x)) → AreComponents g t.count of
all_numbered g t of closed h e seen sized is =
    let mine : (x : ℕ) → x < length g → visit_of t.visits x ≡ Numbered (number_of of x) = λ x b. subst (λ z. visit_of t.visits x ≡ Numbered z) (sym (is x)) (has_number g t (visit_of t.visits x) x h e refl (seen x b)) in
    record {
      sized = sized ∙ h.path.sized;
      numbered = λ x b. h.path.numbers x (number_of of x) (mine x b);
      falls = λ x y b u.
          let r = h.path.falls x (number_of of x) y (mine x b) u in
          let d = one_number (number_of of y) r.number (sym (mine y (closed x y u.listed)) ∙ r.numbered) in
          let l = r.low in
          omega (arith, d, l);
      connected = λ x y b l d. h.path.connected x y (number_of of x) (mine x b) (mine y l ∙ ap (λ z. Numbered z) (sym d));
    }

numbers_read : (vs : List Visit) (x : ℕ) → at (map number vs) x ≡ number (visit_of vs x)
numbers_read vs x = get_or-map number vs x Unvisited

pub one_number_more : (of out : List ℕ) (vs : List Visit) (i n : ℕ) (d : Visit) → i < length vs → of ≡ map number (take i vs) → n ≡ number (get_or vs i d) → out ≡ of ++ n ∷ [] → out ≡ map number (take (i + 1) vs)
one_number_more of out vs i n d h p q r =
    r ∙ ap (λ z. z ++ n ∷ []) p ∙ ap (λ z. map number (take i vs) ++ z ∷ []) q
    ∙ sym (ap (λ z. map number z) (take_more vs i d h) ∙ map_push number (take i vs) (get_or vs i d))

pub all_numbers : (of : List ℕ) (vs : List Visit) (i : ℕ) → of ≡ map number (take i vs) → length vs ≤ i → of ≡ map number vs
all_numbers of vs i q l = q ∙ ap (λ z. map number z) (take_all i vs l)

pub code_components : (g : Graph) (t : Trail) (of : List ℕ) (vs : List Visit) (count : ℕ) → IsGraph g → Holds g [] t → length t.path ≡ 0 → ((x : ℕ) → x < length g → visit_of t.visits x ≡ Unvisited → ⊥) → vs ≡ t.visits → of ≡ map number vs → count ≡ t.count → AreComponents g count of
code_components g t of vs count closed h e seen p q c =
    let is : of ≡ map number t.visits = q ∙ ap (λ z. map number z) p in
    subst (λ z. AreComponents g z of) (sym c) (all_numbered g t of closed h e seen (ap length is ∙ length-map t.visits number) (λ x. ap (λ z. at z x) is ∙ numbers_read t.visits x))
