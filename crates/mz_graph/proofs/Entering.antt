-- A node steps onto the path.
use Rattle.std.proofs.Common.{◌≡◌, ℕ, zero, suc, ◌+◌, ◌-◌, ◌<◌, ◌≤◌, inl, inr, List, [], ◌∷◌, refl, ap, sym, ◌∙◌, subst, arith, length, set}
use Rattle.std.proofs.lemmas.List.{length-set}
use Rattle.mz_graph.specs.Graph.{Graph, heads, IsIn, Edge, Path, arrived}
use Rattle.mz_graph.specs.declared.search.Visit.{Visit}
use Rattle.mz_graph.specs.declared.search.Visit.TheVariants.{Unvisited, OnPath, Numbered}
use Rattle.mz_graph.specs.StepsSearch.{Trail, visit_of, at, IsCovered, by_number, by_path, by_work, by_hand, IsPath, AreParts, Holds, AllReach, unvisited, left, IsNew, StayVisited, entered}
use Rattle.mz_graph.proofs.Membership.{below_or_not, same_or_not, in_at, place_of, one_longer, both_long, item_in_front, item_in_back, last_item, front_or_last}
use Rattle.mz_graph.proofs.Visits.{path_is_visited, number_is_visited, path_or_number, one_place, two_nodes, visit_kept, visit_now, stay_visited}

-- before the first node

pub nothing_visited : (g : Graph) (t : Trail) → IsNew (length g) t → Holds g [] t
nothing_visited g t f =
    let no_path : length t.path ≡ 0 = ap length f.path in
    let no_work : length t.work ≡ 0 = ap length f.work in
    let no_starts : length t.starts ≡ 0 = ap length f.starts in
    record {
      path = record {
        sized = f.sized;
        on_path = λ p h. absurd (omega (arith, no_path, h));
        placed = λ x p e. absurd (path_is_visited p (sym e ∙ f.visits x));
        numbers = λ x c e. absurd (number_is_visited c (sym e ∙ f.visits x));
        falls = λ x c y e u. absurd (number_is_visited c (sym e ∙ f.visits x));
        connected = λ x y c e d. absurd (number_is_visited c (sym e ∙ f.visits x));
        onwards = λ p q l h. absurd (omega (arith, no_path, h));
      };
      parts = record {
        paired = ap length f.floors ∙ sym no_starts;
        tails = λ k h. absurd (omega (arith, no_work, h));
        back = λ i q h k b. absurd (omega (arith, no_starts, h));
        rises = λ i j l h. absurd (omega (arith, no_starts, h));
        inside = λ i h. absurd (omega (arith, no_starts, h));
        above = λ i h. absurd (omega (arith, no_starts, h));
        begins = λ h. absurd (omega (arith, no_path, h));
      };
      covered = λ i q y h l k u. absurd (omega (arith, no_starts, h));
    }

module _ (g : Graph) (t : Trail) (x : ℕ) (was : IsPath g t.visits t.path t.count) (counted : x < length g) (fresh : visit_of t.visits x ≡ Unvisited) where
  mine : visit_of (entered g x t).visits x ≡ OnPath (length t.path)
  mine = let h = was.sized in visit_now t.visits x (OnPath (length t.path)) (omega (arith, h, counted))

  other : (y : ℕ) → (y ≡ x → ⊥) → visit_of (entered g x t).visits y ≡ visit_of t.visits y
  other y n = visit_kept t.visits x y (OnPath (length t.path)) n

  still : (y : ℕ) (v : Visit) → (v ≡ Unvisited → ⊥) → visit_of t.visits y ≡ v → visit_of (entered g x t).visits y ≡ v
  still y v n e = other y (two_nodes t.visits y x v Unvisited e fresh n) ∙ e

  on_top : at (entered g x t).path (length t.path) ≡ x
  on_top = last_item t.path x (length t.path) refl

  below_top : (q : ℕ) → q < length t.path → at (entered g x t).path q ≡ at t.path q
  below_top q h = item_in_front t.path (x ∷ []) q h

  not_numbered : (y c : ℕ) → y ≡ x → visit_of (entered g x t).visits y ≡ Numbered c → ⊥
  not_numbered y c i e = path_or_number (length t.path) c (sym (ap (λ z. visit_of (entered g x t).visits z) i ∙ mine) ∙ e)

  was_numbered : (y c : ℕ) → visit_of (entered g x t).visits y ≡ Numbered c → visit_of t.visits y ≡ Numbered c
  was_numbered y c e = elim (same_or_not y x) [ inl i ↦ absurd (not_numbered y c i e) | inr n ↦ sym (other y n) ∙ e ]

  entered_path : AllReach g t x → IsPath g (entered g x t).visits (entered g x t).path t.count
  entered_path reach =
      let longer : length (entered g x t).path ≡ length t.path + 1 = one_longer t.path x in
      record {
        sized = length-set t.visits x (OnPath (length t.path)) ∙ was.sized;
        on_path = λ p h. elim (front_or_last t.path x p h) [
          | inl l ↦ subst (λ z. visit_of (entered g x t).visits z ≡ OnPath p) (sym (below_top p l)) (still (at t.path p) (OnPath p) (path_is_visited p) (was.on_path p l))
          | inr e ↦ subst (λ z. visit_of (entered g x t).visits (at (entered g x t).path z) ≡ OnPath z) (sym e) (ap (λ z. visit_of (entered g x t).visits z) on_top ∙ mine)
        ];
        placed = λ y p e. elim (same_or_not y x) [
          | inl i ↦
              let is : p ≡ length t.path = one_place p (length t.path) (sym e ∙ ap (λ z. visit_of (entered g x t).visits z) i ∙ mine) in
              record { within = omega (arith, is, longer); is = ap (λ z. at (entered g x t).path z) is ∙ on_top ∙ sym i }
          | inr n ↦
              let r = was.placed y p (sym (other y n) ∙ e) in
              record { within = omega (arith, r.within, longer); is = below_top p r.within ∙ r.is }
        ];
        numbers = λ y c e. was.numbers y c (was_numbered y c e);
        falls = λ y c w e u.
            let r = was.falls y c w (was_numbered y c e) u in
            record { number = r.number; numbered = still w (Numbered r.number) (number_is_visited r.number) r.numbered; low = r.low };
        connected = λ y w c e d. was.connected y w c (was_numbered y c e) (was_numbered w c d);
        onwards = λ p q l h. elim (front_or_last t.path x q h) [
          | inl b ↦
              let low : p < length t.path = omega (arith, l, b) in
              subst (λ z. Path g z (at (entered g x t).path q)) (sym (below_top p low)) (subst (λ z. Path g (at t.path p) z) (sym (below_top q b)) (was.onwards p q l b))
          | inr e ↦ subst (λ z. Path g (at (entered g x t).path p) (at (entered g x t).path z)) (sym e) (subst (λ z. Path g (at (entered g x t).path p) z) (sym on_top) (elim (below_or_not p (length t.path)) [
            | inl b ↦ subst (λ z. Path g z x) (sym (below_top p b)) (reach p b)
            | inr b ↦ let is : p ≡ length t.path = omega (arith, l, b, e) in subst (λ z. Path g z x) (sym (ap (λ z. at (entered g x t).path z) is ∙ on_top)) arrived
          ]))
        ];
      }

module _ (g : Graph) (t : Trail) (x : ℕ) (was : AreParts g t.path t.work t.starts t.floors) where
  new_start : (i : ℕ) → i ≡ length t.starts → at (entered g x t).starts i ≡ length t.path
  new_start i e = last_item t.starts (length t.path) i e

  new_floor : (i : ℕ) → i ≡ length t.starts → at (entered g x t).floors i ≡ length t.work
  new_floor i e = let h = was.paired in last_item t.floors (length t.work) i (omega (arith, e, h))

  old_start : (i : ℕ) → i < length t.starts → at (entered g x t).starts i ≡ at t.starts i
  old_start i h = item_in_front t.starts (length t.path ∷ []) i h

  old_floor : (i : ℕ) → i < length t.starts → at (entered g x t).floors i ≡ at t.floors i
  old_floor i h = let p = was.paired in item_in_front t.floors (length t.work ∷ []) i (omega (arith, p, h))

  old_work : (k : ℕ) → k < length t.work → at (entered g x t).work k ≡ at t.work k
  old_work k h = item_in_front t.work (heads g x) k h

  top_is : at (entered g x t).path (length t.path) ≡ x
  top_is = last_item t.path x (length t.path) refl

  old_path : (q : ℕ) → q < length t.path → at (entered g x t).path q ≡ at t.path q
  old_path q h = item_in_front t.path (x ∷ []) q h

  entered_parts : AllReach g t x → AreParts g (entered g x t).path (entered g x t).work (entered g x t).starts (entered g x t).floors
  entered_parts reach =
      let n : ℕ = length t.path in
      let m : ℕ = length t.work in
      let longer : length (entered g x t).path ≡ n + 1 = one_longer t.path x in
      let more_starts : length (entered g x t).starts ≡ length t.starts + 1 = one_longer t.starts n in
      let more_floors : length (entered g x t).floors ≡ length t.floors + 1 = one_longer t.floors m in
      let more_work : length (entered g x t).work ≡ m + length (heads g x) = both_long t.work (heads g x) in
      record {
        paired = let h = was.paired in omega (arith, h, more_starts, more_floors);
        tails = λ k h. elim (below_or_not k m) [
          | inl b ↦
              let r = was.tails k b in
              record {
                place = r.place;
                within = omega (arith, r.within, longer);
                edge = subst (λ z. Edge g z (at (entered g x t).work k)) (sym (old_path r.place r.within)) (subst (λ z. Edge g (at t.path r.place) z) (sym (old_work k b)) r.edge);
                after = λ i c l. elim (front_or_last t.starts n i c) [
                  | inl o ↦ let s = old_start i o in let f = old_floor i o in let a = r.after i o (omega (arith, l, f)) in omega (arith, a, s)
                  | inr e ↦ let f = new_floor i e in absurd (omega (arith, f, l, b))
                ];
                before = λ i c l. elim (front_or_last t.starts n i c) [
                  | inl o ↦ let s = old_start i o in let f = old_floor i o in let a = r.before i o (omega (arith, l, f)) in omega (arith, a, s)
                  | inr e ↦ let s = new_start i e in omega (arith, s, r.within)
                ];
              }
          | inr b ↦
              let split : k ≡ m + (k - m) = omega (arith, b) in
              let low : k - m < length (heads g x) = omega (arith, h, more_work, b) in
              record {
                place = n;
                within = omega (arith, longer);
                edge = subst (λ z. Edge g z (at (entered g x t).work k)) (sym top_is) (record { listed = subst (λ z. IsIn z (heads g x)) (sym (item_in_back t.work (heads g x) k (k - m) split)) (in_at (heads g x) (k - m) 0 low) });
                after = λ i c l. elim (front_or_last t.starts n i c) [
                  | inl o ↦ let s = old_start i o in let a = was.inside i o in omega (arith, a, s)
                  | inr e ↦ let s = new_start i e in omega (arith, s)
                ];
                before = λ i c l. elim (front_or_last t.starts n i c) [
                  | inl o ↦ let f = old_floor i o in let a = was.above i o in absurd (omega (arith, a, f, l, b))
                  | inr e ↦ let f = new_floor i e in absurd (omega (arith, f, l, b))
                ];
              }
        ];
        back = λ i q h b f. elim (front_or_last t.starts n i h) [
          | inl o ↦
              let s = old_start i o in
              let inner = was.inside i o in
              let low : q < n = elim (below_or_not (i + 1) (length t.starts)) [
                | inl c ↦ let a = f (omega (arith, more_starts, c)) in let e = old_start (i + 1) c in let r = was.inside (i + 1) c in omega (arith, a, e, r)
                | inr c ↦ let is : i + 1 ≡ length t.starts = omega (arith, c, o) in let a = f (omega (arith, more_starts, o)) in let e = new_start (i + 1) is in omega (arith, a, e)
              ] in
              subst (λ z. Path g z (at (entered g x t).path (at (entered g x t).starts i))) (sym (old_path q low))
              (subst (λ z. Path g (at t.path q) (at (entered g x t).path z)) (sym s)
              (subst (λ z. Path g (at t.path q) z) (sym (old_path (at t.starts i) inner))
              (was.back i q o low (λ c. let a = f (omega (arith, more_starts, c)) in let e = old_start (i + 1) c in omega (arith, a, e)))))
          | inr e ↦ subst (λ z. Path g (at (entered g x t).path q) (at (entered g x t).path z)) (sym (new_start i e)) (subst (λ z. Path g (at (entered g x t).path q) z) (sym top_is) (elim (front_or_last t.path x q b) [
            | inl c ↦ subst (λ z. Path g z x) (sym (old_path q c)) (reach q c)
            | inr c ↦ subst (λ z. Path g z x) (sym (ap (λ z. at (entered g x t).path z) c ∙ top_is)) arrived
          ]))
        ];
        rises = λ i j l h. elim (front_or_last t.starts n j h) [
          | inl o ↦
              let io : i < length t.starts = omega (arith, l, o) in
              let r = was.rises i j l o in
              let a = old_start i io in let b = old_start j o in let c = old_floor i io in let d = old_floor j o in
              record { start = omega (arith, a, b, r.start); floor = omega (arith, c, d, r.floor) }
          | inr e ↦
              let io : i < length t.starts = omega (arith, l, e) in
              let a = old_start i io in let c = old_floor i io in
              let p = was.inside i io in let q = was.above i io in
              let s = new_start j e in let f = new_floor j e in
              record { start = omega (arith, a, p, s); floor = omega (arith, c, q, f) }
        ];
        inside = λ i h. elim (front_or_last t.starts n i h) [
          | inl o ↦ let a = old_start i o in let p = was.inside i o in omega (arith, a, p, longer)
          | inr e ↦ let s = new_start i e in omega (arith, s, longer)
        ];
        above = λ i h. elim (front_or_last t.starts n i h) [
          | inl o ↦ let a = old_floor i o in let p = was.above i o in omega (arith, a, p, more_work)
          | inr e ↦ let f = new_floor i e in omega (arith, f, more_work)
        ];
        begins = λ h. elim (below_or_not 0 (length t.starts)) [
          | inl b ↦ let p = was.inside 0 b in let f = was.begins (omega (arith, p)) in record { some = omega (arith, more_starts); is = old_start 0 b ∙ f.is }
          | inr b ↦
              let is : 0 ≡ length t.starts = omega (arith, b) in
              let none : n ≡ 0 = elim (below_or_not 0 n) [ inl c ↦ let f = was.begins c in let s = f.some in absurd (omega (arith, s, b)) | inr c ↦ omega (arith, c) ] in
              record { some = omega (arith, more_starts); is = new_start 0 is ∙ none }
        ];
      }

pub holds_entered : (g : Graph) (hand : List ℕ) (t : Trail) (x : ℕ) → Holds g hand t → x < length g → visit_of t.visits x ≡ Unvisited → AllReach g t x → ((y : ℕ) → IsIn y hand → y ≡ x) → Holds g [] (entered g x t)
holds_entered g hand t x h counted fresh reach only =
    let n : ℕ = length t.path in
    let m : ℕ = length t.work in
    let more_work : length (entered g x t).work ≡ m + length (heads g x) = both_long t.work (heads g x) in
    let own : (i q y : ℕ) → at (entered g x t).floors i ≤ m → q ≡ n → Edge g (at (entered g x t).path q) y → IsCovered (entered g x t).visits (entered g x t).work [] (at (entered g x t).starts i) (at (entered g x t).floors i) y = λ i q y f e u.
    let p = place_of y (heads g x) (subst (λ z. Edge g z y) (ap (λ z. at (entered g x t).path z) e ∙ top_is g t x h.parts) u).listed in
    by_work (m + p.at) (omega (arith, f)) (omega (arith, more_work, p.within)) (item_in_back t.work (heads g x) (m + p.at) p.at refl ∙ p.is 0) in
    record {
      path = entered_path g t x h.path counted fresh reach;
      parts = entered_parts g t x h.parts reach;
      covered = λ i q y b l k u. elim (front_or_last t.starts n i b) [
        | inl o ↦
            let s = old_start g t x h.parts i o in
            let f = old_floor g t x h.parts i o in
            elim (front_or_last t.path x q k) [
              | inl c ↦
                  subst (λ z. IsCovered (entered g x t).visits (entered g x t).work [] z (at (entered g x t).floors i) y) (sym s) (subst (λ z. IsCovered (entered g x t).visits (entered g x t).work [] (at t.starts i) z y) (sym f)
                  (elim (h.covered i q y o (omega (arith, l, s)) c (subst (λ z. Edge g z y) (old_path g t x h.parts q c) u)) [
                    | by_number d e ↦ by_number d (still g t x h.path counted fresh y (Numbered d) (number_is_visited d) e)
                    | by_path p e a ↦ by_path p (still g t x h.path counted fresh y (OnPath p) (path_is_visited p) e) a
                    | by_work j a w e ↦ by_work j a (omega (arith, more_work, w)) (old_work g t x h.parts j w ∙ e)
                    | by_hand a ↦ by_path n (ap (λ z. visit_of (entered g x t).visits z) (only y a) ∙ mine g t x h.path counted fresh) (let r = h.parts.inside i o in omega (arith, r))
                  ]))
              | inr e ↦ let r = h.parts.above i o in own i q y (omega (arith, f, r)) e u
            ]
        | inr is ↦
            let s = new_start g t x h.parts i is in
            let f = new_floor g t x h.parts i is in
            elim (front_or_last t.path x q k) [
              | inl c ↦ absurd (omega (arith, l, s, c))
              | inr e ↦ own i q y (omega (arith, f)) e u
            ]
      ];
    }

-- the measure

one_visited : (vs : List Visit) (g : Graph) (x p : ℕ) → length vs ≡ length g → x < length vs → visit_of vs x ≡ Unvisited → unvisited (set vs x (OnPath p)) g + (length (heads g x) + 2) ≡ unvisited vs g
one_visited [] g x p e h f = absurd (omega (arith, h))
one_visited (v ∷ vs) [] x p e h f = absurd (omega (arith, e))
one_visited (Unvisited ∷ vs) (hs ∷ g) zero p e h f = omega arith
one_visited (OnPath q ∷ vs) (hs ∷ g) zero p e h f = absurd (path_is_visited q f)
one_visited (Numbered c ∷ vs) (hs ∷ g) zero p e h f = absurd (number_is_visited c f)
one_visited (Unvisited ∷ vs) (hs ∷ g) (suc x) p e h f = let r = one_visited vs g x p (omega (arith, e)) (omega (arith, h)) f in omega (arith, r)
one_visited (OnPath q ∷ vs) (hs ∷ g) (suc x) p e h f = one_visited vs g x p (omega (arith, e)) (omega (arith, h)) f
one_visited (Numbered c ∷ vs) (hs ∷ g) (suc x) p e h f = one_visited vs g x p (omega (arith, e)) (omega (arith, h)) f

pub entered_less : (g : Graph) (hand : List ℕ) (t : Trail) (x : ℕ) → Holds g hand t → x < length g → visit_of t.visits x ≡ Unvisited → left g (entered g x t) < left g t
entered_less g hand t x h counted fresh =
    let s = h.path.sized in
    let a = one_visited t.visits g x (length t.path) s (omega (arith, counted, s)) fresh in
    let b = both_long t.work (heads g x) in
    let c = one_longer t.path x in
    omega (arith, a, b, c)

pub entered_visits : (g : Graph) (hand : List ℕ) (t : Trail) (x : ℕ) → Holds g hand t → x < length g → StayVisited t.visits (entered g x t).visits
entered_visits g hand t x h counted = let s = h.path.sized in stay_visited t.visits x (OnPath (length t.path)) (path_is_visited (length t.path)) (omega (arith, counted, s))

pub entered_is_visited : (g : Graph) (hand : List ℕ) (t : Trail) (x : ℕ) → Holds g hand t → x < length g → visit_of (entered g x t).visits x ≡ Unvisited → ⊥
entered_is_visited g hand t x h counted e = let s = h.path.sized in path_is_visited (length t.path) (sym (visit_now t.visits x (OnPath (length t.path)) (omega (arith, counted, s))) ∙ e)
