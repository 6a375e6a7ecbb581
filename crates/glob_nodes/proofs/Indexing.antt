-- Elements beside their indices, one place more.
use Rattle.std.proofs.Common.{◌≡◌, ◌∙◌, ℕ, zero, suc, ◌+◌, ◌<◌, ◌≤◌, ℤ, pos, ◌+ℤ◌, Bool, List, [], ◌∷◌, ◌++◌, length, drop, map, slice_index_or, Option, Some, refl, sym, ap, subst, arith, append-nil}
use Rattle.std.specs.List.{list_all}
use Rattle.mz_value.specs.Ranges.{Range}
use Rattle.mz_globals.specs.Lists.{numbered}
use Rattle.mz_globals.specs.Reading.{is_index}
use Rattle.mz_symbol.specs.Runs.{Run}
use Rattle.mz_symbol.specs.Readings.{Reading, Reads}
use Rattle.mz_symbol.specs.Makes.{GoesOnBy}
use Rattle.glob_nodes.specs.Says.{num}
use Rattle.glob_nodes.proofs.Telling.{goes_more, drop_at}
use Rattle.glob_nodes.specs.Numbers.{IsNumber}
use Rattle.glob_nodes.specs.Places.{Place, lies_within, indexed, known, AreNumbered, AreNumberedSoFar}
use Rattle.glob_nodes.proofs.IntegerNodes.{stays}
use Rattle.glob_nodes.proofs.Rows.{all_map}
use Rattle.glob_nodes.proofs.Seen.{both, both_first, both_second, both_same, cons_same, head_there, tail_there, all_seen}

pub numbering_begins : (s : Run) (first : ℤ) (items : List ℕ) (ps : List (ℕ × ℕ)) → ps ≡ [] → AreNumberedSoFar s s first first items items ps
numbering_begins s first items ps h = subst (λ us. AreNumberedSoFar s s first first items items us) (sym h) (record { goes = stays 0 s; same = λ r q. refl; count = omega arith; are = λ r q. refl })

map_after : {A B : Type 0} (f : A → B) (ps : List A) (p : A) (zs : List B) → map f (ps ++ p ∷ []) ++ zs ≡ map f ps ++ f p ∷ zs
map_after f [] p zs = refl
map_after f (q ∷ ps) p zs = ap (λ ys. f q ∷ ys) (map_after f ps p zs)

place_same : (o : Option ℤ) (i : ℤ) (x : ℕ) → o ≡ Some i → ◌≡◌ {A = Place} (o, x) (Some i, x)
place_same o i x h = ap {B = Place} (λ o. (o, x)) h

one_longer : {A : Type 0} (ps : List A) (p : A) → length (ps ++ p ∷ []) ≡ suc (length ps)
one_longer [] p = refl
one_longer (q ∷ ps) p = ap (λ n. suc n) (one_longer ps p)

moved : (a b : ℕ) → suc a + b ≡ a + suc b
moved a b = omega arith

pub numbering_goes : (old mid new : Run) (first i j : ℤ) (all rest : List ℕ) (x id : ℕ) (ps qs : List (ℕ × ℕ)) → AreNumberedSoFar old mid first i all (x ∷ rest) ps → GoesOnBy 0 mid new → IsNumber mid new (λ r. Some i) id → j ≡ i +ℤ pos 1 → qs ≡ ps ++ (id, x) ∷ [] → AreNumberedSoFar old new first j all rest qs
numbering_goes old mid new first i j all rest x id ps qs t goes s e b = record {
  goes = goes_more 0 0 0 old mid new (omega arith) t.goes goes;
  same = λ r q. t.same r (goes.back r q) ∙ s.same r q;
  count = ap (λ us. length us + length rest) b ∙ ap (λ n. n + length rest) (one_longer ps (id, x)) ∙ moved (length ps) (length rest) ∙ t.count;
  are = λ r q.
      ap (λ us. map (indexed r) us ++ map known (numbered j rest)) b
      ∙ map_after (indexed r) ps (id, x) (map known (numbered j rest))
      ∙ ap (λ (p : Place). map (indexed r) ps ++ p ∷ map known (numbered j rest)) (place_same (num r id) i x (s.is r q))
      ∙ ap (λ k. map (indexed r) ps ++ known (i, x) ∷ map known (numbered k rest)) e
      ∙ t.are r (goes.back r q);
}

pub numbering_ends : (old new : Run) (first i : ℤ) (all : List ℕ) (ps : List (ℕ × ℕ)) → AreNumberedSoFar old new first i all [] ps → AreNumbered old new first all ps
numbering_ends old new first i all ps t = record { same = t.same; count = ends (length ps) (length all) t.count; are = λ r q. sym (append-nil (map (indexed r) ps)) ∙ t.are r q }
  where
    ends : (a b : ℕ) → a + 0 ≡ b → a ≡ b
    ends a b h = omega (arith, h)

pub next_of : (items : List ℕ) (k : ℕ) → k < length items → drop k items ≡ slice_index_or items k 0 ∷ drop (suc k) items
next_of items k h = drop_at 0 (slice_index_or items k 0) items k h refl

pub numbering_step : (old mid new : Run) (first i j : ℤ) (all : List ℕ) (k l id : ℕ) (ps qs : List (ℕ × ℕ)) → AreNumberedSoFar old mid first i all (drop k all) ps → k < length all → l ≡ suc k → GoesOnBy 0 mid new → IsNumber mid new (λ r. Some i) id → j ≡ i +ℤ pos 1 → qs ≡ ps ++ (id, slice_index_or all k 0) ∷ [] → AreNumberedSoFar old new first j all (drop l all) qs
numbering_step old mid new first i j all k l id ps qs t low after goes s e b =
    subst (λ n. AreNumberedSoFar old new first j all (drop n all) qs) (sym after)
    (numbering_goes old mid new first i j all (drop (suc k) all) (slice_index_or all k 0) id ps qs (subst (λ us. AreNumberedSoFar old mid first i all us ps) (next_of all k low) t) goes s e b)

pub numbering_whole : (old new : Run) (first i : ℤ) (all : List ℕ) (k : ℕ) (ps : List (ℕ × ℕ)) → AreNumberedSoFar old new first i all (drop k all) ps → length all ≤ k → AreNumbered old new first all ps
numbering_whole old new first i all k ps t high = numbering_ends old new first i all ps (subst (λ us. AreNumberedSoFar old new first i all us ps) (dropped all k high) t)
  where
    dropped : (xs : List ℕ) (k : ℕ) → length xs ≤ k → drop k xs ≡ []
    dropped [] zero h = refl
    dropped [] (suc k) h = refl
    dropped (x ∷ xs) zero h = absurd (omega (arith, h))
    dropped (x ∷ xs) (suc k) h = dropped xs k (omega (arith, h))

-- ---- what is told of them

-- of the nodes of the indices, of the indices
pub all_numbered : (old new : Run) (first : ℤ) (items : List ℕ) (ps : List (ℕ × ℕ)) (r : Reading) (q : Place → Bool) → AreNumbered old new first items ps → Reads r new → list_all (λ p. q (indexed r p)) ps ≡ list_all (λ p. q (known p)) (numbered first items)
all_numbered old new first items ps r q t h = all_map q (indexed r) ps ∙ ap (list_all q) (t.are r h) ∙ sym (all_map q known (numbered first items))

pub all_like : {A : Type 0} (p q : A → Bool) (xs : List A) → ((x : A) → p x ≡ q x) → list_all p xs ≡ list_all q xs
all_like p q [] e = refl
all_like p q (x ∷ xs) e = both_same (p x) (list_all p xs) (q x) (list_all q xs) (e x) (all_like p q xs e)

-- an index, and what an element is
abbrev pub place_seen : Reading → ℤ × ℕ → Option (ℤ × ℤ)
place_seen r p = both (Some p.0) (num r p.1)

pub numbered_seen : (r : Reading) (first : ℤ) (items : List ℕ) (ns : List ℤ) → map (num r) items ≡ map (λ n. Some n) ns → map (place_seen r) (numbered first items) ≡ map (λ n. Some n) (numbered first ns)
numbered_seen r first [] [] h = refl
numbered_seen r first [] (n ∷ ns) h = absurd (cc)
numbered_seen r first (x ∷ xs) [] h = absurd (cc)
numbered_seen r first (x ∷ xs) (n ∷ ns) h =
    cons_same (both (Some first) (num r x)) (Some (first, n)) (map (place_seen r) (numbered (first +ℤ pos 1) xs)) (map (λ n. Some n) (numbered (first +ℤ pos 1) ns))
    (ap (both (Some first)) (head_there (num r x) (map (num r) xs) n ns h))
    (numbered_seen r (first +ℤ pos 1) xs ns (tail_there (num r x) (map (num r) xs) n ns h))

-- the index and the element of a place that is there
pub index_seen : (r : Reading) (p : ℤ × ℕ) (v : ℤ × ℤ) → place_seen r p ≡ Some v → Some p.0 ≡ Some v.0
index_seen r p v h = both_first (Some p.0) (num r p.1) v h

pub element_seen : (r : Reading) (p : ℤ × ℕ) (v : ℤ × ℤ) → place_seen r p ≡ Some v → num r p.1 ≡ Some v.1
element_seen r p v h = both_second (Some p.0) (num r p.1) v h

-- integers that lie in a range
pub within_seen : (r : Reading) (range : Range) (ids : List ℕ) (ns : List ℤ) → map (num r) ids ≡ map (λ n. Some n) ns → list_all (λ x. lies_within range (num r x)) ids ≡ list_all (is_index range) ns
within_seen r range ids ns h = all_seen (num r) (λ x. lies_within range (num r x)) (is_index range) ids ns (λ x v i. ap (lies_within range) i) h
