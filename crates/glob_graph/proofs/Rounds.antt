-- `circuit`: its cost, its line, and what its term tells.
use Rattle.std.proofs.Common.{◌≡◌, ◌∙◌, ℕ, zero, suc, ◌+◌, ◌*◌, ◌≤◌, ℤ, pos, negsuc, ◌-ℤ◌, int_le, unsigned_abs, Bool, true, false, ◌&&◌, List, [], ◌∷◌, ◌++◌, length, map, slice_get, Option, Some, None, IsSome, inl, inr, refl, sym, ap, subst, if◌then◌else◌, arith}
use Rattle.std.proofs.lemmas.Int.{ints}
use Rattle.std.specs.Option.{option_map}
use Rattle.std.specs.Ordering.{int_eq}
use Rattle.mz_value.specs.Ranges.{Range}
use Rattle.mz_value.specs.Contents as values
use Rattle.mz_index.specs.Places.{length_of, is_inside}
use Rattle.mz_core.specs.declared.types.Base.TheVariants as base
use Rattle.mz_operations.specs.Views.{◌>>=◌}
use Rattle.mz_arena.specs.declared.node.NodeKind.TheVariants as kind
use Rattle.mz_arena.specs.Values.{Term, access_term, as_number, cons_term, is_true}
use Rattle.mz_arena.specs.Values as terms
use Rattle.mz_globals.specs.declared.global.Global.TheVariants as global
use Rattle.mz_globals.specs.Lists.{pairwise}
use Rattle.mz_globals.specs.Order.{all_different}
use Rattle.mz_globals.specs.Reading.{Placed}
use Rattle.mz_globals.specs.Graphs.{nth, element_at, walk, is_round, is_circuit}
use Rattle.mz_globals.specs.Table.{line_of, truth}
use Rattle.mz_symbol.specs.Runs.{Run}
use Rattle.mz_symbol.specs.Readings.{Reading, Reads}
use Rattle.mz_symbol.specs.Symbols.{list_term}
use Rattle.mz_symbol.specs.Makes.{GoesOnBy}
use Rattle.mz_symbol_access.specs.StepsAlone.{IsAlone, IsBeyond, IsReached, is_among}
use Rattle.mz_symbol_access.specs.StepsPlace.{place_term, placed}
use Rattle.mz_symbol_access.proofs.AloneLaws.{only_reaches}
use Rattle.glob_nodes.specs.declared.arguments.Numbers.{Numbers}
use Rattle.glob_nodes.specs.declared.nodes.Compare.TheVariants.{Equal, Differ}
use Rattle.glob_nodes.specs.Arguments.{all_numbers, array_of, array_value, elements, int_symbol, numbers_in, IsWhole}
use Rattle.glob_nodes.specs.Rows.{IsRow, row_cost}
use Rattle.glob_nodes.specs.Says.{Gives, Says, Tells, compares, num, pair_count}
use Rattle.glob_nodes.specs.StepsNodes.{meaning_over}
use Rattle.glob_nodes.proofs.Rows.{found, array_found, at_first, pairs_map, row_by}
use Rattle.glob_nodes.specs.Numbers.{IsNumber}
use Rattle.glob_nodes.proofs.Seen.{head_there, tail_there}
use Rattle.glob_nodes.proofs.Several.{placed_are, placed_of}
use Rattle.glob_nodes.proofs.Squares.{pairs_below}
use Rattle.glob_graph.specs.Walks.{range_of, with_items, values_list, from, onto, IsWalkOf, IsElement, IsNext, IsWalked, IsRound}

-- ---- the list of the elements

pub term_number : (t : Term) (n : ℤ) → as_number t ≡ Some n → t ≡ Some (terms.number n)
term_number None n h = absurd (cc)
term_number (Some (terms.number m)) n h = let e : m ≡ n = cc in ap (λ k. Some (terms.number k)) e
term_number (Some v) n h = absurd (cc)

pub onto_list : (n : ℤ) (ns : List ℤ) → cons_term (Some (terms.number n)) (values_list ns) ≡ values_list (n ∷ ns)
unfolding cons_term
onto_list n [] = refl
onto_list n (m ∷ ms) = refl

listed : (r : Reading) (ids : List ℕ) (ns : List ℤ) → map (num r) ids ≡ map (λ n. Some n) ns → list_term r.term ids ≡ values_list ns
unfolding list_term
listed r [] [] h = refl
listed r [] (n ∷ ns) h = absurd (cc)
listed r (i ∷ is) [] h = absurd (cc)
listed r (i ∷ is) (n ∷ ns) h =
    ap (λ t. cons_term t (list_term r.term is)) (term_number (r.term i) n (head_there (num r i) (map (num r) is) n ns h))
    ∙ ap (cons_term (Some (terms.number n))) (listed r is ns (tail_there (num r i) (map (num r) is) n ns h))
    ∙ onto_list n ns

-- ---- the element at an index

pub number_back : (o : Option ℤ) → as_number (option_map terms.number o) ≡ o
number_back None = refl
number_back (Some n) = refl

taken : (ns : List ℤ) (k : ℕ) → as_number (access_term (Some (terms.number (pos (suc k)))) (values_list ns)) ≡ slice_get ns k
unfolding access_term
taken [] k = refl
taken (n ∷ ns) k = number_back (slice_get (n ∷ ns) k)

none_zero : (ns : List ℤ) → as_number (access_term (Some (terms.number (pos zero))) (values_list ns)) ≡ None
unfolding access_term
none_zero [] = refl
none_zero (n ∷ ns) = refl

none_below : (ns : List ℤ) (k : ℕ) → as_number (access_term (Some (terms.number (negsuc k))) (values_list ns)) ≡ None
unfolding access_term
none_below [] k = refl
none_below (n ∷ ns) k = refl

none_after : (ns : List ℤ) (p : ℕ) → length ns ≤ p → slice_get ns p ≡ None
none_after [] p h = refl
none_after (n ∷ ns) zero h = absurd (omega (arith, h))
none_after (n ∷ ns) (suc p) h = none_after ns p (omega (arith, h))

not_among : (n p : ℕ) → is_among n (pos (suc p)) ≡ false → n ≤ p
not_among n p h = by (int_le (pos 1) (pos (suc p))) refl h
  where
    by : (t : Bool) → int_le (pos 1) (pos (suc p)) ≡ t → (t && int_le (pos (suc p)) (pos n)) ≡ false → n ≤ p
    by true e q = omega (arith, ints, q)
    by false e q = absurd (omega (arith, ints, e))

beyond_none : (ns : List ℤ) (z : Term) → IsBeyond (length ns) (as_number z) → as_number (access_term z (values_list ns)) ≡ None
unfolding access_term
beyond_none ns None b = refl
beyond_none ns (Some (terms.number (pos zero))) b = none_zero ns
beyond_none ns (Some (terms.number (pos (suc p)))) b = taken ns p ∙ none_after ns p (not_among (length ns) p b)
beyond_none ns (Some (terms.number (negsuc k))) b = none_below ns k
beyond_none ns (Some v) b = refl

far_by : (lo hi i : ℤ) (m n : ℕ) (b c d : Bool) → int_le lo hi ≡ b → int_le lo i ≡ c → int_le i hi ≡ d → (if b then unsigned_abs (hi -ℤ lo) + 1 else 0) ≡ n → (c && d) ≡ false → i -ℤ lo ≡ pos m → n ≤ m
far_by lo hi i m n false c d e f g q h k = omega (arith, q)
far_by lo hi i m n true false d e f g q h k = absurd (omega (arith, ints, f, k))
far_by lo hi i m n true true true e f g q h k = absurd (cc)
far_by lo hi i m n true true false e f g q h k = omega (arith, ints, e, g, q, k)

far : (range : Range) (i : ℤ) (m n : ℕ) → length_of range ≡ n → is_inside range i ≡ false → i -ℤ range.0 ≡ pos m → n ≤ m
far range i m n q h k = far_by range.0 range.1 i m n (int_le range.0 range.1) (int_le range.0 i) (int_le i range.1) refl refl refl q h k

nth_none : (k : ℤ) (ns : List ℤ) → ((m : ℕ) → k ≡ pos m → length ns ≤ m) → nth k ns ≡ None
nth_none (pos m) ns f = none_after ns m (f m refl)
nth_none (negsuc m) ns f = refl

element_none : (range : Range) (ns : List ℤ) (i : ℤ) → length_of range ≡ length ns → is_inside range i ≡ false → element_at (with_items range ns) i ≡ None
element_none range ns i c h = nth_none (i -ℤ range.0) ns (λ m k. far range i m (length ns) c h k)

offset_is : (lo hi i : ℤ) → (int_le lo i && int_le i hi) ≡ true → i -ℤ lo ≡ pos (unsigned_abs (i -ℤ lo) * 1 + 0)
offset_is lo hi i h = by (int_le lo i) refl h
  where
    by : (p : Bool) → int_le lo i ≡ p → (p && int_le i hi) ≡ true → i -ℤ lo ≡ pos (unsigned_abs (i -ℤ lo) * 1 + 0)
    by true e k = omega (arith, ints, e)
    by false e k = absurd (cc)

at_place : (range : Range) (ns : List ℤ) (o : Option ℤ) → length_of range ≡ length ns → as_number (access_term (place_term (range ∷ []) (o ∷ [])) (values_list ns)) ≡ (o >>= element_at (with_items range ns))
unfolding access_term
at_place range ns None c = refl
at_place range ns (Some i) c = by (is_inside range i) refl
  where
    by : (t : Bool) → is_inside range i ≡ t → as_number (access_term (place_term (range ∷ []) (Some i ∷ [])) (values_list ns)) ≡ element_at (with_items range ns) i
    by true h =
        ap (λ b. as_number (access_term (option_map (λ k. terms.number (pos (suc k))) (if b then option_map (λ place. unsigned_abs (i -ℤ range.0) * 1 + place) (Some 0) else None)) (values_list ns))) h
        ∙ taken ns (unsigned_abs (i -ℤ range.0) * 1 + 0)
        ∙ sym (ap (λ k. nth k ns) (offset_is range.0 range.1 i h))
    by false h =
        ap (λ b. as_number (access_term (option_map (λ k. terms.number (pos (suc k))) (if b then option_map (λ place. unsigned_abs (i -ℤ range.0) * 1 + place) (Some 0) else None)) (values_list ns))) h
        ∙ sym (element_none range ns i c h)

not_placed : (range : Range) (ns : List ℤ) (o : Option ℤ) → length_of range ≡ length ns → placed (range ∷ []) (o ∷ []) ≡ None → (o >>= element_at (with_items range ns)) ≡ None
not_placed range ns None c h = refl
not_placed range ns (Some i) c h = by (is_inside range i) refl
  where
    by : (t : Bool) → is_inside range i ≡ t → element_at (with_items range ns) i ≡ None
    by true e =
        let two : (if true then option_map (λ place. unsigned_abs (i -ℤ range.0) * 1 + place) (Some 0) else None) ≡ None = sym (ap (λ b. if b then option_map (λ place. unsigned_abs (i -ℤ range.0) * 1 + place) (Some 0) else None) e) ∙ h in
        absurd (cc)
    by false e = element_none range ns i c e

one_more : (n : ℕ) → n * 1 ≡ n
one_more n = omega arith

accessed : (range : Range) (ns : List ℤ) (o : Option ℤ) (z : Term) → length_of range ≡ length ns → IsReached (range ∷ []) (o ∷ []) z → as_number (access_term z (values_list ns)) ≡ (o >>= element_at (with_items range ns))
accessed range ns o z c (inl e) = ap (λ t. as_number (access_term t (values_list ns))) e ∙ at_place range ns o c
accessed range ns o z c (inr e) = beyond_none ns z (subst (λ n. IsBeyond n (as_number z)) (one_more (length_of range) ∙ c) e.1) ∙ sym (not_placed range ns o c e.0)

next_number : (r : Reading) (x : Numbers) (list p id : ℕ) (ns : List ℤ) → length_of (range_of x) ≡ length x.items.items → r.term list ≡ list_term r.term x.items.items → elements r x ≡ map (λ n. Some n) ns → length ns ≡ length x.items.items → IsElement r (range_of x) list p id → num r id ≡ (num r p >>= element_at (with_items (range_of x) ns))
next_number r x list p id ns c l h n e =
    ap as_number e.is
    ∙ ap (λ t. as_number (access_term e.place t)) (l ∙ listed r x.items.items ns h)
    ∙ accessed (range_of x) ns (num r p) e.place (c ∙ sym n) e.reached

pub next_by : (old mid new : Run) (range : Range) (list p place id m : ℕ) → ((r : Reading) → Reads r mid → IsAlone r old mid range p place) → GoesOnBy m mid new → Gives mid new (meaning_over kind.Access place list) id → IsNext old new range list p id
next_by old mid new range list p place id m a goes g = record {
  same = λ r q. (a r (goes.back r q)).same ∙ g.same r q;
  is = λ r q. record { place = r.term place; reached = (only_reaches r old mid range (int_symbol p ∷ []) (int_symbol p) place refl (a r (goes.back r q))).is; is = g.is r q };
}

-- ---- the walk

abbrev consed : ℤ → List ℤ × ℤ → Option (List ℤ × ℤ)
consed i w = Some (i ∷ w.0, w.1)

onto_more : (os ps : List (Option ℤ)) (w : Option (List ℤ × ℤ)) → onto (os ++ ps) w ≡ onto os (onto ps w)
onto_more [] ps w = refl
onto_more (None ∷ os) ps w = refl
onto_more (Some i ∷ os) ps w = ap (λ u. u >>= consed i) (onto_more os ps w)

on_from : (x : Placed ℤ) (m : ℕ) (i : ℤ) (e : Option ℤ) → (e >>= λ j. walk x m j >>= consed i) ≡ (from x m e >>= consed i)
on_from x m i None = refl
on_from x m i (Some j) = refl

walk_on : (x : Placed ℤ) (m : ℕ) (o q : Option ℤ) → q ≡ (o >>= element_at x) → from x (suc m) o ≡ onto (o ∷ []) (from x m q)
walk_on x m None q h = refl
walk_on x m (Some i) q h = on_from x m i (element_at x i) ∙ sym (ap (λ e. from x m e >>= consed i) h)

mapped_there : (n : ℤ) (q : Option (List ℤ)) → IsSome q → IsSome (option_map (λ ns. n ∷ ns) q)
mapped_there n None h = absurd (cc)
mapped_there n (Some ns) h = refl

there_mapped : (n : ℤ) (q : Option (List ℤ)) → IsSome (option_map (λ ns. n ∷ ns) q) → IsSome q
there_mapped n None h = absurd (cc)
there_mapped n (Some ns) h = refl

all_more : (os : List (Option ℤ)) (o : Option ℤ) → IsSome (all_numbers os) → IsSome o → IsSome (all_numbers (os ++ o ∷ []))
all_more [] None h k = absurd (cc)
all_more [] (Some n) h k = refl
all_more (None ∷ os) o h k = absurd (cc)
all_more (Some n ∷ os) o h k = mapped_there n (all_numbers (os ++ o ∷ [])) (all_more os o (there_mapped n (all_numbers os) h) k)

was_there : (x : Placed ℤ) (o q : Option ℤ) → q ≡ (o >>= element_at x) → IsSome q → IsSome o
was_there x None q h k = let no : IsSome (q) = k in absurd (none_some q h k)
  where
    none_some : {A : Type 0} (q : Option ℤ) → q ≡ None → IsSome q → A
    none_some None h k = absurd (cc)
    none_some (Some n) h k = absurd (cc)
was_there x (Some i) q h k = refl

walk_step : (x : Placed ℤ) (n left : ℕ) (os : List (Option ℤ)) (o q : Option ℤ) → IsWalkOf x n os (suc left) o → q ≡ (o >>= element_at x) → IsWalkOf x n (os ++ o ∷ []) left q
walk_step x n left os o q w h = record {
  is = w.is ∙ ap (onto os) (walk_on x left o q h) ∙ sym (onto_more os (o ∷ []) (from x left q));
  there = λ k. (let s = was_there x o q h k in all_more os o (w.there s) s);
}

map_more : {A B : Type 0} (f : A → B) (xs : List A) (x : A) → map f (xs ++ x ∷ []) ≡ map f xs ++ f x ∷ []
map_more f [] x = refl
map_more f (y ∷ xs) x = ap (λ ys. f y ∷ ys) (map_more f xs x)

pub length_more : {A : Type 0} (xs : List A) (x : A) → length (xs ++ x ∷ []) ≡ suc (length xs)
length_more [] x = refl
length_more (y ∷ xs) x = ap suc (length_more xs x)

pub same_length : (r : Reading) (ids : List ℕ) (ns : List ℤ) → map (num r) ids ≡ map (λ n. Some n) ns → length ns ≡ length ids
same_length r [] [] h = refl
same_length r [] (n ∷ ns) h = absurd (cc)
same_length r (i ∷ is) [] h = absurd (cc)
same_length r (i ∷ is) (n ∷ ns) h = ap suc (same_length r is ns (tail_there (num r i) (map (num r) is) n ns h))

pub walk_begins : (old new : Run) (x : Numbers) (list id : ℕ) (ps : List ℕ) → ps ≡ [] → IsNumber old new (λ r. Some x.first) id → IsWalked old new x list ps id
walk_begins old new x list id ps e t = subst (λ is. IsWalked old new x list is id) (sym e) (record {
  left = length x.items.items;
  count = omega arith;
  same = t.same;
  walked = λ r q l ns h. record { is = sym (ap (from (with_items (range_of x) ns) (length x.items.items)) (t.is r q)); there = λ k. refl };
})

-- one step more
pub walk_goes : (old mid new : Run) (x : Numbers) (list p id m : ℕ) (ps qs : List ℕ) → length_of (range_of x) ≡ length x.items.items → IsWalked old mid x list ps p → length ps + 1 ≤ length x.items.items → qs ≡ ps ++ p ∷ [] → GoesOnBy m mid new → IsNext mid new (range_of x) list p id → IsWalked old new x list qs id
walk_goes old mid new x list p id m ps qs c w low e goes s = by w.left w.count (λ r q l ns h. w.walked r q l ns h)
  where
    by : (left : ℕ) → length ps + left ≡ length x.items.items → ((r : Reading) → Reads r mid → r.term list ≡ list_term r.term x.items.items → (ns : List ℤ) → elements r x ≡ map (λ n. Some n) ns → IsWalkOf (with_items (range_of x) ns) (length x.items.items) (map (num r) ps) left (num r p)) → IsWalked old new x list qs id
    by zero n f = absurd (omega (arith, n, low))
    by (suc left) n f = subst (λ is. IsWalked old new x list is id) (sym e) (record {
      left = left;
      count = (let one = length_more ps p in omega (arith, one, n));
      same = λ r q. w.same r (goes.back r q) ∙ s.same r q;
      walked = λ r q l ns h.
          subst (λ os. IsWalkOf (with_items (range_of x) ns) (length x.items.items) os left (num r id)) (sym (map_more (num r) ps p))
          (walk_step (with_items (range_of x) ns) (length x.items.items) left (map (num r) ps) (num r p) (num r id) (f r (goes.back r q) l ns h)
          (next_number r x list p id ns c l h (same_length r x.items.items ns h) (s.is r q)));
    })

-- ---- its end

pub record AreThere (os : List (Option ℤ)) : Type 0 where
  pub numbers : List ℤ
  pub are : os ≡ map (λ n. Some n) numbers

there_are : (os : List (Option ℤ)) → IsSome (all_numbers os) → AreThere os
there_are [] h = record { numbers = []; are = refl }
there_are (None ∷ os) h = absurd (cc)
there_are (Some n ∷ os) h = let rest = there_are os (there_mapped n (all_numbers os) h) in record { numbers = n ∷ rest.numbers; are = ap (λ qs. Some n ∷ qs) rest.are }

abbrev ended : List ℤ → ℤ → Option (List ℤ × ℤ)
ended ns e = Some (ns, e)

onto_there : (ns : List ℤ) (e : ℤ) → onto (map (λ n. Some n) ns) (ended [] e) ≡ ended ns e
onto_there [] e = refl
onto_there (n ∷ ns) e = ap (λ u. u >>= consed n) (onto_there ns e)

onto_none : (os : List (Option ℤ)) → onto os None ≡ None
onto_none [] = refl
onto_none (None ∷ os) = refl
onto_none (Some i ∷ os) = ap (λ u. u >>= consed i) (onto_none os)

swapped : (a b : Bool) → (a && b) ≡ (b && a)
swapped true true = refl
swapped true false = refl
swapped false true = refl
swapped false false = refl

end_told : (x : Placed ℤ) (n : ℕ) (os : List (Option ℤ)) (o : Option ℤ) → IsWalkOf x n os 0 o → (compares Equal o (Some x.indices.0) && pairwise (λ a b. compares Differ a b) os) ≡ is_round x.indices.0 (walk x n x.indices.0)
end_told x n os None w = sym (ap (is_round x.indices.0) (w.is ∙ onto_none os))
end_told x n os (Some e) w =
    let t = there_are os (w.there refl) in
    ap (λ qs. int_eq e x.indices.0 && pairwise (λ a b. compares Differ a b) qs) t.are
    ∙ ap (λ b. int_eq e x.indices.0 && b) (sym (pairs_map (λ a b. compares Differ a b) (λ n. Some n) t.numbers))
    ∙ swapped (int_eq e x.indices.0) (all_different t.numbers)
    ∙ sym (ap (is_round x.indices.0) (w.is ∙ ap (λ qs. onto qs (ended [] e)) t.are ∙ onto_there t.numbers e))

none_left : (ps : List ℕ) (x : Numbers) (left : ℕ) → length ps + left ≡ length x.items.items → length ps ≡ length x.items.items → left ≡ 0
none_left ps x left h k = omega (arith, h, k)

pub round_told : (old m1 m2 new : Run) (x : Numbers) (list end id n k : ℕ) (ps : List ℕ)
    → GoesOnBy n m1 m2
    → GoesOnBy k m2 new
    → Gives old m1 (λ r. list_term r.term x.items.items) list
    → IsWalked m1 m2 x list ps end
    → length ps ≡ length x.items.items
    → Tells m2 new (λ r. compares Equal (num r end) (Some x.first) && pairwise (λ a b. compares Differ (num r a) (num r b)) ps) id
    → IsRound old new x id
round_told old m1 m2 new x list end id n k ps walks goes g w long t = record {
  same = λ r q. g.same r (walks.back r (goes.back r q)) ∙ w.same r (goes.back r q) ∙ t.same r q;
  tells = λ r q ns h.
      let s = subst (λ left. IsWalkOf (with_items (range_of x) ns) (length x.items.items) (map (num r) ps) left (num r end)) (none_left ps x w.left w.count long) (w.walked r (goes.back r q) (g.is r (walks.back r (goes.back r q))) ns h) in
      t.tells r q
      ∙ ap (λ b. compares Equal (num r end) (Some x.first) && b) (pairs_map (λ a b. compares Differ a b) (num r) ps)
      ∙ end_told (with_items (range_of x) ns) (length x.items.items) (map (num r) ps) (num r end) s
      ∙ ap (λ m. is_round x.first (walk (with_items (range_of x) ns) m x.first)) (sym (same_length r x.items.items ns h));
}

-- ---- the row

abbrev has_circuit : Range → List ℤ → Bool
has_circuit range ns = is_circuit (with_items range ns)

circuit_found : (range : Range) (o : Option (List ℤ)) → truth (placed_of range o >>= λ x. Some (is_circuit x)) ≡ Some (values.bool (found (has_circuit range) o))
circuit_found range None = refl
circuit_found range (Some ns) = refl

circuit_line : (range : Range) (o : Option (List ℤ)) → (line_of global.Circuit).value (array_of range o ∷ []) ≡ Some (values.bool (found (has_circuit range) o))
unfolding line_of
circuit_line range o = ap (λ p. truth (p >>= λ x. Some (is_circuit x))) (placed_are (array_of range o ∷ []) 0 range o (at_first (array_of range o) [])) ∙ circuit_found range o

pub circuit_row : (old mid new : Run) (x : Numbers) (body id n m : ℕ)
    → IsWhole old x
    → GoesOnBy n old mid
    → IsRound old mid x body
    → GoesOnBy m mid new
    → Says mid new (λ r. is_true (r.term x.defined) && is_true (r.term body)) id
    → IsRow base.Bool old new global.Circuit (λ r. array_value r x ∷ []) id
circuit_row old mid new x body id n m whole before t goes s =
    row_by old new global.Circuit (λ r. array_value r x ∷ []) (λ r. is_true (r.term x.defined) && is_true (r.term body)) id
    (λ r q. ap (λ p. Some (values.bool p)) (array_found (is_true (r.term x.defined)) (elements r x) (is_true (r.term body)) (has_circuit (range_of x)) (whole r (before.back r (goes.back r q))) (λ ns h. t.tells r (goes.back r q) ns h)) ∙ sym (circuit_line (range_of x) (numbers_in r x)))
    (record { same = λ r q. t.same r (goes.back r q) ∙ s.same r q; is = s.is; tells = s.tells })

-- ---- the cost

square_more : (n : ℕ) → 64 * suc (suc n) ≤ 44 * (suc (suc n) * suc (suc n))
square_more n = grind arith

linear_below : (n : ℕ) → 64 * n ≤ 38 + 44 * (n * n)
linear_below zero = omega arith
linear_below (suc zero) = omega arith
linear_below (suc (suc n)) = let more = square_more n in omega (arith, more)

in_all : (n : ℕ) → 64 * n + 12 * (n * n) + 12 + 6 ≤ 56 * (1 + (0 + n) * (0 + n))
in_all n = let less = linear_below n in omega (arith, less)

pub circuit_cost : (xs : List ℕ) → 64 * length xs + 12 * (length xs * length xs) + 12 + 6 ≤ 56 * row_cost global.Circuit (length xs ∷ [])
unfolding line_of
circuit_cost xs = in_all (length xs)

pub closed_cost : (ps xs : List ℕ) → length ps ≡ length xs → 12 * pair_count ps + 12 ≤ 12 * (length xs * length xs) + 12
closed_cost ps xs h = let most = pairs_below ps (length xs) (omega (arith, h)) in omega (arith, most)
