-- One more declaration or function, whose types are taken from a table.
use Rattle.std.proofs.Common.{◌≡◌, ◌∙◌, ℕ, zero, suc, ◌+◌, ◌≤◌, ◌⊎◌, inl, inr, ⊎_elim, false, List, [], ◌∷◌, ◌++◌, Option, Some, None, Bor, map, drop, length, refl, ap, sym, subst, append_assoc, append-nil, arith}
use Rattle.std.specs.Prelude.{nat_eq, slice_get}
use Rattle.std.specs.Slice.{IsItemAt}
use Rattle.std.proofs.lemmas.Option.{slice_get_past}
use Rattle.std.proofs.lemmas.Bool.{ne_eqb}
use Rattle.std.proofs.lemmas.List.{length-map}
use Rattle.mz_check_meaning.specs.Tests.{Test}
use Rattle.mz_check_meaning.specs.Models.{entry_of}
use Rattle.mz_check.specs.StepsTaking.{at_number, from_number}

-- what is left of a list from a number on, by the element there
pub record IsPast {A : Type 0} (ds : List A) (k : ℕ) : Type 0 where
  pub none_left : drop k ds ≡ []
  pub none_there : slice_get ds k ≡ None
  pub none_after : drop (k + 1) ds ≡ []

pub record IsThere {A : Type 0} (ds : List A) (k : ℕ) : Type 0 where
  pub item : A
  pub left : drop k ds ≡ item ∷ drop (k + 1) ds
  pub there : slice_get ds k ≡ Some item

none_dropped : {A : Type 0} (n : ℕ) → drop {A = A} n [] ≡ []
none_dropped zero = refl
none_dropped (suc n) = refl

later : (k : ℕ) → suc k + 1 ≡ suc (k + 1)
later k = omega arith

past_or_there : {A : Type 0} (ds : List A) (k : ℕ) → IsPast ds k ⊎ IsThere ds k
past_or_there [] k = inl (record { none_left = none_dropped k; none_there = refl; none_after = none_dropped (k + 1) })
past_or_there (d ∷ ds) zero = inr (record { item = d; left = refl; there = refl })
past_or_there (d ∷ ds) (suc k) = ⊎_elim
    (λ p. inl (record { none_left = p.none_left; none_there = p.none_there; none_after = ap (λ n. drop n (d ∷ ds)) (later k) ∙ p.none_after }))
    (λ t. inr (record { item = t.item; left = t.left ∙ ap (λ n. t.item ∷ drop n (d ∷ ds)) (sym (later k)); there = t.there }))
    (past_or_there ds k)

module _ {T D V R : Type 0} (by : Option (Test T) → ℕ → D → V → List R) where
  none_from : (ts : List (ℕ × Test T)) (k : ℕ) (vs : List V) → from_number by ts k [] vs ≡ []
  unfolding from_number
  none_from ts k vs = refl

  some_from : (ts : List (ℕ × Test T)) (k : ℕ) (d : D) (ds : List D) (v : V) (vs : List V) → from_number by ts k (d ∷ ds) (v ∷ vs) ≡ by (entry_of k ts) k d v ++ from_number by ts (k + 1) ds vs
  unfolding from_number
  some_from ts k d ds v vs = refl

  next_from : (ts : List (ℕ × Test T)) (k : ℕ) (ds : List D) (v : V) (vs : List V) → from_number by ts k (drop k ds) (v ∷ vs) ≡ at_number by ts k (slice_get ds k) v ++ from_number by ts (k + 1) (drop (k + 1) ds) vs
  next_from ts k ds v vs = ⊎_elim
      (λ p.
      ap (λ (es : List D). from_number by ts k es (v ∷ vs)) p.none_left
      ∙ none_from ts k (v ∷ vs)
      ∙ sym (none_from ts (k + 1) vs)
      ∙ ap (λ (es : List D). from_number by ts (k + 1) es vs) (sym p.none_after)
      ∙ ap (λ (o : Option D). at_number by ts k o v ++ from_number by ts (k + 1) (drop (k + 1) ds) vs) (sym p.none_there))
      (λ t.
      ap (λ (es : List D). from_number by ts k es (v ∷ vs)) t.left
      ∙ some_from ts k t.item (drop (k + 1) ds) v vs
      ∙ ap (λ (o : Option D). at_number by ts k o v ++ from_number by ts (k + 1) (drop (k + 1) ds) vs) (sym t.there))
      (past_or_there ds k)

  same_entry : (ts us : List (ℕ × Test T)) (k : ℕ) (o : Option D) (v : V) → entry_of k us ≡ entry_of k ts → at_number by us k o v ≡ at_number by ts k o v
  same_entry ts us k None v e = refl
  same_entry ts us k (Some d) v e = ap (λ (t : Option (Test T)). by t k d v) e

  -- what is made of the first ones, and the table as it is then
  pub record AreMade (ts us : List (ℕ × Test T)) (ds : List D) (vs rest : List V) (k : ℕ) (all : List R) : Type 0 where
    pub built : from_number by ts 0 ds vs ≡ all ++ from_number by ts k (drop k ds) rest
    pub kept : (n : ℕ) → k ≤ n → entry_of n us ≡ entry_of n ts
    pub counted : k + length rest ≡ length vs

  pub none_made : (ts : List (ℕ × Test T)) (ds : List D) (vs : List V) → AreMade ts ts ds vs vs 0 []
  none_made ts ds vs = record { built = refl; kept = λ n l. refl; counted = omega arith }

  pub one_made : (ts us next : List (ℕ × Test T)) (ds : List D) (vs rest : List V) (k : ℕ) (all more : List R) (v : V) → AreMade ts us ds vs (v ∷ rest) k all
      → more ≡ all ++ at_number by us k (slice_get ds k) v → ((n : ℕ) → nat_eq k n ≡ false → entry_of n next ≡ entry_of n us) → AreMade ts next ds vs rest (k + 1) more
  one_made ts us next ds vs rest k all more v m made others = record {
    built = m.built
        ∙ ap (λ rs. all ++ rs) (next_from ts k ds v rest)
        ∙ sym (append_assoc all (at_number by ts k (slice_get ds k) v) (from_number by ts (k + 1) (drop (k + 1) ds) rest))
        ∙ ap (λ rs. rs ++ from_number by ts (k + 1) (drop (k + 1) ds) rest) (sym (made ∙ ap (λ rs. all ++ rs) (same_entry ts us k (slice_get ds k) v (m.kept k (omega arith)))));
    kept = λ n l. others n (ne_eqb k n (λ e. absurd (omega (arith, e, l)))) ∙ m.kept n (omega (arith, l));
    counted = let c = m.counted in omega (arith, c);
  }

  nothing_left : (ts : List (ℕ × Test T)) (k : ℕ) (ds : List D) → from_number by ts k ds [] ≡ []
  unfolding from_number
  nothing_left ts k [] = refl
  nothing_left ts k (d ∷ ds) = refl

  pub all_made : (ts us : List (ℕ × Test T)) (ds : List D) (vs : List V) (k : ℕ) (all : List R) → AreMade ts us ds vs [] k all → all ≡ from_number by ts 0 ds vs
  all_made ts us ds vs k all m = sym (m.built ∙ ap (λ rs. all ++ rs) (nothing_left ts k (drop k ds)) ∙ append-nil all)

  -- ---- the same, by a list of the code whose elements are taken one after the other

  module _ {A : Type 0} (see : A → V) (ts : List (ℕ × Test T)) (ds : List D) (values : List A) where
    pub made_at_first : (rest : List A) (all : List R) → rest ≡ values → all ≡ [] → AreMade ts ts ds (map see values) (map see rest) 0 all
    made_at_first rest all is empty =
        subst (λ (rs : List R). AreMade ts ts ds (map see values) (map see rest) 0 rs) (sym empty)
        (subst (λ (xs : List A). AreMade ts ts ds (map see values) (map see xs) 0 []) (sym is) (none_made ts ds (map see values)))

    pub made_next : (us next : List (ℕ × Test T)) (rest more : List A) (k : ℕ) (all extended : List R) (x : A) → AreMade ts us ds (map see values) (map see rest) k all → rest ≡ x ∷ more
        → extended ≡ all ++ at_number by us k (slice_get ds k) (see x) → ((n : ℕ) → nat_eq k n ≡ false → entry_of n next ≡ entry_of n us) → AreMade ts next ds (map see values) (map see more) (k + 1) extended
    made_next us next rest more k all extended x m is made others =
        one_made ts us next ds (map see values) (map see more) k all extended (see x)
        (subst (λ (xs : List A). AreMade ts us ds (map see values) (map see xs) k all) is m) made others

    pub made_at_last : (us : List (ℕ × Test T)) (rest : List A) (k : ℕ) (all : List R) → AreMade ts us ds (map see values) (map see rest) k all → rest ≡ [] → all ≡ from_number by ts 0 ds (map see values)
    made_at_last us rest k all m is = all_made ts us ds (map see values) k all (subst (λ (xs : List A). AreMade ts us ds (map see values) (map see xs) k all) is m)

-- the number of one more element fits where the length of the list does
pub next_fits : {A V : Type 0} (see : A → V) (all rest more : List A) (k : ℕ) (x : A) → k + length (map see rest) ≡ length (map see all) → rest ≡ x ∷ more → k + 1 ≤ length all
next_fits see all rest more k x counted is =
    let there = length-map all see in
    let left = length-map rest see in
    let split : length rest ≡ suc (length more) = ap length is in
    omega (arith, counted, there, left, split)

none_case : {A B : Type 0} (f : A → B) (xs : List A) (k : ℕ) → IsItemAt xs k None → slice_get (map f xs) k ≡ None
none_case f xs k item = let past = item.3 in let l = length-map xs f in slice_get_past (map f xs) k (omega (arith, past, l))

-- where a list lends nothing, there is nothing
pub none_lent : {A B : Type 0} (f : A → B) (xs : List A) (k : ℕ) (r : Option (Bor A)) → IsItemAt xs k r → r ≡ None → slice_get (map f xs) k ≡ None
none_lent {A} f xs k r item is = none_case f xs k (subst (λ (o : Option (Bor A)). IsItemAt xs k o) is item)

-- and nothing is added
pub nothing_added : {T D V R : Type 0} (by : Option (Test T) → ℕ → D → V → List R) (ts : List (ℕ × Test T)) (k : ℕ) (o : Option D) (v : V) (all : List R) → o ≡ None → all ≡ all ++ at_number by ts k o v
nothing_added {D = D} by ts k o v all none = sym (append-nil all) ∙ ap (λ (p : Option D). all ++ at_number by ts k p v) (sym none)
