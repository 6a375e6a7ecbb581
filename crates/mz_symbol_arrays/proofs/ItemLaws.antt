-- Elements with the values of symbols.
use Rattle.std.proofs.Common.{◌≡◌, ◌∙◌, ℕ, ℤ, pos, Bool, true, false, ◌&&◌, List, [], Option, Some, None, IsSome, refl, sym, ap, subst, arith, if◌then◌else◌}
use Rattle.std.proofs.lemmas.Int.{ints}
use Rattle.std.specs.Option.{option_map}
use Rattle.std.specs.Ordering.{int_eq}
use Rattle.mz_value.specs.Ranges.{Range, cardinality}
use Rattle.mz_value.specs.Contents.{Content}
use Rattle.mz_value.specs.Contents as values
use Rattle.mz_core.specs.declared.types.Base.{Base}
use Rattle.mz_core.specs.declared.types.Base.TheVariants as base
use Rattle.mz_operations.specs.Views.{◌>>=◌}
use Rattle.mz_arena.specs.Entries.{Entry}
use Rattle.mz_arena.specs.Values.{Term, number, as_number, as_set, bit, holds, is_one, is_true, and_term, card_term, comparison_term, if_term}
use Rattle.mz_symbol.specs.Symbols.{content_by, value_by}
use Rattle.mz_symbol.specs.declared.types.Symbol.{Symbol}
use Rattle.mz_symbol.specs.Runs.{ReadsNodes, Run}
use Rattle.mz_symbol.specs.Readings.{Reading, Reads, state_of}
use Rattle.mz_symbol.specs.Makes.{GoesOnBy}
use Rattle.mz_symbol.specs.Arguments.{as_argument}
use Rattle.mz_symbol_rows.specs.RowValues.{is_single}
use Rattle.mz_symbol_rows.proofs.RowLaws.{truth_is, bit_true}
use Rattle.mz_symbol_arrays.specs.StepsArrays.{symbol_of, is_number_base, is_set_sort, both_true, Fills, IsFilled, IsItemFor, MakesItem, Settles}
use Rattle.mz_symbol_arrays.specs.Sure.{IsSure}

pub single_number : (b : Base) → is_number_base b ≡ true → is_single b ≡ true
single_number base.Int h = refl
single_number (base.Enum e) h = refl
single_number b h = absurd (cc)

pub single_bool : (b : Base) → b ≡ base.Bool → is_single b ≡ true
single_bool b h = ap is_single h

-- ---- truth values

twice : (p : Bool) → (p && p) ≡ p
twice true = refl
twice false = refl

never_false : (u : Term) → bit true ≡ u → is_true u ≡ false → true ≡ false
never_false u e h = ap is_true e ∙ h

bool_some : (o : Option ℤ) → IsSome o → IsSome (option_map (λ n. content_by base.Bool n []) o)
bool_some None h = absurd (cc)
bool_some (Some n) h = refl

bool_told : (o : Option ℤ) → IsSome o → option_map (λ n. content_by base.Bool n []) o ≡ Some (values.bool (is_one o))
bool_told None h = absurd (cc)
bool_told (Some n) h = refl

pub truth_made : (t : ℕ → Term) (b : Base) (x term one : ℕ) → b ≡ base.Bool → is_true (t term) ≡ is_true (t x) → IsSome (as_number (t term)) → bit true ≡ t one → IsItemFor t (symbol_of b None x) (symbol_of b None term) one
truth_made t b x term one h e s f = subst (λ (c : Base). IsItemFor t (symbol_of c None x) (symbol_of c None term) one) (sym h) by
  where
    by : IsItemFor t (symbol_of base.Bool None x) (symbol_of base.Bool None term) one
    by = record {
      there = λ q. record {
        item = record { value = bool_some (as_number (t term)) s; occurs = tt };
        value = bool_told (as_number (t term)) s ∙ ap (λ p. Some (values.bool p)) (e ∙ sym (truth_is (t x)));
      };
      gone = λ q. let clash : true ≡ false = never_false (t one) f q in absurd (cc);
    }

-- ---- nodes that are there

pub goes_nothing : (n : ℕ) (s : Run) → GoesOnBy n s s
goes_nothing n s = record { back = λ r h. h; paid = omega arith }

pub and_settles : (r : Reading) (old new : Run) (x y : ℕ) → state_of r old ≡ state_of r new → and_term (r.term x) (r.term x) ≡ r.term y → Settles r old new x y
unfolding and_term
and_settles r old new x y s e =
    let p = is_true (r.term x) in
    record {
      same = s;
      truth = ap is_true (sym e) ∙ bit_true (p && p) ∙ twice p;
      there = subst (λ u. IsSome (as_number u)) e refl;
    }

pub sure_settles : (r : Reading) (s : Run) (es : List Entry) (x : ℕ) → es ≡ s.arena → Reads r s → IsSure es x → Settles r s s x x
sure_settles r s es x e h i = record { same = refl; truth = refl; there = i r.term (subst (ReadsNodes r.term) (sym e) h.nodes) }

fills_by : (p q : Bool) (u z y : Term) → (if p then u else z) ≡ y → p ≡ q → (if q then u else z) ≡ y
fills_by p q u z y e f = ap (λ b. if b then u else z) (sym f) ∙ e

pub if_fills : (r : Reading) (old new : Run) (o x y none : ℕ) (n : ℤ) → state_of r old ≡ state_of r new → Some (number n) ≡ r.term none → if_term (r.term o) (r.term x) (r.term none) ≡ r.term y → Fills r old new o x y
unfolding if_term
if_fills r old new o x y none n s z e = record {
  same = s;
  filled = record {
    there = λ q. sym (fills_by (is_true (r.term o)) true (r.term x) (r.term none) (r.term y) e q);
    gone = λ q. subst (λ u. IsSome (as_number u)) (z ∙ fills_by (is_true (r.term o)) false (r.term x) (r.term none) (r.term y) e q) refl;
  };
}

pub sure_fills : (r : Reading) (s : Run) (es : List Entry) (o x : ℕ) → es ≡ s.arena → Reads r s → IsSure es x → Fills r s s o x x
sure_fills r s es o x e h i = record { same = refl; filled = record { there = λ q. refl; gone = λ q. i r.term (subst (ReadsNodes r.term) (sym e) h.nodes) } }

-- ---- numbers

same_number : (n : ℤ) → int_eq n n ≡ true
same_number n = grind (arith, ints)

number_some : (o : Option ℤ) → is_true (bit (holds o o int_eq)) ≡ true → IsSome o
number_some None h = absurd (cc)
number_some (Some n) h = refl

there_some : (o : Option ℤ) → IsSome o → bit (holds o o int_eq) ≡ bit true
there_some None h = absurd (cc)
there_some (Some n) h = ap bit (same_number n)

-- a number that is there is equal to itself
pub sure_there : (u v : Term) → IsSome (as_number u) → bit true ≡ v → comparison_term int_eq u u ≡ v
unfolding comparison_term
sure_there u v s e = there_some (as_number u) s ∙ e

number_none : (o : Option ℤ) → is_true (bit (holds o o int_eq)) ≡ false → o ≡ None
number_none None h = refl
number_none (Some n) h = let clash : true ≡ false = ap (λ p. is_true (bit p)) (sym (same_number n)) ∙ h in absurd (cc)

some_mapped : {A B : Type 0} (f : A → B) (o : Option A) → IsSome o → IsSome (option_map f o)
some_mapped f None h = absurd (cc)
some_mapped f (Some x) h = refl

-- of a base of numbers
record IsNumber (b : Base) : Type 0 where
  there : (u : Term) → IsSome (as_number u) → IsSome (value_by b u)
  gone : (u : Term) → as_number u ≡ None → value_by b u ≡ None
  plain : (v : Option Content) → as_argument b None v ≡ v

number_told : (b : Base) → is_number_base b ≡ true → IsNumber b
number_told base.Int h = record { there = λ u s. some_mapped (λ n. values.int n) (as_number u) s; gone = λ u e. ap (option_map (λ n. values.int n)) e; plain = λ v. refl }
number_told (base.Enum k) h = record { there = λ u s. some_mapped (λ n. values.case k n) (as_number u) s; gone = λ u e. ap (option_map (λ n. values.case k n)) e; plain = λ v. refl }
number_told b h = absurd (cc)

pub number_made : (t : ℕ → Term) (b : Base) (x there : ℕ) → is_number_base b ≡ true → comparison_term int_eq (t x) (t x) ≡ t there → IsItemFor t (symbol_of b None x) (symbol_of b None x) there
unfolding comparison_term
number_made t b x there h e =
    let n = number_told b h in
    record {
      there = λ q. record {
        item = record { value = n.there (t x) (number_some (as_number (t x)) (ap is_true e ∙ q)); occurs = tt };
        value = sym (n.plain (value_by b (t x)));
      };
      gone = λ q. n.plain (value_by b (t x)) ∙ n.gone (t x) (number_none (as_number (t x)) (ap is_true e ∙ q));
    }

-- ---- sets

record IsSubset (b : Base) : Type 0 where
  there : (u : Term) → IsSome (as_set u) → IsSome (value_by b u)
  gone : (u : Term) → as_set u ≡ None → value_by b u ≡ None
  plain : (v : Option Content) → as_argument b None v ≡ v

subset_told : (b : Base) → is_set_sort b ≡ true → IsSubset b
subset_told base.SetInt h = record { there = λ u s. some_mapped (λ r. values.set None r) (as_set u) s; gone = λ u e. ap (option_map (λ r. values.set None r)) e; plain = λ v. refl }
subset_told (base.SetEnum k) h = record { there = λ u s. some_mapped (λ r. values.set (Some k) r) (as_set u) s; gone = λ u e. ap (option_map (λ r. values.set (Some k) r)) e; plain = λ v. refl }
subset_told b h = absurd (cc)

abbrev size_by : Option (List Range) → Term
size_by o = o >>= λ s. Some (number (pos (cardinality s)))

sized_some : (o : Option (List Range)) → IsSome (as_number (size_by o)) → IsSome o
sized_some None h = absurd (cc)
sized_some (Some s) h = refl

sized_none : (o : Option (List Range)) → as_number (size_by o) ≡ None → o ≡ None
sized_none None h = refl
sized_none (Some s) h = absurd (cc)

pub set_made : (t : ℕ → Term) (b : Base) (x size there : ℕ) → is_set_sort b ≡ true → card_term (t x) ≡ t size → comparison_term int_eq (t size) (t size) ≡ t there → IsItemFor t (symbol_of b None x) (symbol_of b None x) there
unfolding comparison_term card_term
set_made t b x size there h f e =
    let n = subset_told b h in
    record {
      there = λ q. record {
        item = record { value = n.there (t x) (sized_some (as_set (t x)) (subst (λ u. IsSome (as_number u)) (sym f) (number_some (as_number (t size)) (ap is_true e ∙ q)))); occurs = tt };
        value = sym (n.plain (value_by b (t x)));
      };
      gone = λ q. n.plain (value_by b (t x)) ∙ n.gone (t x) (sized_none (as_set (t x)) (ap as_number f ∙ number_none (as_number (t size)) (ap is_true e ∙ q)));
    }

-- ---- options

single_some : (b : Base) (u : Term) → is_single b ≡ true → IsSome (as_number u) → IsSome (value_by b u)
single_some base.Bool u h s = some_mapped (λ n. content_by base.Bool n []) (as_number u) s
single_some base.Int u h s = some_mapped (λ n. values.int n) (as_number u) s
single_some (base.Enum k) u h s = some_mapped (λ n. values.case k n) (as_number u) s
single_some b u h s = absurd (cc)

single_none : (b : Base) (u : Term) → is_single b ≡ true → as_number u ≡ None → value_by b u ≡ None
single_none base.Bool u h e = ap (option_map (λ n. content_by base.Bool n [])) e
single_none base.Int u h e = ap (option_map (λ n. values.int n)) e
single_none (base.Enum k) u h e = ap (option_map (λ n. values.case k n)) e
single_none b u h e = absurd (cc)

option_at : (b : Base) (o : ℕ) (v : Option Content) → as_argument b (Some o) v ≡ v
option_at base.Bool o v = refl
option_at b o v = refl

-- an option's value, by its occurrence and the value's term
abbrev option_value : Base → Bool → Term → Option Content
option_value b p u = if p then value_by b u else Some values.absent

filled_value : (b : Base) (p : Bool) (u y : Term) → (p ≡ true → y ≡ u) → option_value b p y ≡ option_value b p u
filled_value b true u y h = ap (value_by b) (h refl)
filled_value b false u y h = refl

filled_none : (b : Base) (p : Bool) (u y : Term) → is_single b ≡ true → (p ≡ true → y ≡ u) → (p ≡ false → IsSome (as_number y)) → as_number y ≡ None → option_value b p u ≡ None
filled_none b true u y h f g e = single_none b u h (ap as_number (sym (f refl)) ∙ e)
filled_none b false u y h f g e = let there : IsSome (as_number y) = g refl in absurd (cc)

pub option_made : (t : ℕ → Term) (b : Base) (o x occurs term there : ℕ) → is_single b ≡ true → is_true (t occurs) ≡ is_true (t o) → IsSome (as_number (t occurs)) → IsFilled t o x term → comparison_term int_eq (t term) (t term) ≡ t there
    → IsItemFor t (symbol_of b (Some o) x) (symbol_of b (Some occurs) term) there
unfolding comparison_term
option_made t b o x occurs term there h e s f g =
    let p = is_true (t o) in
    record {
      there = λ q. record {
        item = record {
          value = single_some b (t term) h (number_some (as_number (t term)) (ap is_true g ∙ q));
          occurs = s;
        };
        value = ap (λ w. option_value b w (t term)) e ∙ filled_value b p (t x) (t term) f.there ∙ sym (option_at b o (option_value b p (t x)));
      };
      gone = λ q. option_at b o (option_value b p (t x)) ∙ filled_none b p (t x) (t term) h f.there f.gone (number_none (as_number (t term)) (ap is_true g ∙ q));
    }

-- ---- as what a call gives

pub made : (r : Reading) (old new : Run) (s x y : Symbol) (e : ℕ) → y ≡ x → state_of r old ≡ state_of r new → IsItemFor r.term s x e → MakesItem r old new s y e
made r old new s x y e p q i = record { same = q; item = subst (λ z. IsItemFor r.term s z e) (sym p) i }

pub of_symbol : (r : Reading) (old new : Run) (s x : Symbol) (o : Option ℕ) (e : ℕ) → s.occurs ≡ o → MakesItem r old new (symbol_of s.base o s.term) x e → MakesItem r old new s x e
of_symbol r old new s x o e p m = subst (λ q. MakesItem r old new (symbol_of s.base q s.term) x e) (sym p) m

pub and_is : (x y z : Term) → and_term x y ≡ z → z ≡ both_true (is_true x) (is_true y)
unfolding and_term
and_is x y z e = sym e
