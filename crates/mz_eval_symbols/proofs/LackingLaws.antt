-- Options that have no value where they occur.
use Rattle.std.proofs.Common.{◌≡◌, ◌∙◌, ℕ, zero, suc, ℤ, pos, negsuc, Bool, true, false, not, ◌&&◌, ◌||◌, List, [], ◌∷◌, ◌++◌, map, Option, Some, None, IsSome, slice_get, refl, sym, ap, subst, arith, if◌then◌else◌}
use Rattle.std.proofs.lemmas.Int.{ints}
use Rattle.std.specs.Option.{option_map}
use Rattle.std.specs.Ordering.{int_eq}
use Rattle.mz_value.specs.Ranges.{Range}
use Rattle.mz_value.specs.Contents.{Content}
use Rattle.mz_value.specs.Contents as values
use Rattle.mz_core.specs.declared.types.Base.{Base}
use Rattle.mz_core.specs.declared.types.Base.TheVariants as base
use Rattle.mz_operations.specs.Views.{◌>>=◌}
use Rattle.mz_arena.specs.Entries.{Entry}
use Rattle.mz_arena.specs.Values.{Term, Val, number, set, numbers, sets, empty, as_number, as_numbers, as_sets, holds, is_one, is_true, element_at, value_at, before, access_term, and_term, comparison_term, cons_term, guard_term, if_term, not_term, or_term}
use Rattle.mz_symbol.specs.Symbols.{content_by, symbol_value, value_by}
use Rattle.mz_meaning.specs.Coerced.{recast, recast_all}
use Rattle.mz_symbol.specs.declared.types.Symbol.{Symbol}
use Rattle.mz_symbol.specs.Symbols as symbols
use Rattle.mz_symbol.specs.Runs.{ReadsNodes, Run}
use Rattle.mz_symbol.specs.Readings.{Reading, Reads}
use Rattle.mz_symbol.specs.Arguments.{as_argument}
use Rattle.mz_symbol_rows.specs.RowValues.{is_single}
use Rattle.mz_symbol_rows.proofs.RowLaws.{bit_true}
use Rattle.mz_eval_symbols.specs.declared.lacking.Claim.{Claim}
use Rattle.mz_eval_symbols.specs.declared.lacking.Claim.TheVariants as claim
use Rattle.mz_eval_symbols.specs.declared.lacking.Reason.{Reason}
use Rattle.mz_eval_symbols.specs.declared.lacking.Reason.TheVariants as reason
use Rattle.mz_eval_symbols.specs.declared.nodes.Branching.{Branching}
use Rattle.mz_eval_symbols.specs.declared.nodes.Pair.TheVariants as pair
use Rattle.mz_eval_symbols.specs.Steps.{AreCasts, AreMade, IsCast, IsRecast, argued}
use Rattle.mz_eval_symbols.specs.StepsNodes.{IsIf, IsNot, IsPair}
use Rattle.mz_eval_symbols.specs.StepsLacking.{AllHold, HasNoOne, Holds, IsAlike, IsFitted, IsLacking, IsRelabel, Lacks, ListsLack, Suffices, is_number_base}

-- ---- truth values

or_true : (x y : Term) → is_true (or_term x y) ≡ (is_true x || is_true y)
unfolding or_term
or_true x y = bit_true (is_true x || is_true y)

and_true : (x y : Term) → is_true (and_term x y) ≡ (is_true x && is_true y)
unfolding and_term
and_true x y = bit_true (is_true x && is_true y)

not_true : (x : Term) → is_true (not_term x) ≡ not (is_true x)
unfolding not_term
not_true x = bit_true (not (is_true x))

second_of : (p q : Bool) → p ≡ false → (p || q) ≡ true → q ≡ true
second_of true q e h = absurd (cc)
second_of false q e h = h

first_both : (p q : Bool) → (p && q) ≡ true → p ≡ true
first_both true q h = refl
first_both false q h = absurd (cc)

second_both : (p q : Bool) → (p && q) ≡ true → q ≡ true
second_both true q h = h
second_both false q h = absurd (cc)

-- ---- terms that are no numbers

guard_none : (x y : Term) → (is_true x ≡ true → as_number y ≡ None) → as_number (guard_term x y) ≡ None
unfolding guard_term
guard_none x y f = by (is_true x) refl
  where
    by : (p : Bool) → is_true x ≡ p → as_number (if p then y else None) ≡ None
    by true e = f e
    by false e = refl

branch_none : (c u v y z : Term) → is_true (if_term c u v) ≡ true → (is_true u ≡ true → as_number y ≡ None) → (is_true v ≡ true → as_number z ≡ None) → as_number (if_term c y z) ≡ None
unfolding if_term
branch_none c u v y z h f g = by (is_true c) h
  where
    by : (p : Bool) → is_true (if p then u else v) ≡ true → as_number (if p then y else z) ≡ None
    by true e = f e
    by false e = g e

first_none : (c y z : Term) → is_true c ≡ true → as_number y ≡ None → as_number (if_term c y z) ≡ None
unfolding if_term
first_none c y z e f = ap (λ p. as_number (if p then y else z)) e ∙ f

-- ---- why a node is no number where another is true

pub unless_true : (es : List Entry) (d o n : ℕ) (p : ℕ × ℕ) → IsPair es pair.Or o p → IsNot es p.0 n → n ≡ d → (t : ℕ → Term) → ReadsNodes t es → is_true (t d) ≡ true → is_true (t o) ≡ true → is_true (t p.1) ≡ true
unless_true es d o n p f g e t h i j =
    let other : is_true (t p.0) ≡ false = ap is_true (g t h) ∙ not_true (t n) ∙ ap (λ k. not (is_true (t k))) e ∙ ap not i in
    second_of (is_true (t p.0)) (is_true (t p.1)) other (sym (or_true (t p.0) (t p.1)) ∙ ap is_true (sym (f t h)) ∙ j)

pub guard_sure : (es : List Entry) (o x : ℕ) (p : ℕ × ℕ) → IsPair es pair.Guard x p → ((t : ℕ → Term) → ReadsNodes t es → is_true (t p.0) ≡ false) → Lacks es o x
guard_sure es o x p f g t h i = ap as_number (f t h) ∙ guard_none (t p.0) (t p.1) (λ e. let clash : true ≡ false = sym e ∙ g t h in absurd (cc))

pub guard_lacks : (es : List Entry) (o x q : ℕ) (p : ℕ × ℕ) → IsPair es pair.Guard x p → ((t : ℕ → Term) → ReadsNodes t es → is_true (t p.0) ≡ true → is_true (t o) ≡ true → is_true (t q) ≡ true) → Lacks es q p.1 → Lacks es o x
guard_lacks es o x q p f g k t h i = ap as_number (f t h) ∙ guard_none (t p.0) (t p.1) (λ e. k t h (g t h e i))

pub branches_lack : (es : List Entry) (o x : ℕ) (p q : Branching) → IsIf es o p → IsIf es x q → p.condition ≡ q.condition → Lacks es p.first q.first → Lacks es p.second q.second → Lacks es o x
branches_lack es o x p q f g e k l t h i =
    ap as_number (g t h ∙ ap (λ c. if_term (t c) (t q.first) (t q.second)) (sym e))
    ∙ branch_none (t p.condition) (t p.first) (t p.second) (t q.first) (t q.second) (ap is_true (sym (f t h)) ∙ i) (k t h) (l t h)

pub choice_lacks : (es : List Entry) (o x : ℕ) (q : Branching) → IsIf es x q → q.condition ≡ o → Lacks es o q.first → Lacks es o x
choice_lacks es o x q g e k t h i = ap as_number (g t h) ∙ first_none (t q.condition) (t q.first) (t q.second) (ap (λ c. is_true (t c)) e ∙ i) (k t h i)

pub condition_lacks : (es : List Entry) (o x : ℕ) (p : ℕ × ℕ) (q : Branching) → IsPair es pair.And o p → IsIf es x q → p.0 ≡ q.condition → Lacks es p.0 q.first → Lacks es o x
condition_lacks es o x p q f g e k t h i =
    let holds : is_true (t p.0) ≡ true = first_both (is_true (t p.0)) (is_true (t p.1)) (sym (and_true (t p.0) (t p.1)) ∙ ap is_true (sym (f t h)) ∙ i) in
    ap as_number (g t h) ∙ first_none (t q.condition) (t q.first) (t q.second) (ap (λ c. is_true (t c)) (sym e) ∙ holds) (k t h holds)

pub both_lacks : (es : List Entry) (o x : ℕ) (p : ℕ × ℕ) → IsPair es pair.And o p → Lacks es p.1 x → Lacks es o x
both_lacks es o x p f k t h i = k t h (second_both (is_true (t p.0)) (is_true (t p.1)) (sym (and_true (t p.0) (t p.1)) ∙ ap is_true (sym (f t h)) ∙ i))

same_number : (n : ℤ) → int_eq n n ≡ true
same_number n = grind (arith, ints)

unequal_none : (o : Option ℤ) → not (holds o o int_eq) ≡ true → o ≡ None
unequal_none None h = refl
unequal_none (Some n) h = let clash : false ≡ true = ap not (sym (same_number n)) ∙ h in absurd (cc)

lost_none : (x : Term) → is_true (not_term (comparison_term int_eq x x)) ≡ true → as_number x ≡ None
unfolding comparison_term
lost_none x h = unequal_none (as_number x) (ap not (sym (bit_true (holds (as_number x) (as_number x) int_eq))) ∙ sym (not_true (comparison_term int_eq x x)) ∙ h)

pub lost : (es : List Entry) (l x n : ℕ) (p : ℕ × ℕ) → IsNot es l n → IsPair es pair.Equal n p → p.0 ≡ x → p.1 ≡ x → (t : ℕ → Term) → ReadsNodes t es → is_true (t l) ≡ true → as_number (t x) ≡ None
lost es l x n p f g a b t h i =
    let same : t n ≡ comparison_term int_eq (t x) (t x) = g t h ∙ ap (λ k. comparison_term int_eq (t k) (t p.1)) a ∙ ap (λ k. comparison_term int_eq (t x) (t k)) b in
    lost_none (t x) (ap (λ u. is_true (not_term u)) (sym same) ∙ ap is_true (sym (f t h)) ∙ i)

-- ---- elements

element_none : (ns : List ℤ) (k : ℤ) → HasNoOne ns → is_true (option_map number (element_at ns k)) ≡ true → ⊥
element_none ns (pos zero) f h = absurd (cc)
element_none ns (negsuc n) f h = absurd (cc)
element_none ns (pos (suc j)) f h = by (slice_get ns j) (f j) h
  where
    by : (o : Option ℤ) → is_one o ≡ false → is_true (option_map number o) ≡ true → ⊥
    by None e i = absurd (cc)
    by (Some n) e i = let clash : true ≡ false = sym i ∙ e in absurd (cc)

no_set : (o : Option (List Range)) → as_number (option_map set o) ≡ None
no_set None = refl
no_set (Some s) = refl

never_set : (o : Option (List Range)) → is_true (option_map set o) ≡ true → ⊥
never_set None h = absurd (cc)
never_set (Some s) h = absurd (cc)

listed_none : (ns : List ℤ) (k : ℤ) (v : Val) → ((ms : List ℤ) → as_numbers (Some v) ≡ Some ms → HasNoOne ns) → is_true (option_map number (element_at ns k)) ≡ true → as_number (value_at v k) ≡ None
listed_none ns k (numbers ms) f h = absurd (element_none ns k (f ms refl) h)
listed_none ns k (sets ss) f h = no_set (element_at ss k)
listed_none ns k empty f h = refl
listed_none ns k (number n) f h = refl
listed_none ns k (set s) f h = refl

access_by : (i : Option ℤ) (u v : Term) → is_true (i >>= λ k. u >>= λ l. value_at l k) ≡ true → ((ns ms : List ℤ) → as_numbers u ≡ Some ns → as_numbers v ≡ Some ms → HasNoOne ns) → as_number (i >>= λ k. v >>= λ l. value_at l k) ≡ None
access_by None u v h f = refl
access_by (Some k) None v h f = absurd (cc)
access_by (Some k) (Some l) None h f = refl
access_by (Some k) (Some (numbers ns)) (Some w) h f = listed_none ns k w (λ ms e. f ns ms refl e) h
access_by (Some k) (Some (sets ss)) (Some w) h f = absurd (never_set (element_at ss k) h)
access_by (Some k) (Some empty) (Some w) h f = absurd (cc)
access_by (Some k) (Some (number n)) (Some w) h f = absurd (cc)
access_by (Some k) (Some (set s)) (Some w) h f = absurd (cc)

access_none : (x u v : Term) → is_true (access_term x u) ≡ true → ((ns ms : List ℤ) → as_numbers u ≡ Some ns → as_numbers v ≡ Some ms → HasNoOne ns) → as_number (access_term x v) ≡ None
unfolding access_term
access_none x u v h f = access_by (as_number x) u v h f

pub lists_lack : (es : List Entry) (o x : ℕ) (p q : ℕ × ℕ) → IsPair es pair.Access o p → IsPair es pair.Access x q → p.0 ≡ q.0 → ListsLack es p.1 q.1 → Lacks es o x
lists_lack es o x p q f g e k t h i =
    ap as_number (g t h ∙ ap (λ j. access_term (t j) (t q.1)) (sym e))
    ∙ access_none (t p.0) (t p.1) (t q.1) (ap is_true (sym (f t h)) ∙ i) (k t h)

either : (p q : Bool) → (p || q) ≡ true → (P : Type 0) → (p ≡ true → P) → (q ≡ true → P) → P
either true q h P f g = f refl
either false q h P f g = g h

element_lacks : (es : List Entry) (o x : ℕ) (p : ℕ × ℕ) → IsPair es pair.Or o p → ((t : ℕ → Term) → ReadsNodes t es → is_true (t p.0) ≡ true → as_number (t x) ≡ None) → Lacks es p.1 x → Lacks es o x
element_lacks es o x p f g k t h i =
    either (is_true (t p.0)) (is_true (t p.1)) (sym (or_true (t p.0) (t p.1)) ∙ ap is_true (sym (f t h)) ∙ i) (as_number (t x) ≡ None) (g t h) (k t h)

suffices_by : (es : List Entry) (c d : Claim) (r : Reason) → (Holds es c → Holds es d) → Suffices es c r → Suffices es d r
suffices_by es c d reason.Sure f s = f s
suffices_by es c d (reason.One e) f s = λ a. f (s a)
suffices_by es c d (reason.Two e g) f s = λ a b. f (s a b)
suffices_by es c d reason.Unknown f s = tt

pub element_suffices : (es : List Entry) (o x : ℕ) (p : ℕ × ℕ) (r : Reason) → IsPair es pair.Or o p → ((t : ℕ → Term) → ReadsNodes t es → is_true (t p.0) ≡ true → as_number (t x) ≡ None) → Suffices es (claim.Nodes p.1 x) r → Suffices es (claim.Nodes o x) r
element_suffices es o x p r f g s = suffices_by es (claim.Nodes p.1 x) (claim.Nodes o x) r (element_lacks es o x p f g) s

pub false_lacks : (es : List Entry) (o x : ℕ) → ((t : ℕ → Term) → ReadsNodes t es → is_true (t o) ≡ false) → Lacks es o x
false_lacks es o x f t h i = let clash : true ≡ false = sym i ∙ f t h in absurd (cc)

-- ---- lists

record IsCons (u v : Term) (ns : List ℤ) : Type 0 where
  head : ℤ
  tail : List ℤ
  is_head : u ≡ Some (number head)
  is_tail : as_numbers v ≡ Some tail
  list : ns ≡ head ∷ tail

cons_by : (u v : Term) (ns : List ℤ) → as_numbers (u >>= λ w. before w v) ≡ Some ns → IsCons u v ns
cons_by None v ns h = absurd (cc)
cons_by (Some (number n)) v ns h = by (as_numbers v) refl h
  where
    by : (o : Option (List ℤ)) → as_numbers v ≡ o → as_numbers (option_map (λ ms. numbers (n ∷ ms)) o) ≡ Some ns → IsCons (Some (number n)) v ns
    by None e i = absurd (cc)
    by (Some ms) e i = let same : n ∷ ms ≡ ns = cc in record { head = n; tail = ms; is_head = refl; is_tail = e; list = sym same }
cons_by (Some (set s)) v ns h = by (as_sets v) h
  where
    by : (o : Option (List (List Range))) → as_numbers (option_map (λ ss. sets (s ∷ ss)) o) ≡ Some ns → IsCons (Some (set s)) v ns
    by None i = absurd (cc)
    by (Some ss) i = absurd (cc)
cons_by (Some (numbers ms)) v ns h = absurd (cc)
cons_by (Some (sets ss)) v ns h = absurd (cc)
cons_by (Some empty) v ns h = absurd (cc)

cons_numbers : (u v : Term) (ns : List ℤ) → as_numbers (cons_term u v) ≡ Some ns → IsCons u v ns
unfolding cons_term
cons_numbers u v ns h = cons_by u v ns h

none_of : HasNoOne []
none_of zero = refl
none_of (suc k) = refl

pub nil_lacks : (es : List Entry) (o x : ℕ) → ((t : ℕ → Term) → ReadsNodes t es → t o ≡ Some empty) → ListsLack es o x
nil_lacks es o x f t h ns ms e g =
    let nil : Some [] ≡ Some ns = ap as_numbers (sym (f t h)) ∙ e in
    let same : [] ≡ ns = cc in
    subst (λ (xs : List ℤ). HasNoOne xs) same none_of

one_more : (n : ℤ) (ns : List ℤ) → int_eq n (pos 1) ≡ false → HasNoOne ns → HasNoOne (n ∷ ns)
one_more n ns e f zero = e
one_more n ns e f (suc k) = f k

no_one : (t : ℕ → Term) (o x : ℕ) (n m : ℤ) → t o ≡ Some (number n) → t x ≡ Some (number m) → (is_true (t o) ≡ true → as_number (t x) ≡ None) → int_eq n (pos 1) ≡ false
no_one t o x n m e f k = by (int_eq n (pos 1)) refl
  where
    by : (p : Bool) → int_eq n (pos 1) ≡ p → p ≡ false
    by false i = refl
    by true i =
        let none : as_number (t x) ≡ None = k (ap is_true e ∙ i) in
        let clash : Some m ≡ None = ap as_number (sym f) ∙ none in
        absurd (cc)

pub cons_lack : (es : List Entry) (o x : ℕ) (p q : ℕ × ℕ) → IsPair es pair.Cons o p → IsPair es pair.Cons x q → Lacks es p.0 q.0 → ListsLack es p.1 q.1 → ListsLack es o x
cons_lack es o x p q f g k l t h ns ms e i =
    let a = cons_numbers (t p.0) (t p.1) ns (ap as_numbers (sym (f t h)) ∙ e) in
    let b = cons_numbers (t q.0) (t q.1) ms (ap as_numbers (sym (g t h)) ∙ i) in
    subst (λ (xs : List ℤ). HasNoOne xs) (sym a.list) (one_more a.head a.tail (no_one t p.0 q.0 a.head b.head a.is_head b.is_head (k t h)) (l t h a.tail b.tail a.is_tail b.is_tail))

-- ---- claims that are open

pub all_one : (es : List Entry) (cs : List Claim) (c : Claim) → AllHold es cs → Holds es c → AllHold es (cs ++ c ∷ [])
all_one es [] c a h = (h, tt)
all_one es (d ∷ cs) c a h = (a.0, all_one es cs c a.1 h)

first_ones : (es : List Entry) (cs ds : List Claim) → AllHold es (cs ++ ds) → AllHold es cs
first_ones es [] ds a = tt
first_ones es (c ∷ cs) ds a = (a.0, first_ones es cs ds a.1)

last_ones : (es : List Entry) (cs ds : List Claim) → AllHold es (cs ++ ds) → AllHold es ds
last_ones es [] ds a = a
last_ones es (c ∷ cs) ds a = last_ones es cs ds a.1

pub sure_all : (es : List Entry) (cs xs : List Claim) (c : Claim) (r : Reason) → Suffices es c r → r ≡ reason.Sure → xs ≡ cs → AllHold es xs → AllHold es (cs ++ c ∷ [])
sure_all es cs xs c r s e l a = all_one es cs c (subst (AllHold es) l a) (subst (Suffices es c) e s)

pub one_all : (es : List Entry) (cs xs : List Claim) (c d : Claim) (r : Reason) → Suffices es c r → r ≡ reason.One d → xs ≡ cs ++ d ∷ [] → AllHold es xs → AllHold es (cs ++ c ∷ [])
one_all es cs xs c d r s e l a =
    let b = subst (AllHold es) l a in
    all_one es cs c (first_ones es cs (d ∷ []) b) (subst (Suffices es c) e s (last_ones es cs (d ∷ []) b).0)

pub two_all : (es : List Entry) (cs xs : List Claim) (c d e : Claim) (r : Reason) → Suffices es c r → r ≡ reason.Two d e → xs ≡ (cs ++ d ∷ []) ++ e ∷ [] → AllHold es xs → AllHold es (cs ++ c ∷ [])
two_all es cs xs c d e r s q m a =
    let b = subst (AllHold es) m a in
    let f = first_ones es (cs ++ d ∷ []) (e ∷ []) b in
    all_one es cs c (first_ones es cs (d ∷ []) f) (subst (Suffices es c) q s (last_ones es cs (d ∷ []) f).0 (last_ones es (cs ++ d ∷ []) (e ∷ []) b).0)

-- of the first claim alone
pub first_lacks : (es : List Entry) (o x : ℕ) (cs xs : List Claim) → cs ≡ [] → xs ≡ cs ++ claim.Nodes o x ∷ [] → AllHold es xs → Lacks es o x
first_lacks es o x cs xs e f a = (subst (AllHold es) (f ∙ ap (λ ds. ds ++ claim.Nodes o x ∷ []) e) a).0

pub none_open : (es : List Entry) (cs : List Claim) → cs ≡ [] → AllHold es cs
none_open es cs e = subst (AllHold es) (sym e) tt

-- ---- symbols

single_value : (b : Base) (x : Term) → is_single b ≡ true → value_by b x ≡ option_map (λ n. content_by b n []) (as_number x)
single_value base.Bool x h = refl
single_value base.Int x h = refl
single_value (base.Enum e) x h = refl
single_value b x h = absurd (cc)

no_value : (b : Base) (x : Term) → is_single b ≡ true → as_number x ≡ None → value_by b x ≡ None
no_value b x h e = single_value b x h ∙ ap (option_map (λ n. content_by b n [])) e

some_mapped : {A B : Type 0} (f : A → B) (o : Option A) → IsSome o → IsSome (option_map f o)
some_mapped f None h = absurd (cc)
some_mapped f (Some x) h = refl

mapped_some : {A B : Type 0} (f : A → B) (o : Option A) → IsSome (option_map f o) → IsSome o
mapped_some f None h = absurd (cc)
mapped_some f (Some x) h = refl

some_value : (a b : Base) (x : Term) → is_single a ≡ true → is_single b ≡ true → IsSome (value_by a x) → IsSome (value_by b x)
some_value a b x h i s =
    subst (λ v. IsSome v) (sym (single_value b x i)) (some_mapped (λ n. content_by b n []) (as_number x) (mapped_some (λ n. content_by a n []) (as_number x) (subst (λ v. IsSome v) (single_value a x h) s)))

-- absent, or undefined
abbrev absent_unless : Bool → Option Content
absent_unless p = if p then None else Some values.absent

lacking_value : (t : ℕ → Term) (b : Base) (o id : ℕ) → is_single b ≡ true → (is_true (t o) ≡ true → as_number (t id) ≡ None) → symbols.value_at t b (Some o) id ≡ absent_unless (is_true (t o))
lacking_value t b o id h f = by (is_true (t o)) refl
  where
    by : (p : Bool) → is_true (t o) ≡ p → (if p then value_by b (t id) else Some values.absent) ≡ absent_unless p
    by true e = no_value b (t id) h (f e)
    by false e = refl

recast_absent : (b : Base) → recast b values.absent ≡ values.absent
recast_absent base.Bool = refl
recast_absent base.Int = refl
recast_absent (base.Enum e) = refl
recast_absent base.SetInt = refl
recast_absent (base.SetEnum e) = refl
recast_absent b = refl

absent_stays : (b : Base) (p : Bool) → absent_unless p ≡ option_map (recast b) (absent_unless p)
absent_stays b true = refl
absent_stays b false = ap (λ x. Some x) (sym (recast_absent b))

absent_whole : (b : Base) (p : Bool) → absent_unless p ≡ option_map (recast_all b) (absent_unless p)
absent_whole b true = refl
absent_whole b false = ap (λ x. Some x) (sym (recast_absent b))

option_at : (b : Base) (o : ℕ) (v : Option Content) → as_argument b (Some o) v ≡ v
option_at base.Bool o v = refl
option_at b o v = refl

alike_by : (t : ℕ → Term) (a b : Base) (o id : ℕ) → is_single a ≡ true → is_single b ≡ true → (is_true (t o) ≡ true → as_number (t id) ≡ None) → IsAlike t (record { base = a; occurs = Some o; term = id }) (record { base = b; occurs = Some o; term = id })
alike_by t a b o id h i f =
    let va = lacking_value t a o id h f in
    let vb = lacking_value t b o id i f in
    let ga = option_at a o (symbols.value_at t a (Some o) id) ∙ va in
    let gb = option_at b o (symbols.value_at t b (Some o) id) ∙ vb in
    record {
      same = gb ∙ sym ga;
      argument = λ c. gb ∙ absent_whole c (is_true (t o)) ∙ ap (option_map (recast_all c)) (sym ga);
      cast = λ c. record {
        item = λ j. record { value = some_value a b (t id) h i j.value; occurs = j.occurs };
        value = λ j. vb ∙ absent_stays c (is_true (t o)) ∙ ap (option_map (recast c)) (sym va);
      };
    }

pub alike : (es : List Entry) (b : Base) (s : Symbol) → is_single b ≡ true → IsLacking es s → IsRelabel es s (record { base = b; occurs = s.occurs; term = s.term })
alike es b s i l t h =
    subst (λ (q : Option ℕ). IsAlike t (record { base = s.base; occurs = q; term = s.term }) (record { base = b; occurs = q; term = s.term })) (sym l.at) (alike_by t s.base b l.occurs s.term l.single i (l.lacks t h))

-- what is no option, under a guard
number_single : (b : Base) → is_number_base b ≡ true → is_single b ≡ true
number_single base.Int h = refl
number_single (base.Enum e) h = refl
number_single b h = absurd (cc)

number_plain : (b : Base) (v : Option Content) → is_number_base b ≡ true → as_argument b None v ≡ v
number_plain base.Int v h = refl
number_plain (base.Enum e) v h = refl
number_plain b v h = absurd (cc)

pub gone : (es : List Entry) (s : Symbol) (p : ℕ × ℕ) → is_number_base s.base ≡ true → s.occurs ≡ None → IsPair es pair.Guard s.term p → Lacks es p.0 p.1 → (t : ℕ → Term) → ReadsNodes t es → argued t s ≡ None
gone es s p f e k l t h =
    ap (λ o. as_argument s.base o (symbols.value_at t s.base o s.term)) e
    ∙ number_plain s.base (value_by s.base (t s.term)) f
    ∙ no_value s.base (t s.term) (number_single s.base f) (ap as_number (k t h) ∙ guard_none (t p.0) (t p.1) (l t h))

pub recast_alike : (r : Reading) (run : Run) (b : Base) (s x : Symbol) (es : List Entry) → es ≡ run.arena → IsRelabel es s x → Reads r run → IsRecast r run run b s x
recast_alike r run b s x es e f h =
    let a = f r.term (subst (ReadsNodes r.term) (sym e) h.nodes) in
    record { same = refl; argument = a.argument b; cast = a.cast b }

bottom_stays : (v : Option Content) → v ≡ option_map (recast base.Bottom) v
bottom_stays None = refl
bottom_stays (Some x) = refl

pub fitted_same : (t : ℕ → Term) (s : Symbol) → IsFitted t s s
fitted_same t s = record { same = refl; item = record { item = λ i. i; value = λ i. bottom_stays (symbol_value t s) } }

pub fitted_alike : (t : ℕ → Term) (s x : Symbol) → IsAlike t s x → IsFitted t s x
fitted_alike t s x a = record { same = a.same; item = a.cast base.Bottom }

-- ---- elements

bottom_items : (xs : List Content) → xs ≡ map (recast base.Bottom) xs
bottom_items [] = refl
bottom_items (x ∷ xs) = ap (λ ys. x ∷ ys) (bottom_items xs)

pub bottom_line : (v : Option (List Content)) → v ≡ option_map (map (recast base.Bottom)) v
bottom_line None = refl
bottom_line (Some xs) = ap (λ ys. Some ys) (bottom_items xs)

pub fits_made : (r : Reading) (run : Run) (n : ℕ) (xs ss : List Symbol) → ((t : ℕ → Term) → ReadsNodes t run.arena → AreMade (IsCast t base.Bottom) xs n ss) → Reads r run → AreCasts r run run base.Bottom xs n ss
fits_made r run n xs ss f h = record { same = refl; made = f r.term h.nodes }
