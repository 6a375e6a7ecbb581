-- The names of introduced variables are identifiers, and new.
use Rattle.std.proofs.Common.{◌≡◌, ℕ, zero, suc, ◌<◌, ◌≤◌, ◌+◌, ◌*◌, ◌-◌, ◌^◌, List, [], ◌∷◌, ◌++◌, length, Bool, true, false, refl, sym, ap, subst, ◌∙◌, arith, inl, inr, codes, decimal, append_assoc, append-nil, rules}
use Rattle.std.specs.Prelude.{◌⊎◌, not}
use Rattle.std.specs.Str.{all_ascii_digits}
use Rattle.std.specs.Char.{is_ascii_digit}
use Rattle.std.specs.List.{AllByRecursion, Contains, list_all}
use Rattle.std.proofs.lemmas.Bool.{and_parts, and_from}
use Rattle.std.proofs.lemmas.Bool.Decides.{nat_tests}
use Rattle.std.proofs.lemmas.Fmt.{decimal_injective, digits_decimal}
use Rattle.std.proofs.lemmas.Str.Parse.{IsNumeralModel, numerals_by_fold}
use Rattle.std.proofs.lemmas.List.{append_cancel_left, append_cancel_right, map_push}
use Rattle.mz_base.specs.Words.{is_word, is_word_byte, is_keyword, is_identifier}
use Rattle.fz_program.specs.Names.{Name}
use Rattle.fz_program.specs.Flat.{Variable, ArrayItem, Program, labels, labels_of, array_labels, AreDistinct}
use Rattle.fz_program.proofs.Labels.{contains_both, contains_one}
use Rattle.fz_build.specs.Naming.{introduced_name, IsNamed, AreNamed, number_after, next_from, next_number}
use Rattle.fz_build.proofs.Lists.{all_append}

-- ---- identifiers

abbrev read_on : ℕ → List ℕ → ℕ
read_on n [] = n
read_on n (c ∷ cs) = read_on (10 * n + (c - 48)) cs

own : IsNumeralModel (λ ds. all_ascii_digits ds ≡ true) (read_on 0)
own = numerals_by_fold _ (search rules) read_on (search rules)

digits_are_words : (ds : List ℕ) → all_ascii_digits ds ≡ true → list_all is_word_byte ds ≡ true
digits_are_words [] h = refl
digits_are_words (d ∷ ds) h = let b = and_parts (is_ascii_digit d) (all_ascii_digits ds) h in and_from (is_word_byte d) (list_all is_word_byte ds) (digit_is_word d b.0) (digits_are_words ds b.1)
  where
    digit_is_word : (d : ℕ) → is_ascii_digit d ≡ true → is_word_byte d ≡ true
    digit_is_word d h = grind (arith, nat_tests)

decimal_is_word : (k : ℕ) → k < 2 ^ 64 → list_all is_word_byte (decimal k) ≡ true
decimal_is_word k h = digits_are_words (decimal k) (digits_decimal own k h)

no_keyword : (bs : List ℕ) → is_keyword (88 ∷ bs) ≡ false
unfolding is_keyword
no_keyword bs = refl

pub is_name : (k : ℕ) → k < 2 ^ 64 → is_identifier (introduced_name k) ≡ true
is_name k h = and_from (is_word (introduced_name k)) (not (is_keyword (introduced_name k)))
    (all_append is_word_byte (decimal k) (95 ∷ []) (decimal_is_word k h) refl)
    (ap not (no_keyword _))

pub same_number : (j k : ℕ) → j < 2 ^ 64 → k < 2 ^ 64 → introduced_name j ≡ introduced_name k → j ≡ k
same_number j k h l e = decimal_injective j k h l (append_cancel_left (codes "X_INTRODUCED_") (decimal j) (decimal k) (append_cancel_right (codes "X_INTRODUCED_" ++ decimal j) (codes "X_INTRODUCED_" ++ decimal k) (codes "_") e))

-- ---- numbers

pub after_more : (b : Bool) (n : ℕ) → n ≤ number_after b n
after_more true n = omega arith
after_more false n = omega arith

pub next_more : (n : ℕ) (vs : List Variable) → n ≤ next_from n vs
next_more n [] = omega arith
next_more n (v ∷ vs) = let a = after_more v.introduced n in let b = next_more (number_after v.introduced n) vs in omega (arith, a, b)

after_most : (b : Bool) (n : ℕ) → number_after b n ≤ n + 1
after_most true n = omega arith
after_most false n = omega arith

pub next_most : (n : ℕ) (vs : List Variable) → next_from n vs ≤ n + length vs
next_most n [] = omega arith
next_most n (v ∷ vs) = let a = after_most v.introduced n in let b = next_most (number_after v.introduced n) vs in omega (arith, a, b)

pub next_push : (n : ℕ) (vs : List Variable) (v : Variable) → next_from n (vs ++ v ∷ []) ≡ number_after v.introduced (next_from n vs)
next_push n [] v = refl
next_push n (w ∷ vs) v = next_push (number_after w.introduced n) vs v

pub named_push : (n : ℕ) (vs : List Variable) (v : Variable) → AreNamed n vs → IsNamed v.introduced (next_from n vs) v.label → AreNamed n (vs ++ v ∷ [])
named_push n [] v a h = (h, tt)
named_push n (w ∷ vs) v a h = (a.0, named_push (number_after w.introduced n) vs v a.1 h)

-- ---- new names

no_such : (b : Bool) (n k : ℕ) (x : Name) → IsNamed b n x → number_after b n ≤ k → k < 2 ^ 64 → x ≡ introduced_name k → ⊥
no_such true n k x h l m e = let s = same_number n k (omega (arith, l, m)) m (sym h ∙ e) in omega (arith, l, s)
no_such false n k x h l m e = h k e

fresh_variables : (n k : ℕ) (vs : List Variable) → AreNamed n vs → next_from n vs ≤ k → k < 2 ^ 64 → Contains (labels_of vs) (introduced_name k) → ⊥
fresh_variables n k [] a l m h = absurd (omega (arith, h.1))
fresh_variables n k (v ∷ vs) a l m (zero, below, at) = no_such v.introduced n k v.label a.0 (let b = next_more (number_after v.introduced n) vs in omega (arith, b, l)) m at
fresh_variables n k (v ∷ vs) a l m (suc i, below, at) = fresh_variables (number_after v.introduced n) k vs a.1 l m (i, omega (arith, below), at)

fresh_arrays : (k : ℕ) (xs : List ArrayItem) → AllByRecursion (λ a. IsNamed false 0 a.label) xs → Contains (array_labels xs) (introduced_name k) → ⊥
fresh_arrays k [] a h = absurd (omega (arith, h.1))
fresh_arrays k (x ∷ xs) a (zero, below, at) = a.0 k at
fresh_arrays k (x ∷ xs) a (suc i, below, at) = fresh_arrays k xs a.1 (i, omega (arith, below), at)

pub fresh : (p : Program) → AreNamed 0 p.vars → AllByRecursion (λ a. IsNamed false 0 a.label) p.arrays → next_number p.vars < 2 ^ 64 → Contains (labels p) (introduced_name (next_number p.vars)) → ⊥
fresh p a b m h = elim (contains_one (labels_of p.vars) (array_labels p.arrays) (introduced_name (next_number p.vars)) h) [
  | inl l ↦ fresh_variables 0 (next_number p.vars) p.vars a (omega arith) m l
  | inr r ↦ fresh_arrays (next_number p.vars) p.arrays b r
]

-- ---- distinct names

single : (x z : Name) → Contains (x ∷ []) z → x ≡ z
single x z (zero, below, at) = at
single x z (suc i, below, at) = absurd (omega (arith, below))

with_one : (xs ys : List Name) (x z : Name) → Contains ((xs ++ x ∷ []) ++ ys) z → Contains (xs ++ ys) z ⊎ (x ≡ z)
with_one xs ys x z h = elim (contains_one (xs ++ x ∷ []) ys z h) [
  | inl l ↦ elim (contains_one xs (x ∷ []) z l) [ inl a ↦ inl (contains_both xs ys z (inl a)) | inr b ↦ inr (single x z b) ]
  | inr r ↦ inl (contains_both xs ys z (inr r))
]

first_there : (xs : List Name) (z : Name) → Contains (z ∷ xs) z
first_there xs z = (zero, omega arith, refl)

later_there : (xs : List Name) (y z : Name) → Contains xs z → Contains (y ∷ xs) z
later_there xs y z h = (suc h.0, omega (arith, h.1), h.2)

pub distinct_with : (xs ys : List Name) (x : Name) → AreDistinct (xs ++ ys) → (Contains (xs ++ ys) x → ⊥) → AreDistinct ((xs ++ x ∷ []) ++ ys)
distinct_with [] ys x d n = (n, d)
distinct_with (z ∷ xs) ys x d n = (
  λ h. elim (with_one xs ys x z h) [ inl l ↦ d.0 l | inr e ↦ n (subst (Contains (z ∷ (xs ++ ys))) (sym e) (first_there (xs ++ ys) z)) ],
  distinct_with xs ys x d.1 (λ h. n (later_there (xs ++ ys) z x h)),
)

pub distinct_variable : (p : Program) (v : Variable) → AreDistinct (labels p) → (Contains (labels p) v.label → ⊥) → AreDistinct (labels_of (p.vars ++ v ∷ []) ++ array_labels p.arrays)
distinct_variable p v d n = subst (λ xs. AreDistinct (xs ++ array_labels p.arrays)) (sym (map_push (λ (w : Variable). w.label) p.vars v)) (distinct_with (labels_of p.vars) (array_labels p.arrays) v.label d n)

pub distinct_array : (p : Program) (a : ArrayItem) → AreDistinct (labels p) → (Contains (labels p) a.label → ⊥) → AreDistinct (labels_of p.vars ++ array_labels (p.arrays ++ a ∷ []))
distinct_array p a d n =
    let all = labels p in
    let step : AreDistinct ((all ++ a.label ∷ []) ++ []) = distinct_with all [] a.label (subst AreDistinct (sym (append-nil all)) d) (λ h. n (subst (λ xs. Contains xs a.label) (append-nil all) h)) in
    subst AreDistinct (append-nil (all ++ a.label ∷ []) ∙ append_assoc (labels_of p.vars) (array_labels p.arrays) (a.label ∷ []) ∙ ap (λ xs. labels_of p.vars ++ xs) (sym (map_push (λ (b : ArrayItem). b.label) p.arrays a))) step
