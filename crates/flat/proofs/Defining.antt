-- The introduced variables of a program that is made step by step, in the words of faithfulness.
use Rattle.std.proofs.Common.{◌≡◌, ◌⊎◌, ℕ, zero, suc, ◌+◌, ◌-◌, ◌<◌, ◌≤◌, List, [], ◌∷◌, ◌++◌, length, slice_get, filter, Bool, true, false, not, Option, Some, None, IsSome, cond, nat_eq, inl, inr, refl, sym, ap, ap₂, subst, ◌∙◌, arith, append-nil, length-append, negsuc}
use Rattle.std.specs.List.{AllByRecursion}
use Rattle.std.proofs.lemmas.Bool.Decides.{nat_tests}
use Rattle.mz_arena.specs.Entries.{Entry, at, is_local}
use Rattle.mz_arena.specs.Numbering.{local_ids, local_ids_from}
use Rattle.fz_program.specs.Arguments.{Plain, var, int, bool, set, nested, Argument, one, array}
use Rattle.fz_program.specs.Flat.{Variable, Row, Program}
use Rattle.fz_build.specs.Inputs.{is_sum, argument_in, argument_at, elements_in, elements_at}
use Rattle.fz_build.specs.Build.{IsOver, IsArgumentOver, AreOver, args_by, args_with, sum_with, defining, constraint, defined_variable, introduced_variable, with_row, with_variable, with_defined}
use Rattle.fz_build.specs.History as history
use Rattle.fz_build.specs.History.{IsFront, IsOfModel, Made, begins, adds_row, adds_defined, adds_choice, is_place, definitions_of, HasDefinition, HaveDefinitions, IsMadeOf}
use Rattle.fz_build.proofs.Lists.{each_from}
use Rattle.flat_meaning.specs.Defined as emission
use Rattle.flat_meaning.specs.Defined.{is_defining, IsUpTo, IsArgumentUpTo, IsDefinedBy, DefinedOnce}
use Rattle.flat_meaning.specs.Faithful as meaning
use Rattle.flat_reif.specs.States.{one_choice, given_choices}

-- ---- names and marks

pub introduced_are : (k : ℕ) (vs : List Variable) → history.AreIntroduced k vs → meaning.AreIntroduced k vs
introduced_are k [] h = tt
introduced_are k (v ∷ vs) h = (record { label = h.0.label; introduced = h.0.introduced; output = h.0.output }, introduced_are (suc k) vs h.1)

-- ---- definitions

same_test : (k : ℕ) (o : Option ℕ) → is_defining k o ≡ is_place k o
same_test k None = refl
same_test k (Some j) = refl

defining_is : (k : ℕ) (rows : List Row) → emission.defining k rows ≡ definitions_of k rows
defining_is k [] = refl
defining_is k (r ∷ rows) = ap₂ (λ b more. cond b (r ∷ more) more) (same_test k r.defines) (defining_is k rows)

up_to : (k : ℕ) (p : Plain) → IsOver k p → IsUpTo k p
up_to k (var j) h = inr h
up_to k (bool b) h = tt
up_to k (int n) h = tt
up_to k (set s) h = tt
up_to k nested h = tt

argument_up_to : (k : ℕ) (a : Argument) → IsArgumentOver k a → IsArgumentUpTo k a
argument_up_to k (one p) h = up_to k p h
argument_up_to k (array ps) h = each_from (IsOver k) (IsUpTo k) ps (up_to k) h

each_last : {X : Type 0} (P : X → Type 0) (xs : List X) (x : X) → AllByRecursion P xs → P x → AllByRecursion P (xs ++ x ∷ [])
each_last P [] y a h = (h, tt)
each_last P (x ∷ xs) y a h = (a.0, each_last P xs y a.1 h)

at_over : (k : ℕ) (inputs : List Argument) (n : ℕ) → AreOver k inputs → IsArgumentOver k (argument_at inputs n)
at_over k [] n h = tt
at_over k (a ∷ inputs) zero h = h.0
at_over k (a ∷ inputs) (suc n) h = at_over k inputs n h.1

elements_over : (k : ℕ) (a : Argument) → IsArgumentOver k a → AllByRecursion (IsUpTo k) (elements_in a)
elements_over k (one p) h = tt
elements_over k (array ps) h = each_from (IsOver k) (IsUpTo k) ps (up_to k) h

args_up_to : (b : Bool) (inputs : List Argument) (k : ℕ) → AreOver k inputs → AllByRecursion (IsArgumentUpTo k) (args_by b inputs k)
args_up_to false inputs k h = each_last (IsArgumentUpTo k) inputs (one (var k)) (each_from (IsArgumentOver k) (IsArgumentUpTo k) inputs (argument_up_to k) h) (inl refl)
args_up_to true inputs k h = (
  each_last (IsUpTo k) (elements_at inputs 0) (int (negsuc 0)) (elements_over k (argument_at inputs 0) (at_over k inputs 0 h)) tt,
  (
    each_last (IsUpTo k) (elements_at inputs 1) (var k) (elements_over k (argument_at inputs 1) (at_over k inputs 1 h)) (inl refl),
    (argument_up_to k (argument_at inputs 2) (at_over k inputs 2 h), tt),
  ),
)

once_is : (rows : List Row) (k : ℕ) → history.IsDefinedOnce rows k → emission.IsDefinedOnce rows k
once_is rows k h = record {
  row = defining h.name h.inputs k;
  only = defining_is k rows ∙ h.only;
  before = args_up_to (is_sum h.name) h.inputs k h.before;
}

defined_by : (b : Bool) (rows : List Row) (k : ℕ) → HasDefinition b rows k → IsDefinedBy b rows k
defined_by true rows k h = once_is rows k h
defined_by false rows k h = defining_is k rows ∙ h

-- ---- no row defines a variable of the model

longer : (front p : Program) (n : ℕ) → Made front p n → length front.vars ≤ length p.vars
longer front p n begins = omega arith
longer front p n (adds_row q k name args m w) = longer front q k m
longer front p n (adds_defined q k name inputs domain m d) = let l = longer front q k m in let s = length-append q.vars (defined_variable q domain ∷ []) in omega (arith, l, s)
longer front p n (adds_choice q k domain m) = let l = longer front q k m in let s = length-append q.vars (introduced_variable q domain ∷ []) in omega (arith, l, s)

definitions_push : (k : ℕ) (rows : List Row) (r : Row) → definitions_of k (rows ++ r ∷ []) ≡ definitions_of k rows ++ cond (is_place k r.defines) (r ∷ []) []
definitions_push k [] r = refl
definitions_push k (x ∷ rows) r = by (is_place k x.defines) (definitions_push k rows r)
  where
    by : (b : Bool) → definitions_of k (rows ++ r ∷ []) ≡ definitions_of k rows ++ cond (is_place k r.defines) (r ∷ []) [] → cond b (x ∷ definitions_of k (rows ++ r ∷ [])) (definitions_of k (rows ++ r ∷ [])) ≡ cond b (x ∷ definitions_of k rows) (definitions_of k rows) ++ cond (is_place k r.defines) (r ∷ []) []
    by true e = ap (λ rs. x ∷ rs) e
    by false e = e

other_row : (k : ℕ) (rows : List Row) (r : Row) → is_place k r.defines ≡ false → definitions_of k rows ≡ [] → definitions_of k (rows ++ r ∷ []) ≡ []
other_row k rows r h e = definitions_push k rows r ∙ ap (λ b. definitions_of k rows ++ cond b (r ∷ []) []) h ∙ append-nil (definitions_of k rows) ∙ e

other_place : (j k : ℕ) → k < j → nat_eq j k ≡ false
other_place j k h = grind (arith, nat_tests)

front_undefined : (front p : Program) (n k : ℕ) → IsFront front → Made front p n → k < length front.vars → definitions_of k p.rows ≡ []
front_undefined front p n k f begins h = ap (definitions_of k) f.rows
front_undefined front p n k f (adds_row q i name args m w) h = other_row k q.rows (constraint name args) refl (front_undefined front q i k f m h)
front_undefined front p n k f (adds_defined q i name inputs domain m d) h =
    let l = longer front q i m in
    other_row k q.rows (defining name inputs (length q.vars)) (other_place (length q.vars) k (omega (arith, l, h))) (front_undefined front q i k f m h)
front_undefined front p n k f (adds_choice q i domain m) h = front_undefined front q i k f m h

-- ---- defined once

of_model : (vs : List Variable) (k : ℕ) (v : Variable) → AllByRecursion IsOfModel vs → slice_get vs k ≡ Some v → v.defined ≡ false
of_model [] k v a h = absurd (cc)
of_model (w ∷ vs) zero v a h = let e : w ≡ v = cc in subst (λ (x : Variable). x.defined ≡ false) e a.0.defined
of_model (w ∷ vs) (suc k) v a h = of_model vs k v a.1 h

have_at : (rows : List Row) (k : ℕ) (vs : List Variable) (n : ℕ) (v : Variable) → HaveDefinitions rows k vs → slice_get vs n ≡ Some v → HasDefinition v.defined rows (k + n)
have_at rows k [] n v h e = absurd (cc)
have_at rows k (w ∷ vs) zero v h e =
    let s : w ≡ v = cc in
    subst (λ (x : Variable). HasDefinition x.defined rows (k + 0)) s (subst (HasDefinition w.defined rows) (omega arith) h.0)
have_at rows k (w ∷ vs) (suc n) v h e = subst (HasDefinition v.defined rows) (omega arith) (have_at rows (suc k) vs n v h.1 e)

in_front : {A : Type 0} (xs ys : List A) (k : ℕ) → k < length xs → slice_get (xs ++ ys) k ≡ slice_get xs k
in_front [] ys k h = absurd (omega (arith, h))
in_front (x ∷ xs) ys zero h = refl
in_front (x ∷ xs) ys (suc k) h = in_front xs ys k (omega (arith, h))

in_rest : {A : Type 0} (xs ys : List A) (k : ℕ) → length xs ≤ k → slice_get (xs ++ ys) k ≡ slice_get ys (k - length xs)
in_rest [] ys k h = let none : k ≡ k - 0 = omega arith in ap (slice_get ys) none
in_rest (x ∷ xs) ys zero h = absurd (omega (arith, h))
in_rest (x ∷ xs) ys (suc k) h = let next : k - length xs ≡ suc k - suc (length xs) = omega arith in in_rest xs ys k (omega (arith, h)) ∙ ap (slice_get ys) next

module _ (front p : Program) (n : ℕ) (f : IsFront front) (made : Made front p n) (m : IsMadeOf front p n) where
  has : (k : ℕ) (v : Variable) → slice_get p.vars k ≡ Some v → HasDefinition v.defined p.rows k
  has k v h = by (le_or (length front.vars) k)
    where
      in_vars : slice_get (front.vars ++ m.introduced) k ≡ Some v
      in_vars = subst (λ vs. slice_get vs k ≡ Some v) m.vars h

      le_or : (a b : ℕ) → (b < a) ⊎ (a ≤ b)
      le_or zero b = inr (omega arith)
      le_or (suc a) zero = inl (omega arith)
      le_or (suc a) (suc b) = elim (le_or a b) [ inl l ↦ inl (omega (arith, l)) | inr l ↦ inr (omega (arith, l)) ]

      by : (k < length front.vars) ⊎ (length front.vars ≤ k) → HasDefinition v.defined p.rows k
      by (inl l) = subst (λ b. HasDefinition b p.rows k) (sym (of_model front.vars k v f.variables (sym (in_front front.vars m.introduced k l) ∙ in_vars))) (front_undefined front p n k f made l)
      by (inr l) = subst (HasDefinition v.defined p.rows) (omega (arith, l)) (have_at p.rows (length front.vars) m.introduced (k - length front.vars) v m.once (sym (in_rest front.vars m.introduced k l) ∙ in_vars))

  -- EACH introduced variable is defined once, but for the choices
  pub defined_once : (c : ℕ) → n ≡ c → DefinedOnce p m.introduced c
  defined_once c e = record { rows = λ k v h. defined_by v.defined p.rows k (has k v h); free = m.choices ∙ e }

-- ---- how many choices there are

no_local : (es : List Entry) (k : ℕ) → ((id : ℕ) (e : Entry) → slice_get es id ≡ Some e → is_local e.node.kind ≡ false) → local_ids_from k es ≡ []
unfolding local_ids_from
no_local [] k h = refl
no_local (e ∷ es) k h = ap (λ b. cond b (k ∷ local_ids_from (k + 1) es) (local_ids_from (k + 1) es)) (h 0 e refl) ∙ no_local es (k + 1) (λ id d l. h (suc id) d l)

no_count : (es : List Entry) (args : List (Option Plain)) → ((id : ℕ) (e : Entry) → slice_get es id ≡ Some e → is_local e.node.kind ≡ false) → given_choices es args ≡ 0
no_count [] args h = refl
no_count (e ∷ es) [] h = refl
no_count (e ∷ es) (a ∷ args) h = ap₂ (λ x n. x + n) (none (is_local e.node.kind) a (h 0 e refl)) (no_count es args (λ id d k. h (suc id) d k))
  where
    none : (b : Bool) (a : Option Plain) → b ≡ false → one_choice b a ≡ 0
    none true a f = absurd (cc)
    none false a f = refl

is_false : (b : Bool) → (b ≡ true → ⊥) → b ≡ false
is_false true h = absurd (h refl)
is_false false h = refl

one_counted : (b : Bool) (a : Option Plain) (k : ℕ) (ids : List ℕ) → (b ≡ true → IsSome a) → one_choice b a + length ids ≡ length (cond b (k ∷ ids) ids)
one_counted true (Some p) k ids h = omega arith
one_counted true None k ids h = absurd (let y = h refl in cc)
one_counted false a k ids h = omega arith

pub choices_counted : (xs ys : List Entry) (args : List (Option Plain)) (k : ℕ) → length xs ≤ length ys → ((id : ℕ) → id < length xs → slice_get ys id ≡ slice_get xs id) → ((id : ℕ) (e : Entry) → slice_get ys id ≡ Some e → is_local e.node.kind ≡ true → id < length xs) → ((id : ℕ) (e : Entry) → slice_get ys id ≡ Some e → is_local e.node.kind ≡ true → IsSome (at args id)) → given_choices ys args ≡ length (local_ids_from k xs)
unfolding local_ids_from
choices_counted [] ys args k l same frees given = no_count ys args (λ id e h. is_false (is_local e.node.kind) (λ t. (let m = frees id e h t in omega (arith, m))))
choices_counted (x ∷ xs) [] args k l same frees given = absurd (omega (arith, l))
choices_counted (x ∷ xs) (y ∷ ys) [] k l same frees given =
    let none : (id : ℕ) (e : Entry) → slice_get (y ∷ ys) id ≡ Some e → is_local e.node.kind ≡ false = λ id e h. is_false (is_local e.node.kind) (λ t. nothing id (given id e h t)) in
    ap length (sym (no_local (x ∷ xs) k (λ id e h. none id e (same id (below id (x ∷ xs) e h) ∙ h))))
  where
    nothing : (id : ℕ) → IsSome (at {A = Plain} [] id) → ⊥
    nothing id h = cc

    below : (id : ℕ) (zs : List Entry) (e : Entry) → slice_get zs id ≡ Some e → id < length zs
    below id [] e h = absurd (cc)
    below zero (z ∷ zs) e h = omega arith
    below (suc id) (z ∷ zs) e h = let m = below id zs e h in omega (arith, m)
choices_counted (x ∷ xs) (y ∷ ys) (a ∷ args) k l same frees given =
    let e : y ≡ x = head (same 0 (omega arith)) in
    ap₂ (λ (z : Entry) n. one_choice (is_local z.node.kind) a + n) e (choices_counted xs ys args (k + 1) (omega (arith, l)) (λ id h. same (suc id) (omega (arith, h))) (λ id d h t. (let m = frees (suc id) d h t in omega (arith, m))) (λ id d h t. given (suc id) d h t))
    ∙ one_counted (is_local x.node.kind) a k (local_ids_from (k + 1) xs) (λ t. given 0 x (ap Some e) t)
  where
    head : Some y ≡ Some x → y ≡ x
    head h = cc
