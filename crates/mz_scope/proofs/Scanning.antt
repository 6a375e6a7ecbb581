-- What the tests of names tell of the names that are declared and given values.
use Rattle.std.proofs.Common.{◌≡◌, ℕ, ◌+◌, ◌≤◌, inl, inr, Bool, true, false, List, [], ◌∷◌, ◌++◌, refl, ap, sym, subst, Option, Some, None, arith}
use Rattle.std.specs.Prelude.{◌&&◌, ◌||◌, not, nat_eq, if◌then◌else◌}
use Rattle.std.proofs.lemmas.Bool.{eqb-true}
use Rattle.mz_base.specs.declared.fault.Span.{Span}
use Rattle.mz_base.specs.declared.fault.Fault.{Fault}
use Rattle.mz_base.specs.declared.kind.Kind.{Kind}
use Rattle.mz_graph.proofs.Membership.{below_or_not}
use Rattle.mz_scope_names.specs.declared.occurrence.Occurrence.{Occurrence}
use Rattle.mz_scope_names.specs.declared.occurrence.Role.{Role}
use Rattle.mz_scope_names.specs.declared.occurrence.Role.TheVariants.{Declared, Overloaded, Valued, Used, Local, Lacking, Wanting, Caseless, Listed, Misfit}
use Rattle.mz_scope_names.specs.Sets.{holds}
use Rattle.mz_scope_names.proofs.Lists.{flat_of_both}
use Rattle.mz_scope.specs.Spaces.{declares, gives, name_in, names_with}
use Rattle.mz_scope.specs.Tests.{is_repeated, unknown_as, is_unknown, first, first_after, or_refused}
use Rattle.mz_scope.proofs.Counting.{one_if, count, counted_both, none_counted}

-- one occurrence passes, and the rest
pub passed : (b : Bool) (s : Span) (later : Option Span) → (if b then Some s else later) ≡ None → (b ≡ false) × (later ≡ None)
passed true s later e = absurd (cc)
passed false s later e = (refl, e)

-- one test passes, and the later ones
pub passes : (kind : Kind) (o : Option Span) (later : Option Fault) → or_refused kind o later ≡ None → (o ≡ None) × (later ≡ None)
passes kind (Some s) later e = absurd (cc)
passes kind None later e = (refl, e)

left_false : (d h r : Bool) → ((d && h) || r) ≡ false → d ≡ true → h ≡ false
left_false true true r e f = absurd (cc)
left_false true false r e f = refl
left_false false h r e f = absurd (cc)

right_false : (l g k : Bool) → (l || (g && k)) ≡ false → g ≡ true → k ≡ false
right_false true g k e f = absurd (cc)
right_false false true true e f = absurd (cc)
right_false false true false e f = refl
right_false false false k e f = absurd (cc)

not_declared : (before : List Occurrence) (o : Occurrence) → is_repeated before o ≡ false → declares o.role ≡ true → holds o.name (names_with declares before) ≡ false
not_declared before o e f = left_false (declares o.role) (holds o.name (names_with declares before)) (gives o.role && holds o.name (names_with gives before)) e f

not_given : (before : List Occurrence) (o : Occurrence) → is_repeated before o ≡ false → gives o.role ≡ true → holds o.name (names_with gives before) ≡ false
not_given before o e f = right_false (declares o.role && holds o.name (names_with declares before)) (gives o.role) (holds o.name (names_with gives before)) e f

-- one name more, which wasn't there
new_case : (b : Bool) (m n : ℕ) (ns : List ℕ) → nat_eq m n ≡ b → holds n ns ≡ false → count m ns ≤ 1 → count m ns + one_if b ≤ 1
new_case true m n ns e h l =
    let z = none_counted n ns h in
    let i : count m ns ≡ count n ns = ap (λ w. count w ns) (eqb-true m n e) in
    omega (arith, z, i)
new_case false m n ns e h l = omega (arith, l)

grown : (b : Bool) (m n : ℕ) (ns : List ℕ) → (b ≡ true → holds n ns ≡ false) → count m ns ≤ 1 → count m ns + count m (if b then n ∷ [] else []) ≤ 1
grown true m n ns h l = let r = new_case (nat_eq m n) m n ns refl (h refl) l in omega (arith, r)
grown false m n ns h l = omega (arith, l)

module _ (has : Role → Bool) (new : (before : List Occurrence) (o : Occurrence) → is_repeated before o ≡ false → has o.role ≡ true → holds o.name (names_with has before) ≡ false) where
  added : (n : ℕ) (before : List Occurrence) (o : Occurrence) → count n (names_with has (before ++ o ∷ [])) ≡ count n (names_with has before) + count n (name_in has o)
  added n before o =
      let a = ap (λ z. count n z) (flat_of_both (name_in has) before (o ∷ [])) in
      let b = counted_both n (names_with has before) (name_in has o ++ []) in
      let c = counted_both n (name_in has o) [] in
      omega (arith, a, b, c)

  scanned : (before os : List Occurrence) → ((n : ℕ) → count n (names_with has before) ≤ 1) → first_after is_repeated before os ≡ None → (n : ℕ) → count n (names_with has before) + count n (names_with has os) ≤ 1
  unfolding first_after
  scanned before [] h e n = let a = h n in omega (arith, a)
  scanned before (o ∷ os) h e n =
      let p = passed (is_repeated before o) o.span (first_after is_repeated (before ++ o ∷ []) os) e in
      let r = scanned (before ++ o ∷ []) os (λ m. let a = added m before o in let g = grown (has o.role) m o.name (names_with has before) (λ f. new before o p.0 f) (h m) in omega (arith, a, g)) p.1 n in
      let a = added n before o in
      let b = counted_both n (name_in has o) (names_with has os) in
      omega (arith, r, a, b)

  each_once : (os : List Occurrence) → first_after is_repeated [] os ≡ None → (n : ℕ) → count n (names_with has os) ≤ 1
  each_once os e n = let r = scanned [] os (λ m. omega arith) e n in omega (arith, r)

pub declared_once : (os : List Occurrence) → first_after is_repeated [] os ≡ None → (n : ℕ) → count n (names_with declares os) ≤ 1
declared_once os e n = each_once declares not_declared os e n

pub given_once : (os : List Occurrence) → first_after is_repeated [] os ≡ None → (n : ℕ) → count n (names_with gives os) ≤ 1
given_once os e n = each_once gives not_given os e n

-- what is given a value is declared

twice_not : (b : Bool) → not b ≡ false → b ≡ true
twice_not true e = refl
twice_not false e = absurd (cc)

known_as : (r : Role) (known : ℕ → Bool) (bound declared : List ℕ) (n : ℕ) → gives r ≡ true → unknown_as r known bound declared n ≡ false → holds n declared ≡ true
known_as Valued known bound declared n g e = twice_not (holds n declared) e
known_as Declared known bound declared n g e = absurd (cc)
known_as Overloaded known bound declared n g e = absurd (cc)
known_as Used known bound declared n g e = absurd (cc)
known_as Local known bound declared n g e = absurd (cc)
known_as Lacking known bound declared n g e = absurd (cc)
known_as Wanting known bound declared n g e = absurd (cc)
known_as Caseless known bound declared n g e = absurd (cc)
known_as Listed known bound declared n g e = absurd (cc)
known_as Misfit known bound declared n g e = absurd (cc)

same_case : (b : Bool) (n m : ℕ) → nat_eq n m ≡ b → 1 ≤ one_if b + 0 → n ≡ m
same_case true n m e l = eqb-true n m e
same_case false n m e l = absurd (omega (arith, l))

given_case : (b : Bool) (n : ℕ) (o : Occurrence) (known : ℕ → Bool) (bound declared : List ℕ) → gives o.role ≡ b → is_unknown known bound declared o ≡ false → 1 ≤ count n (if b then o.name ∷ [] else []) → holds n declared ≡ true
given_case true n o known bound declared g e l =
    subst (λ z. holds z declared ≡ true) (sym (same_case (nat_eq n o.name) n o.name refl l)) (known_as o.role known bound declared o.name g e)
given_case false n o known bound declared g e l = absurd (omega (arith, l))

pub given_declared : (known : ℕ → Bool) (bound declared : List ℕ) (os : List Occurrence) (n : ℕ) → first (is_unknown known bound declared) os ≡ None → 1 ≤ count n (names_with gives os) → holds n declared ≡ true
unfolding first
given_declared known bound declared [] n e l = absurd (omega (arith, l))
given_declared known bound declared (o ∷ os) n e l =
    let p = passed (is_unknown known bound declared o) o.span (first (is_unknown known bound declared) os) e in
    elim (below_or_not (count n (names_with gives os)) 1) [
      | inl k ↦ given_case (gives o.role) n o known bound declared refl p.0 (let b = counted_both n (name_in gives o) (names_with gives os) in omega (arith, l, b, k))
      | inr k ↦ given_declared known bound declared os n p.1 k
    ]
