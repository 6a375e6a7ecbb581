-- Constants, and what is guarded: no variable is needed.
use Rattle.std.proofs.Common.{◌≡◌, ℕ, zero, suc, ℤ, pos, negsuc, ◌≤ℤ◌, int_le, Bool, true, false, ◌&&◌, List, [], ◌∷◌, map, take, Option, Some, None, IsSome, option_map, cond, slice_get, refl, sym, ap, subst, ◌∙◌, arith}
use Rattle.std.specs.Ordering.{int_eq}
use Rattle.std.specs.List.{AllByRecursion}
use Rattle.std.proofs.lemmas.Bool.{and_parts}
use Rattle.std.proofs.lemmas.Int.{ints}
use Rattle.mz_value.specs.Ranges.{Range}
use Rattle.mz_value.proofs.Comparisons.{int_le_true}
use Rattle.mz_interval.specs.Ends.{Ends, is_number, if_in_limit}
use Rattle.mz_operations.specs.Laws.{IsSet}
use Rattle.mz_operations.specs.Views.{◌>>=◌}
use Rattle.mz_arena.specs.declared.node.Node.{Node}
use Rattle.mz_arena.specs.declared.node.NodeKind.{NodeKind}
use Rattle.mz_arena.specs.declared.node.NodeKind.TheVariants as kinds
use Rattle.mz_arena.specs.Entries.{Entry, at, arity, children, is_free, is_set_const}
use Rattle.mz_arena.specs.Values as terms
use Rattle.mz_arena.specs.Values.{Term, guard_term, is_true}
use Rattle.mz_arena.specs.Terms.{term, kind_term}
use Rattle.mz_arena.specs.Extents.{Known, whole, truth, subset, wholes, truths, subsets, empty, as_truth, as_single, extent, kind_extent, in_limit, is_bit, bool_extent, guard_extent, guarded_extent}
use Rattle.mz_arena.specs.Arenas.{IsSetConst}
use Rattle.mz_arena.proofs.Terms as laws
use Rattle.mz_partial.specs.Totals.{IsTotal}
use Rattle.fz_program.specs.declared.row_name.Kind.TheVariants.{Int, Bool as Truth, Set}
use Rattle.fz_program.specs.Arguments.{Plain, bool, int, set}
use Rattle.fz_program.specs.Flat.{Variable, number_of_truth, same_kind, is_literal, is_constant, is_plain}
use Rattle.fz_program.proofs.Sets.{set_is}
use Rattle.flat_reif_rows.specs.Standing.{LiesWithin, Suits}
use Rattle.flat_reif_rows.proofs.Truths.{truth_within}
use Rattle.flat_reif.specs.States.{State, IsState, put_at}
use Rattle.flat_reif.specs.Lists.{HasArg, IsGiven, IsReady, Gives}
use Rattle.flat_reif.specs.NodeKinds.{is_scalar, scalar}
use Rattle.flat_reif.proofs.Steps.{Stands}
use Rattle.flat_reif.proofs.Nodes.{term_here, extent_here, total_value, same_stands}
use Rattle.flat_reif.proofs.Kids.{guard_kids}
use Rattle.flat_reif.proofs.Given.{has_arg, gives_at}
use Rattle.flat_reif.proofs.Choosing.{limit_is}

-- ---- bounds of constants

number_both : (e : Ends) (b : Bool) → cond (b && b) (Some e) None ≡ Some e → b ≡ true
number_both e true h = refl
number_both e false h = absurd (cc)

number_of : (n : ℤ) → if_in_limit (n, n) ≡ Some (n, n) → is_number n ≡ true
number_of n h = number_both (n, n) (is_number n) h

bit_ends : (n : ℤ) → is_bit n ≡ true → (pos 0 ≤ℤ n) × (n ≤ℤ pos 1)
bit_ends n h = let p = and_parts (int_le (pos 0) n) (int_le n (pos 1)) h in (above (pos 0) n p.0, above n (pos 1) p.1)
  where
    above : (a b : ℤ) → int_le a b ≡ true → a ≤ℤ b
    above a b h = grind (arith, ints)

bit_known : (n : ℤ) (b : Bool) (x : Known) → IsSome (cond b x None) → b ≡ true
bit_known n true x h = refl
bit_known n false x h = absurd (cc)

bool_bit : (n : ℤ) → IsSome (bool_extent n) → (pos 0 ≤ℤ n) × (n ≤ℤ pos 1)
unfolding bool_extent
bool_bit n h = bit_ends n (bit_known n (is_bit n) _ h)

pub int_sort : (vs : List Variable) (n : ℤ) → is_literal n ≡ true → is_plain vs Int (int n) ≡ true
unfolding is_plain is_constant same_kind
int_sort vs n h = h

pub int_suits : (vs : List Variable) (n : ℤ) → IsSome (in_limit (n, n)) → Suits vs (int n) (in_limit (n, n))
int_suits vs n h =
    let limit : if_in_limit (n, n) ≡ Some (n, n) = limit_is (n, n) h in
    let lies : LiesWithin Int vs (int n) (n, n) = record {
      sort = int_sort vs n (number_of n limit);
      interval = ap (λ b. cond b (if_in_limit (n, n)) None) (int_le_true n n (omega (arith, ints))) ∙ limit;
      from = omega (arith, ints);
      to = omega (arith, ints);
    } in
    subst (λ o. Suits vs (int n) (option_map whole o)) (sym limit) lies

pub bool_sort : (vs : List Variable) (b : Bool) → is_plain vs Truth (bool b) ≡ true
unfolding is_plain is_constant same_kind
bool_sort vs b = refl

pub bool_suits : (vs : List Variable) (n : ℤ) → IsSome (bool_extent n) → Suits vs (bool (int_eq n (pos 1))) (bool_extent n)
unfolding bool_extent
bool_suits vs (pos zero) h = record { sort = bool_sort vs false; interval = refl; from = omega (arith, ints); to = omega (arith, ints) }
bool_suits vs (pos (suc zero)) h = record { sort = bool_sort vs true; interval = refl; from = omega (arith, ints); to = omega (arith, ints) }
bool_suits vs (pos (suc (suc k))) h = let b = bool_bit (pos (suc (suc k))) h in absurd (omega (arith, ints, b.1))
bool_suits vs (negsuc k) h = let b = bool_bit (negsuc k) h in absurd (omega (arith, ints, b.0))

bool_value : (n : ℤ) → IsSome (bool_extent n) → number_of_truth (int_eq n (pos 1)) ≡ n
unfolding bool_extent
bool_value (pos zero) h = refl
bool_value (pos (suc zero)) h = refl
bool_value (pos (suc (suc k))) h = let b = bool_bit (pos (suc (suc k))) h in absurd (omega (arith, ints, b.1))
bool_value (negsuc k) h = let b = bool_bit (negsuc k) h in absurd (omega (arith, ints, b.0))

pub set_sort : (vs : List Variable) (u : List Range) → IsSet u → is_plain vs Set (set u) ≡ true
unfolding is_plain is_constant same_kind
set_sort vs u h = set_is u h.0 h.1

pub set_suits : (vs : List Variable) (u : List Range) → IsSet u → Suits vs (set u) (Some (subset u))
set_suits vs u h = record { sort = set_sort vs u h; own = h; upper = h; part = record { inside = λ x i. i } }

-- ---- what is guarded

guarded_suits : (vs : List Variable) (p : Plain) (y : Known) → Suits vs p y → IsSome (as_single y >>= guarded_extent) → Suits vs p (as_single y >>= guarded_extent)
guarded_suits vs p None s h = absurd s
guarded_suits vs p (Some (whole e)) s h = s
guarded_suits vs p (Some (truth e)) s h = truth_within vs p s.sort
guarded_suits vs p (Some (subset u)) s h = s
guarded_suits vs p (Some (wholes es)) s h = absurd s
guarded_suits vs p (Some truths) s h = absurd s
guarded_suits vs p (Some (subsets us)) s h = absurd s
guarded_suits vs p (Some empty) s h = absurd s

guard_suits : (vs : List Variable) (p : Plain) (x y : Known) → Suits vs p y → IsSome (guard_extent x y) → Suits vs p (guard_extent x y)
unfolding guard_extent
guard_suits vs p x y s h = by (as_truth x) h
  where
    by : (o : Option Ends) → IsSome (o >>= λ c. as_single y >>= guarded_extent) → Suits vs p (o >>= λ c. as_single y >>= guarded_extent)
    by None h = absurd (cc)
    by (Some e) h = guarded_suits vs p y s h

guard_value : (x y : Term) → IsSome (guard_term x y) → guard_term x y ≡ y
unfolding guard_term
guard_value x y h = by (is_true x) h
  where
    by : (b : Bool) → IsSome (cond b y None) → cond b y None ≡ y
    by true h = refl
    by false h = absurd (cc)

-- ---- the nodes

some_of : (t : Term) (x : terms.Val) → t ≡ Some x → IsSome t
some_of None x h = absurd (cc)
some_of (Some y) x h = refl

module _ (s : State) (id : ℕ) (e : Entry) (g : IsState s) (is : slice_get s.es id ≡ Some e) (none : at s.args id ≡ None) where
  abbrev vs : List Variable
  vs = s.prog.vars

  kind_here : (k : NodeKind) → e.node.kind ≡ k → extent s.es id ≡ kind_extent e k (map (extent s.es) (take (arity k) (e.node.a ∷ e.node.b ∷ e.node.c ∷ [])))
  kind_here k kind = extent_here s id e g is ∙ ap (λ j. kind_extent e j (map (extent s.es) (take (arity j) (e.node.a ∷ e.node.b ∷ e.node.c ∷ [])))) kind

  term_kind : (v : terms.Values) (k : NodeKind) → e.node.kind ≡ k → term v s.es id ≡ kind_term v e k (map (term v s.es) (take (arity k) (e.node.a ∷ e.node.b ∷ e.node.c ∷ [])))
  term_kind v k kind = term_here s id e v g is ∙ ap (λ j. kind_term v e j (map (term v s.es) (take (arity j) (e.node.a ∷ e.node.b ∷ e.node.c ∷ [])))) kind

  there : {x : Known} → extent s.es id ≡ x → IsSome x
  there same = subst (λ (z : Known). IsSome z) same (g.arena.bounded id e is)

  scalar_by : (k : NodeKind) → e.node.kind ≡ k → is_scalar k ≡ true → Stands s s.prog id (scalar k e.node.number)
  scalar_by kinds.Int kind h =
      same_stands s id e (int e.node.number) g is (ap is_free kind) none tt (subst (Suits vs (int e.node.number)) (sym (kind_here kinds.Int kind)) (int_suits vs e.node.number (there (kind_here kinds.Int kind)))) (λ v f d m. term_kind v kinds.Int kind)
  scalar_by kinds.Bool kind h =
      let some : IsSome (bool_extent e.node.number) = there (kind_here kinds.Bool kind) in
      same_stands s id e (bool (int_eq e.node.number (pos 1))) g is (ap is_free kind) none tt (subst (Suits vs (bool (int_eq e.node.number (pos 1)))) (sym (kind_here kinds.Bool kind)) (bool_suits vs e.node.number some))
      (λ v f d m. term_kind v kinds.Bool kind ∙ ap (λ n. Some (terms.number n)) (sym (bool_value e.node.number some)))
  scalar_by _ kind h = absurd (cc)

  set_stands : e.node.kind ≡ kinds.SetConst → Stands s s.prog id (set e.set)
  set_stands kind =
      same_stands s id e (set e.set) g is (ap is_free kind) none tt (subst (Suits vs (set e.set)) (sym (kind_here kinds.SetConst kind)) (set_suits vs e.set (g.arena.canonical id e is (ap is_set_const kind)))) (λ v f d m. term_kind v kinds.SetConst kind)

  guard_stands : (p : Plain) → e.node.kind ≡ kinds.Guard → IsTotal s.es id → at s.args e.node.b ≡ Some p → Stands s s.prog id p
  guard_stands p kind total h =
      same_stands s id e p g is (ap is_free kind) none (g.places e.node.b p h)
      (subst (Suits vs p) (sym (kind_here kinds.Guard kind)) (guard_suits vs p (extent s.es e.node.a) (extent s.es e.node.b) (g.suits e.node.b p h) (there (kind_here kinds.Guard kind))))
      (λ v f d m.
      let x = total_value s.es id v total (laws.domains_lie s.es g.arena v d) in
      let here = term_kind v kinds.Guard kind in
      here ∙ guard_value (term v s.es e.node.a) (term v s.es e.node.b) (some_of (guard_term (term v s.es e.node.a) (term v s.es e.node.b)) x.value (sym here ∙ x.is)) ∙ g.right v f d m e.node.b p h)

-- in the words of the node

pub scalar_given : (s : State) (id : ℕ) (n : Node) → IsState s → IsReady s id n → is_scalar n.kind ≡ true → (out : Plain) (args : List (Option Plain)) → out ≡ scalar n.kind n.number → args ≡ put_at s.args id out → Gives s (record { es = s.es; prog = s.prog; args = args }) id
scalar_given s id n g r kind out args is put =
    let h = r.at_id in
    let stands = subst (λ (m : Node). is_scalar m.kind ≡ true → Stands s s.prog id (scalar m.kind m.number)) h.node (λ k. scalar_by s id h.entry g h.is r.none h.entry.node.kind refl k) kind in
    gives_at s s.prog id out args g (subst (Stands s s.prog id) (sym is) stands) put

same_set : (x y : List Range) → Some x ≡ Some y → x ≡ y
same_set x y h = cc

pub set_given : (s : State) (id : ℕ) (n : Node) → IsState s → IsReady s id n → n.kind ≡ kinds.SetConst → (u : List Range) (out : Plain) (args : List (Option Plain)) → option_map (λ (e : Entry). e.set) (slice_get s.es id) ≡ Some u → out ≡ set u → args ≡ put_at s.args id out → Gives s (record { es = s.es; prog = s.prog; args = args }) id
set_given s id n g r kind u out args of is put =
    let h = r.at_id in
    let same : h.entry.set ≡ u = same_set h.entry.set u (sym (ap (option_map (λ (e : Entry). e.set)) h.is) ∙ of) in
    gives_at s s.prog id out args g (subst (Stands s s.prog id) (ap set same ∙ sym is) (set_stands s id h.entry g h.is r.none (ap (λ (m : Node). m.kind) h.node ∙ kind))) put

pub const_here : (s : State) (id : ℕ) (n : Node) → IsReady s id n → n.kind ≡ kinds.SetConst → IsSetConst s.es id
const_here s id n r kind = let h = r.at_id in record { there = h.entry; stands = h.is; is = ap is_set_const (ap (λ (m : Node). m.kind) h.node ∙ kind) }

children_guard : (n : Node) → n.kind ≡ kinds.Guard → children n ≡ n.a ∷ n.b ∷ []
children_guard n h = ap (λ k. take (arity k) (n.a ∷ n.b ∷ n.c ∷ [])) h

pub have_guarded : (s : State) (id : ℕ) (n : Node) → IsState s → IsReady s id n → n.kind ≡ kinds.Guard → HasArg s n.b
have_guarded s id n g r kind =
    let h = r.at_id in
    let given = subst (AllByRecursion (IsGiven s)) (children_guard n kind) r.given in
    let some : IsSome (kind_extent h.entry kinds.Guard (map (extent s.es) (h.entry.node.a ∷ h.entry.node.b ∷ []))) = there s id h.entry g h.is r.none (kind_here s id h.entry g h.is r.none kinds.Guard (ap (λ (m : Node). m.kind) h.node ∙ kind)) in
    has_arg s g n.b given.1.0 (guard_kids (extent s.es n.a) (extent s.es n.b) (subst (λ (m : Node). IsSome (guard_extent (extent s.es m.a) (extent s.es m.b))) h.node some)).1

pub guard_given : (s : State) (id : ℕ) (n : Node) → IsState s → IsReady s id n → n.kind ≡ kinds.Guard → (out : Plain) (args : List (Option Plain)) → at s.args n.b ≡ Some out → args ≡ put_at s.args id out → Gives s (record { es = s.es; prog = s.prog; args = args }) id
guard_given s id n g r kind out args b put =
    let h = r.at_id in
    gives_at s s.prog id out args g (guard_stands s id h.entry g h.is r.none out (ap (λ (m : Node). m.kind) h.node ∙ kind) r.total (subst (λ (m : Node). at s.args m.b ≡ Some out) (sym h.node) b)) put
