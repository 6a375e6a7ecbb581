-- A node that no solution gives a value, though its children have one: no solution meets the state, and any argument of the node's sort will do.
use Rattle.std.proofs.Common.{◌≡◌, ℕ, zero, suc, ◌<◌, ◌≤◌, ℤ, pos, negsuc, ◌≤ℤ◌, int_le, Bool, true, false, ◌&&◌, List, [], ◌∷◌, length, map, take, Option, Some, None, IsSome, option_map, cond, slice_get, inl, inr, refl, sym, ap, ap₂, subst, ◌∙◌, arith}
use Rattle.std.specs.Prelude.{Result, Ok, Err, IfOk}
use Rattle.std.specs.List.{AllByRecursion}
use Rattle.std.proofs.lemmas.Int.{ints}
use Rattle.mz_value.proofs.Comparisons.{int_le_true}
use Rattle.mz_interval.specs.Ends.{Ends, Encloses, is_number, if_in_limit, if_interval, least_number, greatest_number}
use Rattle.mz_interval.specs.declared.interval.Interval.{Interval}
use Rattle.mz_interval.specs.Interval.{ends}
use Rattle.mz_operations.specs.declared.row.Arith.{Arith}
use Rattle.mz_operations.specs.declared.row.Arith.TheVariants as arith_row
use Rattle.mz_operations.specs.Numbers.{computed}
use Rattle.mz_operations.specs.Monotone.{MayDivide}
use Rattle.mz_operations.specs.Bounds as bounds
use Rattle.mz_operations.specs.Views.{◌>>=◌}
use Rattle.mz_arena.specs.declared.node.Node.{Node}
use Rattle.mz_arena.specs.declared.node.NodeKind.{NodeKind}
use Rattle.mz_arena.specs.declared.node.NodeKind.TheVariants as kinds
use Rattle.mz_arena.specs.declared.node.Sort.{Sort}
use Rattle.mz_arena.specs.declared.node.Sort.TheVariants as sorts
use Rattle.mz_arena.specs.Entries.{Entry, at, is_free, arity, children, of_two}
use Rattle.mz_arena.specs.Values as terms
use Rattle.mz_arena.specs.Values.{Term, Val, arith_term, access_term, cons_term, element_at, value_at}
use Rattle.mz_arena.specs.Terms.{term, kind_term}
use Rattle.mz_arena.specs.Extents.{Known, whole, truth, subset, wholes, truths, subsets, empty, as_whole, as_list, ends_in, sort_of, arith_bounds, arith_extent, access_extent, element_extent, extent, kind_extent}
use Rattle.mz_arena.specs.InBounds.{AreInDomains, HasSets}
use Rattle.mz_arena.proofs.Folds.{get-below}
use Rattle.mz_arena.proofs.Terms as laws
use Rattle.mz_partial.specs.Totals.{IsOpen, Counts}
use Rattle.fz_program.specs.declared.row_name.RowName.{RowName}
use Rattle.fz_program.specs.declared.row_name.Kind.TheVariants.{Int, Bool as Truth, Set}
use Rattle.fz_program.specs.declared.program.Arg.{Arg}
use Rattle.fz_program.specs.Arguments.{Plain, plain, plains, bool, int, set}
use Rattle.fz_program.specs.Values as values
use Rattle.fz_program.specs.Values.{Value, Values, number_in}
use Rattle.fz_program.specs.Flat.{Variable, plain_value}
use Rattle.fz_build.specs.Build.{IsOver}
use Rattle.fz_build.specs.Growth.{EndsEnclose}
use Rattle.fz_build.specs.Bounds.{ends_of}
use Rattle.flat_reif_rows.specs.Standing.{seen, LiesWithin, IsPartOf, Suits, of_kind, extent_over}
use Rattle.flat_reif_rows.specs.NodeRows.{row_of_two, HasDivisor}
use Rattle.flat_reif_rows.specs.Elements.{Reaches, ReachesNone, list_term, element_row}
use Rattle.flat_reif_rows.specs.Laws.{is_own}
use Rattle.flat_reif_rows.proofs.Sorts.{whole_of}
use Rattle.flat_reif_rows.proofs.NumberRows.{ordered}
use Rattle.flat_reif.specs.States.{State, Meets, IsState, put_at}
use Rattle.flat_reif.specs.Lists.{ListArgs, IsListed, HasArg, IsGiven, IsReady, Gives}
use Rattle.flat_reif.specs.NodeKinds.{divides, may_lack, row_of_element}
use Rattle.flat_reif.specs.Unmet.{IsUnmet, IsAny}
use Rattle.flat_reif.proofs.Nodes.{term_here, extent_here, total_value, AllHave, same_stands, term_told}
use Rattle.flat_reif.proofs.Kids.{Single, access_kids, whole_single}
use Rattle.flat_reif.proofs.Given.{has_arg, known_at, gives_at, all_two, two_arity}
use Rattle.flat_reif.proofs.Gathering.{list_value}
use Rattle.flat_reif.proofs.Accesses.{AreListed, list_listed}
use Rattle.flat_reif.proofs.Fixed.{int_sort, bool_sort, set_sort}

-- ---- any argument of a sort

number_first : (a b c : Bool) (e : Ends) → cond a (cond (b && c) (Some e) None) None ≡ Some e → b ≡ true
number_first true true true e h = refl
number_first true true false e h = absurd (cc)
number_first true false c e h = absurd (cc)
number_first false b c e h = absurd (cc)

number_second : (a b c : Bool) (e : Ends) → cond a (cond (b && c) (Some e) None) None ≡ Some e → c ≡ true
number_second true true true e h = refl
number_second true true false e h = absurd (cc)
number_second true false c e h = absurd (cc)
number_second false b c e h = absurd (cc)

-- a number alone is an interval
number_interval : (n : ℤ) → is_number n ≡ true → if_interval (n, n) ≡ Some (n, n)
number_interval n h = ap (λ b. cond b (if_in_limit (n, n)) None) (int_le_true n n (omega (arith, ints))) ∙ ap (λ b. cond (b && b) (Some (n, n)) None) h

pub number_suits : (vs : List Variable) (n : ℤ) (e : Ends) → is_number n ≡ true → e.0 ≤ℤ n → n ≤ℤ e.1 → LiesWithin Int vs (int n) e
number_suits vs n e h from to = record { sort = int_sort vs n h; interval = number_interval n h; from = from; to = to }

pub low_number : (e : Ends) → if_interval e ≡ Some e → is_number e.0 ≡ true
low_number e h = number_first (int_le e.0 e.1) (is_number e.0) (is_number e.1) e h

any_suits : (vs : List Variable) (x : Known) (p : Plain) → HasSets x → IsOpen x → IsAny x p → Suits vs p x
any_suits vs None p s o a = absurd a
any_suits vs (Some (whole e)) p s o a = subst (λ q. LiesWithin Int vs q e) (sym a.0) (number_suits vs e.0 e (low_number e a.1) (omega (arith, ints)) (ordered e a.1))
any_suits vs (Some (truth e)) p s o a =
    let lies : LiesWithin Truth vs (bool false) bounds.truth = record { sort = bool_sort vs false; interval = refl; from = omega (arith, ints); to = omega (arith, ints) } in
    subst (λ q. LiesWithin Truth vs q e) (sym a) (subst (LiesWithin Truth vs (bool false)) (sym o) lies)
any_suits vs (Some (subset u)) p s o a =
    let part : IsPartOf vs (set []) u = record { sort = set_sort vs [] (tt, tt); own = (tt, tt); upper = s; part = record { inside = λ x i. absurd i } } in
    subst (λ q. IsPartOf vs q u) (sym a) part
any_suits vs (Some (wholes es)) p s o a = absurd a
any_suits vs (Some truths) p s o a = absurd a
any_suits vs (Some (subsets us)) p s o a = absurd a
any_suits vs (Some empty) p s o a = absurd a

any_over : (x : Known) (p : Plain) (n : ℕ) → IsAny x p → IsOver n p
any_over None p n a = absurd a
any_over (Some (whole e)) p n a = subst (IsOver n) (sym a.0) tt
any_over (Some (truth e)) p n a = subst (IsOver n) (sym a) tt
any_over (Some (subset u)) p n a = subst (IsOver n) (sym a) tt
any_over (Some (wholes es)) p n a = absurd a
any_over (Some truths) p n a = absurd a
any_over (Some (subsets us)) p n a = absurd a
any_over (Some empty) p n a = absurd a

-- in the code's words

pub integer_ends : (x : Known) → sort_of x ≡ Some sorts.Integer → IsSome (ends_in x)
integer_ends None h = absurd (cc)
integer_ends (Some (whole e)) h = refl
integer_ends (Some (truth e)) h = refl
integer_ends (Some (subset u)) h = absurd (cc)
integer_ends (Some (wholes es)) h = absurd (cc)
integer_ends (Some truths) h = absurd (cc)
integer_ends (Some (subsets us)) h = absurd (cc)
integer_ends (Some empty) h = absurd (cc)

pub interval_of : (r : Interval) → if_interval (ends r) ≡ Some (ends r)
interval_of r =
    ap (λ b. cond b (if_in_limit (ends r)) None) (int_le_true r.lo r.hi r.ordered)
    ∙ ap₂ (λ a b. cond (a && b) (Some (ends r)) None) (in_limit r.lo r.lo_in_limit (omega (arith, ints, r.ordered, r.hi_in_limit))) (in_limit r.hi (omega (arith, ints, r.ordered, r.lo_in_limit)) r.hi_in_limit)
  where
    in_limit : (n : ℤ) → least_number ≤ℤ n → n ≤ℤ greatest_number → is_number n ≡ true
    in_limit n h k = ap₂ (λ a b. a && b) (int_le_true least_number n h) (int_le_true n greatest_number k)

pub same_ends : (e f : Ends) → Some e ≡ Some f → e ≡ f
same_ends e f h = cc

pub any_integer : (x : Known) (r : Interval) (p : Plain) → sort_of x ≡ Some sorts.Integer → ends_in x ≡ Some (ends r) → p ≡ int r.lo → IsAny x p
any_integer None r p h e is = absurd (cc)
any_integer (Some (whole f)) r p h e is = let same = same_ends f (ends r) e in (is ∙ ap (λ (g : Ends). int g.0) (sym same), subst (λ (g : Ends). if_interval g ≡ Some g) (sym same) (interval_of r))
any_integer (Some (truth f)) r p h e is = absurd (cc)
any_integer (Some (subset u)) r p h e is = absurd (cc)
any_integer (Some (wholes es)) r p h e is = absurd (cc)
any_integer (Some truths) r p h e is = absurd (cc)
any_integer (Some (subsets us)) r p h e is = absurd (cc)
any_integer (Some empty) r p h e is = absurd (cc)

pub any_truth : (x : Known) (p : Plain) → sort_of x ≡ Some sorts.Boolean → p ≡ bool false → IsAny x p
any_truth None p h is = absurd (cc)
any_truth (Some (whole f)) p h is = absurd (cc)
any_truth (Some (truth f)) p h is = is
any_truth (Some (subset u)) p h is = absurd (cc)
any_truth (Some (wholes es)) p h is = absurd (cc)
any_truth (Some truths) p h is = absurd (cc)
any_truth (Some (subsets us)) p h is = absurd (cc)
any_truth (Some empty) p h is = absurd (cc)

pub any_set : (x : Known) (p : Plain) → sort_of x ≡ Some sorts.Set → p ≡ set [] → IsAny x p
any_set None p h is = absurd (cc)
any_set (Some (whole f)) p h is = absurd (cc)
any_set (Some (truth f)) p h is = absurd (cc)
any_set (Some (subset u)) p h is = is
any_set (Some (wholes es)) p h is = absurd (cc)
any_set (Some truths) p h is = absurd (cc)
any_set (Some (subsets us)) p h is = absurd (cc)
any_set (Some empty) p h is = absurd (cc)

-- ---- bounds of nodes that may lack a value

mapped_open : (o : Option Ends) → IsOpen (option_map whole o)
mapped_open None = tt
mapped_open (Some e) = tt

element_open : (e : Ends) (y : Known) → IsOpen (as_list y >>= element_extent e)
element_open e None = tt
element_open e (Some (whole f)) = tt
element_open e (Some (truth f)) = tt
element_open e (Some (subset u)) = tt
element_open e (Some (wholes es)) = tt
element_open e (Some truths) = refl
element_open e (Some (subsets us)) = tt
element_open e (Some empty) = tt

access_open : (x y : Known) → IsOpen (access_extent x y)
unfolding access_extent
access_open x y = by (as_whole x)
  where
    by : (o : Option Ends) → IsOpen (o >>= λ e. as_list y >>= element_extent e)
    by None = tt
    by (Some e) = element_open e y

on_two : (xs : List Known) (F : Known → Known → Known) → ((x y : Known) → IsOpen (F x y)) → IsOpen (of_two xs F)
on_two [] F h = tt
on_two (x ∷ []) F h = tt
on_two (x ∷ y ∷ []) F h = h x y
on_two (x ∷ y ∷ z ∷ xs) F h = tt

lacking_open : (e : Entry) (k : NodeKind) (xs : List Known) → may_lack k ≡ true → IsOpen (kind_extent e k xs)
lacking_open e kinds.Div xs h = on_two xs (arith_extent arith_row.Div) (λ x y. mapped_open (arith_bounds arith_row.Div (as_whole x) (as_whole y)))
lacking_open e kinds.Mod xs h = on_two xs (arith_extent arith_row.Mod) (λ x y. mapped_open (arith_bounds arith_row.Mod (as_whole x) (as_whole y)))
lacking_open e kinds.Access xs h = on_two xs access_extent access_open
lacking_open e _ xs h = absurd (cc)

lacking_own : (k : NodeKind) → may_lack k ≡ true → (is_free k ≡ false) × (is_own k ≡ false)
lacking_own kinds.Div h = (refl, refl)
lacking_own kinds.Mod h = (refl, refl)
lacking_own kinds.Access h = (refl, refl)
lacking_own _ h = absurd (cc)

single_two : (xs : List Known) (F : Known → Known → Known) → ((x y : Known) → IsSome (F x y) → Single (F x y)) → IsSome (of_two xs F) → Single (of_two xs F)
single_two [] F h s = absurd (cc)
single_two (x ∷ []) F h s = absurd (cc)
single_two (x ∷ y ∷ []) F h s = h x y s
single_two (x ∷ y ∷ z ∷ xs) F h s = absurd (cc)

mapped_single : (o : Option Ends) → IsSome (option_map whole o) → Single (option_map whole o)
mapped_single None h = absurd (cc)
mapped_single (Some e) h = refl

element_single : (e : Ends) (y : Known) → IsSome (as_list y >>= element_extent e) → Single (as_list y >>= element_extent e)
element_single e None h = absurd (cc)
element_single e (Some (whole f)) h = absurd (cc)
element_single e (Some (truth f)) h = absurd (cc)
element_single e (Some (subset u)) h = absurd (cc)
element_single e (Some (wholes es)) h = refl
element_single e (Some truths) h = refl
element_single e (Some (subsets us)) h = refl
element_single e (Some empty) h = refl

access_single : (x y : Known) → IsSome (access_extent x y) → Single (access_extent x y)
unfolding access_extent
access_single x y h = by (as_whole x) h
  where
    by : (o : Option Ends) → IsSome (o >>= λ e. as_list y >>= element_extent e) → Single (o >>= λ e. as_list y >>= element_extent e)
    by None h = absurd (cc)
    by (Some e) h = element_single e y h

lacking_single : (e : Entry) (k : NodeKind) (xs : List Known) → may_lack k ≡ true → IsSome (kind_extent e k xs) → Single (kind_extent e k xs)
lacking_single e kinds.Div xs h s = single_two xs (arith_extent arith_row.Div) (λ x y. mapped_single (arith_bounds arith_row.Div (as_whole x) (as_whole y))) s
lacking_single e kinds.Mod xs h s = single_two xs (arith_extent arith_row.Mod) (λ x y. mapped_single (arith_bounds arith_row.Mod (as_whole x) (as_whole y))) s
lacking_single e kinds.Access xs h s = single_two xs access_extent access_single s
lacking_single e _ xs h s = absurd (cc)

-- ---- no solution meets the state

no_value : {A : Type 0} (t : Term) (w : Val) → t ≡ None → t ≡ Some w → A
no_value t w h k = absurd (cc)

module _ (s : State) (id : ℕ) (n : Node) (g : IsState s) (r : IsReady s id n) where
  kind_here : (k : NodeKind) → n.kind ≡ k → r.at_id.entry.node.kind ≡ k
  kind_here k h = ap (λ (m : Node). m.kind) r.at_id.node ∙ h

  unmet : ((v : terms.Values) (f : Values) → AreInDomains s.es v → Meets s v f → term v s.es id ≡ None) → IsUnmet s
  unmet none v f d m = (let x = total_value s.es id v r.total (laws.domains_lie s.es g.arena v d) in no_value (term v s.es id) x.value (none v f d m) x.is)

  pub lacking_place : id < length s.es
  lacking_place = get-below s.es id r.at_id.entry r.at_id.is

  module _ (kind : may_lack n.kind ≡ true) where
    entry_lacks : may_lack r.at_id.entry.node.kind ≡ true
    entry_lacks = ap may_lack (ap (λ (m : Node). m.kind) r.at_id.node) ∙ kind

    pub lacking_alone : Single (extent s.es id)
    lacking_alone =
        let here = extent_here s id r.at_id.entry g r.at_id.is in
        subst (λ (x : Known). Single x) (sym here) (lacking_single r.at_id.entry r.at_id.entry.node.kind _ entry_lacks (subst (λ (x : Known). IsSome x) here (g.arena.bounded id r.at_id.entry r.at_id.is)))

    is_open : IsOpen (extent s.es id)
    is_open = subst IsOpen (sym (extent_here s id r.at_id.entry g r.at_id.is)) (lacking_open r.at_id.entry r.at_id.entry.node.kind _ entry_lacks)

    pub any_given : IsUnmet s → (p : Plain) (args : List (Option Plain)) → IsAny (extent s.es id) p → args ≡ put_at s.args id p → Gives s (record { es = s.es; prog = s.prog; args = args }) id
    any_given none p args a put =
        gives_at s s.prog id p args g
        (same_stands s id r.at_id.entry p g r.at_id.is (lacking_own r.at_id.entry.node.kind entry_lacks).0 r.none (any_over (extent s.es id) p (length s.prog.vars) a) (any_suits s.prog.vars (extent s.es id) p (laws.bounds_are_sets s.es g.arena id) is_open a) (λ v f d m. absurd (none v f d m)))
        put

-- ---- divisors

abbrev divider : Arith → Bool
divider arith_row.Div = true
divider arith_row.Mod = true
divider _ = false

arith_zero : (op : Arith) (x : Term) (y : Value) → divider op ≡ true → number_in y ≡ pos 0 → arith_term op x (Some (seen y)) ≡ None
unfolding arith_term computed
arith_zero arith_row.Div None (values.number m) h z = refl
arith_zero arith_row.Div None (values.set w) h z = refl
arith_zero arith_row.Div (Some (terms.number n)) (values.number m) h z = ap (λ j. arith_term arith_row.Div (Some (terms.number n)) (Some (terms.number j))) z
arith_zero arith_row.Div (Some (terms.number n)) (values.set w) h z = refl
arith_zero arith_row.Div (Some (terms.set u)) (values.number m) h z = refl
arith_zero arith_row.Div (Some (terms.set u)) (values.set w) h z = refl
arith_zero arith_row.Div (Some (terms.numbers ns)) (values.number m) h z = refl
arith_zero arith_row.Div (Some (terms.numbers ns)) (values.set w) h z = refl
arith_zero arith_row.Div (Some (terms.sets us)) (values.number m) h z = refl
arith_zero arith_row.Div (Some (terms.sets us)) (values.set w) h z = refl
arith_zero arith_row.Div (Some terms.empty) (values.number m) h z = refl
arith_zero arith_row.Div (Some terms.empty) (values.set w) h z = refl
arith_zero arith_row.Mod None (values.number m) h z = refl
arith_zero arith_row.Mod None (values.set w) h z = refl
arith_zero arith_row.Mod (Some (terms.number n)) (values.number m) h z = ap (λ j. arith_term arith_row.Mod (Some (terms.number n)) (Some (terms.number j))) z
arith_zero arith_row.Mod (Some (terms.number n)) (values.set w) h z = refl
arith_zero arith_row.Mod (Some (terms.set u)) (values.number m) h z = refl
arith_zero arith_row.Mod (Some (terms.set u)) (values.set w) h z = refl
arith_zero arith_row.Mod (Some (terms.numbers ns)) (values.number m) h z = refl
arith_zero arith_row.Mod (Some (terms.numbers ns)) (values.set w) h z = refl
arith_zero arith_row.Mod (Some (terms.sets us)) (values.number m) h z = refl
arith_zero arith_row.Mod (Some (terms.sets us)) (values.set w) h z = refl
arith_zero arith_row.Mod (Some terms.empty) (values.number m) h z = refl
arith_zero arith_row.Mod (Some terms.empty) (values.set w) h z = refl
arith_zero _ x y h z = absurd (cc)

no_quotient : (v : terms.Values) (k : NodeKind) (x : Term) (y : Value) → divides k ≡ true → number_in y ≡ pos 0 → kind_term v (of_kind k) k (x ∷ Some (seen y) ∷ []) ≡ None
no_quotient v kinds.Div x y h z = arith_zero arith_row.Div x y refl z
no_quotient v kinds.Mod x y h z = arith_zero arith_row.Mod x y refl z
no_quotient v _ x y h z = absurd (cc)

module _ (s : State) (id : ℕ) (n : Node) (g : IsState s) (r : IsReady s id n) where
  pub division_unmet : (name : RowName) (p q : Plain) → row_of_two n.kind ≡ Some name → divides n.kind ≡ true → at s.args n.a ≡ Some p → at s.args n.b ≡ Some q → ends_of s.prog.vars q ≡ (pos 0, pos 0) → EndsEnclose s.prog.vars q → IsUnmet s
  division_unmet name p q row d hp hq zero_ends encloses =
      let e : Entry = r.at_id.entry in
      let ar = two_arity n.kind name row in
      let same : e.node ≡ n = r.at_id.node in
      unmet s id n g r (λ v f w m.
      let inside = subst (λ (b : Ends). Encloses b (number_in (plain_value f q))) zero_ends (encloses f m.solves.domains) in
      let zero_value : number_in (plain_value f q) ≡ pos 0 = omega (arith, ints, inside.from, inside.to) in
      term_told s id e g r.at_id.is (subst (λ (b : Node). is_own b.kind ≡ false) (sym same) ar.1) (p ∷ q ∷ []) v f w m (subst (λ (b : Node). AllHave s (children b) (p ∷ q ∷ [])) (sym same) (all_two s id n g r p q ar.0 hp hq))
      ∙ no_quotient v e.node.kind (Some (seen (plain_value f p))) (plain_value f q) (subst (λ (b : Node). divides b.kind ≡ true) (sym same) d) zero_value)

pub divides_lacks : (k : NodeKind) → divides k ≡ true → may_lack k ≡ true
divides_lacks kinds.Div h = refl
divides_lacks kinds.Mod h = refl
divides_lacks _ h = absurd (cc)

pub may_divisor : (k : NodeKind) (f : Ends) → MayDivide f → HasDivisor k f
may_divisor kinds.Div f h = h
may_divisor kinds.Mod f h = h
may_divisor _ f h = tt

-- ---- indices that are no place

get_none : {A : Type 0} (xs : List A) (k : ℕ) → (k < length xs → ⊥) → slice_get xs k ≡ None
get_none [] k h = refl
get_none (x ∷ xs) zero h = absurd (h (omega arith))
get_none (x ∷ xs) (suc k) h = get_none xs k (λ l. h (omega (arith, l)))

abbrev IsOut : ℤ → ℕ → Type 0
IsOut i m = pos 1 ≤ℤ i → i ≤ℤ pos m → ⊥

element_none : {A : Type 0} (xs : List A) (m : ℕ) (i : ℤ) → length xs ≡ m → IsOut i m → element_at xs i ≡ None
element_none xs m (pos zero) c h = refl
element_none xs m (negsuc k) c h = refl
element_none xs m (pos (suc k)) c h = get_none xs k (λ l. h (omega (arith, ints)) (omega (arith, ints, l, c)))

value_none : (w : Val) (m : ℕ) (i : ℤ) → Counts w m → IsOut i m → value_at w i ≡ None
value_none (terms.numbers ns) m i c h = ap (λ o. option_map terms.number o) (element_none ns m i c h)
value_none (terms.sets ss) m i c h = ap (λ o. option_map terms.set o) (element_none ss m i c h)
value_none (terms.number k) m i c h = refl
value_none (terms.set u) m i c h = refl
value_none terms.empty m i c h = refl

access_none : (x : Value) (y : Term) (m : ℕ) (e : Ends) → Encloses e (number_in x) → ReachesNone e m → ((w : Val) → y ≡ Some w → Counts w m) → access_term (Some (seen x)) y ≡ None
unfolding access_term
access_none (values.number i) None m e inside none c = refl
access_none (values.number i) (Some w) m e inside none c = value_none w m i (c w refl) (none.none i inside.from inside.to)
access_none (values.set t) y m e inside none c = refl

same_value : (x w : Val) (m : ℕ) → Some x ≡ Some w → Counts x m → Counts w m
same_value x w m h c = let same : x ≡ w = cc in subst (λ z. Counts z m) same c

cons_counts : (x : Value) (y : Term) (w : Val) (m : ℕ) → ((t : Val) → y ≡ Some t → Counts t m) → cons_term (Some (seen x)) y ≡ Some w → Counts w (suc m)
unfolding cons_term
cons_counts (values.number k) None w m c h = absurd (cc)
cons_counts (values.number k) (Some (terms.number j)) w m c h = absurd (cc)
cons_counts (values.number k) (Some (terms.set u)) w m c h = absurd (cc)
cons_counts (values.number k) (Some (terms.numbers ns)) w m c h = same_value (terms.numbers (k ∷ ns)) w (suc m) h (ap suc (c (terms.numbers ns) refl))
cons_counts (values.number k) (Some (terms.sets ss)) w m c h = absurd (cc)
cons_counts (values.number k) (Some terms.empty) w m c h = same_value (terms.numbers (k ∷ [])) w (suc m) h (ap suc (sym (c terms.empty refl)))
cons_counts (values.set t) None w m c h = absurd (cc)
cons_counts (values.set t) (Some (terms.number j)) w m c h = absurd (cc)
cons_counts (values.set t) (Some (terms.set u)) w m c h = absurd (cc)
cons_counts (values.set t) (Some (terms.numbers ns)) w m c h = absurd (cc)
cons_counts (values.set t) (Some (terms.sets ss)) w m c h = same_value (terms.sets (t ∷ ss)) w (suc m) h (ap suc (c (terms.sets ss) refl))
cons_counts (values.set t) (Some terms.empty) w m c h = same_value (terms.sets (t ∷ [])) w (suc m) h (ap suc (sym (c terms.empty refl)))

list_counts : (f : Values) (ps : List Plain) (w : Val) → list_term f ps ≡ Some w → Counts w (length ps)
list_counts f [] w h = same_value terms.empty w 0 h refl
list_counts f (p ∷ ps) w h = cons_counts (plain_value f p) (list_term f ps) w (length ps) (λ t k. list_counts f ps t k) h

-- ---- accesses

pub list_given : (s : State) (g : IsState s) (i : ℕ) → IsGiven s i → IsSome (as_list (extent s.es i)) → IsListed s i
list_given s g i (inl h) l = by (extent s.es i) (at s.args i) (g.suits i) l h
  where
    suits_none : (p : Plain) (x : Known) → IsSome (as_list x) → Suits s.prog.vars p x → IsListed s i
    suits_none p None k u = absurd u
    suits_none p (Some (whole e)) k u = absurd (cc)
    suits_none p (Some (truth e)) k u = absurd (cc)
    suits_none p (Some (subset w)) k u = absurd (cc)
    suits_none p (Some (wholes es)) k u = absurd u
    suits_none p (Some truths) k u = absurd u
    suits_none p (Some (subsets us)) k u = absurd u
    suits_none p (Some empty) k u = absurd u

    by : (x : Known) (o : Option Plain) → ((p : Plain) → o ≡ Some p → Suits s.prog.vars p x) → IsSome (as_list x) → IsSome o → IsListed s i
    by x None u k h = absurd (cc)
    by x (Some p) u k h = suits_none p x k (u p refl)
list_given s g i (inr h) l = h

row_is : (vs : List Variable) (ps : List Plain) (e : Ends) (y : Known) (o : Sort) → AreListed vs ps y → 1 ≤ length ps → sort_of (as_list y >>= element_extent e) ≡ Some o → element_row y ≡ Some (row_of_element o)
row_is vs ps e None o l some h = absurd (cc)
row_is vs ps e (Some (whole f)) o l some h = absurd (cc)
row_is vs ps e (Some (truth f)) o l some h = absurd (cc)
row_is vs ps e (Some (subset u)) o l some h = absurd (cc)
row_is vs ps e (Some (wholes es)) o l some h = let same : sorts.Integer ≡ o = cc in ap (λ j. Some (row_of_element j)) same
row_is vs ps e (Some truths) o l some h = let same : sorts.Boolean ≡ o = cc in ap (λ j. Some (row_of_element j)) same
row_is vs ps e (Some (subsets us)) o l some h = let same : sorts.Set ≡ o = cc in ap (λ j. Some (row_of_element j)) same
row_is vs ps e (Some empty) o l some h = let none : length ps ≡ 0 = ap length l in absurd (omega (arith, some, none))

access_of : (x y : Known) (e : Ends) → x ≡ Some (whole e) → access_extent x y ≡ (as_list y >>= element_extent e)
unfolding access_extent
access_of x y e h = ap (λ z. as_whole z >>= λ f. as_list y >>= element_extent f) h

module _ (s : State) (id : ℕ) (n : Node) (g : IsState s) (r : IsReady s id n) (kind : n.kind ≡ kinds.Access) where
  abbrev x : Known
  x = extent s.es n.a

  abbrev y : Known
  y = extent s.es n.b

  only : children n ≡ n.a ∷ n.b ∷ []
  only = ap (λ k. take (arity k) (n.a ∷ n.b ∷ n.c ∷ [])) kind

  known : IsSome (access_extent x y)
  known = subst (λ is. IsSome (extent_over kinds.Access (map (extent s.es) is))) only (subst (λ k. IsSome (extent_over k (map (extent s.es) (children n)))) kind (known_at s id n g (ap is_own kind) r.at_id))

  given : AllByRecursion (IsGiven s) (n.a ∷ n.b ∷ [])
  given = subst (AllByRecursion (IsGiven s)) only r.given

  pub access_index : HasArg s n.a
  access_index = has_arg s g n.a given.0 (whole_single x (access_kids x y known).0)

  pub access_listed : IsListed s n.b
  access_listed = list_given s g n.b given.1.0 (access_kids x y known).1

  pub access_lacks : may_lack n.kind ≡ true
  access_lacks = ap may_lack kind

  bounds_here : extent s.es id ≡ access_extent x y
  bounds_here =
      extent_here s id r.at_id.entry g r.at_id.is
      ∙ ap (λ k. kind_extent r.at_id.entry k (map (extent s.es) (take (arity k) (r.at_id.entry.node.a ∷ r.at_id.entry.node.b ∷ r.at_id.entry.node.c ∷ [])))) (kind_here s id n g r kinds.Access kind)
      ∙ ap (λ (m : Node). access_extent (extent s.es m.a) (extent s.es m.b)) r.at_id.node

  pub access_row : (o : Sort) (ps : List Plain) (e : Ends) → sort_of (extent s.es id) ≡ Some o → ListArgs s.es s.args n.b ps → Reaches e (length ps) → element_row (extent s.es n.b) ≡ Some (row_of_element o)
  access_row o ps e h l reaches =
      let w = whole_of x (access_kids x y known).0 in
      row_is s.prog.vars ps w.ends y o (list_listed s g n.b ps l) reaches.some (ap sort_of (sym (bounds_here ∙ access_of x y w.ends w.is)) ∙ h)

  pub access_unmet : (i : Plain) (ps : List Plain) → at s.args n.a ≡ Some i → ListArgs s.es s.args n.b ps → ReachesNone (ends_of s.prog.vars i) (length ps) → EndsEnclose s.prog.vars i → IsUnmet s
  access_unmet i ps hi l none encloses =
      unmet s id n g r (λ v f d m.
      term_here s id r.at_id.entry v g r.at_id.is
      ∙ ap (λ k. kind_term v r.at_id.entry k (map (term v s.es) (take (arity k) (r.at_id.entry.node.a ∷ r.at_id.entry.node.b ∷ r.at_id.entry.node.c ∷ [])))) (kind_here s id n g r kinds.Access kind)
      ∙ ap (λ (b : Node). access_term (term v s.es b.a) (term v s.es b.b)) r.at_id.node
      ∙ ap₂ access_term (g.right v f d m n.a i hi) (list_value s g v f d m n.b ps l)
      ∙ access_none (plain_value f i) (list_term f ps) (length ps) (ends_of s.prog.vars i) (encloses f m.solves.domains) none (list_counts f ps))

-- ---- in the code's words

pub if_any_set : {E : Type 0} (r : Result Arg E) (x : Known) → sort_of x ≡ Some sorts.Set → IfOk r (λ a. plain a ≡ set []) → IfOk r (λ a. IsAny x (plain a))
if_any_set (Ok a) x h is = any_set x (plain a) h is
if_any_set (Err m) x h is = tt

plains_length : (items : List Arg) → length (plains items) ≡ length items
plains_length [] = refl
plains_length (a ∷ items) = ap suc (plains_length items)

pub same_count : (n : ℕ) (items : List Arg) → n ≡ length items → n ≡ length (plains items)
same_count n items h = h ∙ sym (plains_length items)
