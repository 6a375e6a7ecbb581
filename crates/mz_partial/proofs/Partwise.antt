-- The part of a node, from those of its children and the node that was made of them: all in one arena.
use Rattle.std.proofs.Common.{◌≡◌, ℕ, List, [], ◌∷◌, map, Bool, true, false, ◌&&◌, cond, Option, Some, None, IsSome, slice_get, refl, sym, ap, subst, ◌∙◌}
use Rattle.std.specs.Option.{option_and_then}
use Rattle.mz_interval.specs.Ends.{Ends}
use Rattle.mz_operations.specs.Bounds as bounds
use Rattle.mz_arena.specs.declared.node.NodeKind.{NodeKind}
use Rattle.mz_arena.specs.declared.node.NodeKind.TheVariants.{If, Guard, Cons}
use Rattle.mz_arena.specs.Entries.{Entry, children}
use Rattle.mz_arena.specs.Values.{Val, empty, Term, Values, bit, is_true, if_term, guard_term}
use Rattle.mz_arena.specs.Terms.{kind_term, term}
use Rattle.mz_arena.specs.Extents.{Known, whole, truth, subset, wholes, truths, subsets, empty as no_element, open_truth, as_truth, as_single, guarded_extent, guard_extent, extent}
use Rattle.mz_arena.specs.Arenas.{IsArena}
use Rattle.mz_arena.specs.InBounds.{Lies, AreInBounds}
use Rattle.mz_arena.proofs.Terms.{terms_lie}
use Rattle.mz_partial.specs.declared.part.Part.{Part}
use Rattle.mz_partial.specs.declared.group.Group.TheVariants as group
use Rattle.mz_partial.specs.Groups.{group_of, is_inner, is_partial}
use Rattle.mz_partial.specs.Totals.{only, IsTotal, IsTruth, SaysAt, Says, IsItself, IsPart}
use Rattle.mz_partial.specs.Told.{IsToldDefined}
use Rattle.mz_partial.specs.Nodes.{IsNode, three}
use Rattle.mz_partial.proofs.Told.{kid_told, guard_untold, no_list}
use Rattle.mz_partial.proofs.Standing.{inner_term, inner_by, node_means, node_bounds, node_some, node_total, like_bounds, total_some}
use Rattle.mz_partial.proofs.ByKind.{Fits, IsPlain, plain_open, plain_tells, plain_counts, is_cons, inner_plain, one_none, one_some, two_left, two_right, two_some, test_bit, test_left, test_right, test_open, connective_reads, connective_some, reading_reads, reading_some, bit_in, bit_is}
use Rattle.mz_partial.proofs.Asked.{connective_bounds}
use Rattle.mz_partial.proofs.Saying.{some_is, fits, if_bit}

-- ---- values

abbrev pub value_or : Term → Val
value_or None = empty
value_or (Some w) = w

pub some_or : (x : Term) → IsSome x → x ≡ Some (value_or x)
some_or None h = absurd (cc)
some_or (Some w) h = refl

pub one_only : (f : Term → Term) (b : Bool) (w : Val) → f None ≡ None → IsSome (f (Some w)) → f (only b w) ≡ only b (value_or (f (Some w)))
one_only f true w n s = some_or (f (Some w)) s
one_only f false w n s = n

pub two_only : (f : Term → Term → Term) (a b : Bool) (x y : Val) → ((z : Term) → f None z ≡ None) → ((z : Term) → f z None ≡ None) → IsSome (f (Some x) (Some y)) → f (only a x) (only b y) ≡ only (a && b) (value_or (f (Some x) (Some y)))
two_only f true true x y l r s = some_or (f (Some x) (Some y)) s
two_only f true false x y l r s = r (Some x)
two_only f false b x y l r s = l (only b y)

-- ---- a node that is no list

-- a term's value lies in the bounds that it has
pub total_fits : (es : List Entry) (t id : ℕ) (v : Values) → IsArena es → IsTotal es t → extent es t ≡ extent es id → AreInBounds es v → Fits (extent es id) (value_or (term v es t))
total_fits es t id v a h same b =
    let lies : Lies (extent es id) (Some (value_or (term v es t))) = subst (λ (x : Known). Lies x (Some (value_or (term v es t)))) same (subst (λ (x : Term). Lies (extent es t) x) (some_or (term v es t) (total_some es t h v b)) (terms_lie es a v b t)) in
    record { lies = λ x e. subst (λ (o : Known). Lies o (Some (value_or (term v es t)))) e lies }

pub plain_part : (es : List Entry) (id : ℕ) (k : NodeKind) (is : List ℕ) (f : Option ℕ) (t : ℕ) (holds : Values → Bool) → IsArena es → is_inner k ≡ true → is_cons k ≡ false → IsNode es id k is → Says es f holds → IsTotal es t → extent es t ≡ extent es id → ((v : Values) → AreInBounds es v → term v es id ≡ only (holds v) (value_or (term v es t))) → (IsToldDefined es id → IsItself id (record { flag = f; term = t; len = 0 })) → IsPart es id (record { flag = f; term = t; len = 0 })
plain_part es id k is f t holds a inner other n says total same splits own =
    let is_plain : IsPlain (extent es id) = subst (λ (x : Known). IsPlain x) (sym (node_bounds es id k is a n)) (inner_plain n.there k (map (extent es) is) inner other) in
    record {
      holds = holds;
      value = λ v. value_or (term v es t);
      flag = says;
      kept = record { total = total; bounds = same; is = λ v b. some_or (term v es t) (total_some es t total v b) };
      is = splits;
      open_ = λ d h. plain_open (extent es id) is_plain;
      told = plain_tells (extent es id) 0 is_plain;
      counts = λ v b. plain_counts (extent es id) (value_or (term v es t)) 0 (a.bounded id n.there n.stands) is_plain (total_fits es t id v a total same b);
      elements = λ j l. no_list es id k is j n inner other l;
      own = own;
    }

-- a node that always has a value: its total term has it
pub defined_part : (es : List Entry) (id : ℕ) (k : NodeKind) (is : List ℕ) (t : ℕ) → IsArena es → is_inner k ≡ true → is_cons k ≡ false → IsNode es id k is → IsTotal es t → extent es t ≡ extent es id → ((v : Values) → AreInBounds es v → term v es id ≡ term v es t) → (IsToldDefined es id → t ≡ id) → IsPart es id (record { flag = None; term = t; len = 0 })
defined_part es id k is t a inner other n total same equal own =
    plain_part es id k is None t (λ v. true) a inner other n (λ v b. refl) total same (λ v b. equal v b ∙ some_or (term v es t) (total_some es t total v b)) (λ w. (refl, own w))

one_other : (k : NodeKind) → group_of k ≡ group.One → is_cons k ≡ false
one_other Cons g = absurd (cc)
one_other _ g = refl

two_other : (k : NodeKind) → group_of k ≡ group.Two → is_cons k ≡ false
two_other Cons g = absurd (cc)
two_other _ g = refl

test_other : (k : NodeKind) → group_of k ≡ group.Test → is_cons k ≡ false
test_other Cons g = absurd (cc)
test_other _ g = refl

connective_other : (k : NodeKind) → group_of k ≡ group.Connective → is_cons k ≡ false
connective_other Cons g = absurd (cc)
connective_other _ g = refl

reading_other : (k : NodeKind) → group_of k ≡ group.Reading → is_cons k ≡ false
reading_other Cons g = absurd (cc)
reading_other _ g = refl

-- ---- one child

pub strict_one_part : (es : List Entry) (id a : ℕ) (k : NodeKind) (p : Part) (t : ℕ) → IsArena es → is_inner k ≡ true → is_cons k ≡ false → (n : IsNode es id k (a ∷ [])) → IsNode es t k (p.term ∷ []) → (hp : IsPart es a p) → ((v : Values) → kind_term v n.there k (None ∷ []) ≡ None) → ((v : Values) → AreInBounds es v → IsSome (kind_term v n.there k (Some (hp.value v) ∷ []))) → (p.term ≡ a → t ≡ id) → IsPart es id (record { flag = p.flag; term = t; len = 0 })
strict_one_part es id a k p t ar inner other n m hp none some own =
    let F : Values → Term → Term = λ v x. kind_term v n.there k (x ∷ []) in
    let value : (v : Values) → AreInBounds es v → term v es t ≡ F v (Some (hp.value v)) = λ v b. node_means es t k (p.term ∷ []) ar m v ∙ inner_term v v m.there n.there k (term v es p.term ∷ []) inner ∙ ap (F v) (hp.kept.is v b) in
    plain_part es id k (a ∷ []) p.flag t hp.holds ar inner other n hp.flag
    (node_total es t k (p.term ∷ []) m (hp.kept.total, tt) (λ v b. subst (λ (x : Term). IsSome x) (sym (value v b)) (some v b)))
    (like_bounds es id t k (a ∷ []) (p.term ∷ []) ar inner n m (ap (λ (x : Known). x ∷ []) hp.kept.bounds))
    (λ v b. node_means es id k (a ∷ []) ar n v ∙ ap (F v) (hp.is v b) ∙ one_only (F v) (hp.holds v) (hp.value v) (none v) (some v b) ∙ ap (λ (x : Term). only (hp.holds v) (value_or x)) (sym (value v b)))
    (λ w. let o = hp.own (kid_told es id k (a ∷ []) n w 0 a refl) in (o.0, own o.1))

pub one_part : (es : List Entry) (id a : ℕ) (k : NodeKind) (p : Part) (t : ℕ) → IsArena es → group_of k ≡ group.One → IsNode es id k (a ∷ []) → IsNode es t k (p.term ∷ []) → IsPart es a p → (p.term ≡ a → t ≡ id) → IsPart es id (record { flag = p.flag; term = t; len = 0 })
one_part es id a k p t ar g n m hp own =
    strict_one_part es id a k p t ar (inner_by k group.One g refl) (one_other k g) n m hp (λ v. one_none v n.there k g) (λ v b. one_some v n.there n.there k (extent es a) (hp.value v) g (node_some es id k (a ∷ []) ar n) (fits es a p v ar hp b)) own

-- ---- two children

pub pair_like : (es : List Entry) (a b s t : ℕ) → extent es s ≡ extent es a → extent es t ≡ extent es b → map (extent es) (s ∷ t ∷ []) ≡ map (extent es) (a ∷ b ∷ [])
pair_like es a b s t p q = ap (λ (x : Known). x ∷ extent es t ∷ []) p ∙ ap (λ (x : Known). extent es a ∷ x ∷ []) q

pub two_part : (es : List Entry) (id a b : ℕ) (k : NodeKind) (p q : Part) (f : Option ℕ) (t : ℕ) → IsArena es → group_of k ≡ group.Two → IsNode es id k (a ∷ b ∷ []) → IsNode es t k (p.term ∷ q.term ∷ []) → (hp : IsPart es a p) (hq : IsPart es b q) → Says es f (λ v. hp.holds v && hq.holds v) → (p.flag ≡ None → q.flag ≡ None → f ≡ None) → (p.term ≡ a → q.term ≡ b → t ≡ id) → IsPart es id (record { flag = f; term = t; len = 0 })
two_part es id a b k p q f t ar g n m hp hq says none own =
    let inner = inner_by k group.Two g refl in
    let F : Values → Term → Term → Term = λ v x y. kind_term v n.there k (x ∷ y ∷ []) in
    let value : (v : Values) → AreInBounds es v → term v es t ≡ F v (Some (hp.value v)) (Some (hq.value v)) = λ v i.
    node_means es t k (p.term ∷ q.term ∷ []) ar m v ∙ inner_term v v m.there n.there k (term v es p.term ∷ term v es q.term ∷ []) inner ∙ ap (λ x. F v x (term v es q.term)) (hp.kept.is v i) ∙ ap (F v (Some (hp.value v))) (hq.kept.is v i) in
    let some : (v : Values) → AreInBounds es v → IsSome (F v (Some (hp.value v)) (Some (hq.value v))) = λ v i.
    two_some v n.there n.there k (extent es a) (extent es b) (hp.value v) (hq.value v) g (node_some es id k (a ∷ b ∷ []) ar n) (fits es a p v ar hp i) (fits es b q v ar hq i) in
    plain_part es id k (a ∷ b ∷ []) f t (λ v. hp.holds v && hq.holds v) ar inner (two_other k g) n says
    (node_total es t k (p.term ∷ q.term ∷ []) m (hp.kept.total, (hq.kept.total, tt)) (λ v i. subst (λ (x : Term). IsSome x) (sym (value v i)) (some v i)))
    (like_bounds es id t k (a ∷ b ∷ []) (p.term ∷ q.term ∷ []) ar inner n m (pair_like es a b p.term q.term hp.kept.bounds hq.kept.bounds))
    (λ v i. node_means es id k (a ∷ b ∷ []) ar n v ∙ ap (λ x. F v x (term v es b)) (hp.is v i) ∙ ap (F v (only (hp.holds v) (hp.value v))) (hq.is v i) ∙ two_only (F v) (hp.holds v) (hq.holds v) (hp.value v) (hq.value v) (λ z. two_left v n.there k z g) (λ z. two_right v n.there k z g) (some v i) ∙ ap (λ (x : Term). only (hp.holds v && hq.holds v) (value_or x)) (sym (value v i)))
    (λ w.
    let o = hp.own (kid_told es id k (a ∷ b ∷ []) n w 0 a refl) in
    let r = hq.own (kid_told es id k (a ∷ b ∷ []) n w 1 b refl) in
    (none o.0 r.0, own o.1 r.1))

-- ---- comparisons

test_only : (f : Term → Term → Term) (a b : Bool) (x y : Val) → ((z : Term) → f None z ≡ bit false) → ((z : Term) → f z None ≡ bit false) → f (Some x) (Some y) ≡ bit (is_true (f (Some x) (Some y))) → f (only a x) (only b y) ≡ bit ((a && b) && is_true (f (Some x) (Some y)))
test_only f true true x y l r s = s
test_only f true false x y l r s = r (Some x)
test_only f false b x y l r s = l (only b y)

-- what the comparison of the total terms says
pub test_says : (es : List Entry) (id a b : ℕ) (k : NodeKind) (p q : Part) (h : ℕ) → IsArena es → group_of k ≡ group.Test → (n : IsNode es id k (a ∷ b ∷ [])) → IsNode es h k (p.term ∷ q.term ∷ []) → (hp : IsPart es a p) (hq : IsPart es b q) → SaysAt es h (λ v. is_true (kind_term v n.there k (Some (hp.value v) ∷ Some (hq.value v) ∷ [])))
test_says es id a b k p q h ar g n m hp hq =
    let inner = inner_by k group.Test g refl in
    let F : Values → Term → Term → Term = λ v x y. kind_term v n.there k (x ∷ y ∷ []) in
    let is : (v : Values) → AreInBounds es v → term v es h ≡ bit (is_true (F v (Some (hp.value v)) (Some (hq.value v)))) = λ v i.
    node_means es h k (p.term ∷ q.term ∷ []) ar m v ∙ inner_term v v m.there n.there k (term v es p.term ∷ term v es q.term ∷ []) inner ∙ ap (λ x. F v x (term v es q.term)) (hp.kept.is v i) ∙ ap (F v (Some (hp.value v))) (hq.kept.is v i) ∙ test_bit v n.there k (Some (hp.value v)) (Some (hq.value v)) g in
    record {
      truth = record { ends = bounds.truth; is = node_bounds es h k (p.term ∷ q.term ∷ []) ar m ∙ test_open m.there k (extent es p.term) (extent es q.term) g (node_some es h k (p.term ∷ q.term ∷ []) ar m) };
      total = node_total es h k (p.term ∷ q.term ∷ []) m (hp.kept.total, (hq.kept.total, tt)) (λ v i. some_is (term v es h) _ (is v i));
      is = is;
    }

pub test_part : (es : List Entry) (id a b : ℕ) (k : NodeKind) (p q : Part) (f : Option ℕ) (h t : ℕ) → IsArena es → group_of k ≡ group.Test → IsNode es id k (a ∷ b ∷ []) → IsNode es h k (p.term ∷ q.term ∷ []) → (hp : IsPart es a p) (hq : IsPart es b q) → ((c : Values → Bool) → SaysAt es h c → SaysAt es t (λ v. (hp.holds v && hq.holds v) && c v)) → (IsTruth es h → extent es h ≡ open_truth → extent es t ≡ extent es h) → (p.flag ≡ None → q.flag ≡ None → t ≡ h) → (p.term ≡ a → q.term ≡ b → h ≡ id) → IsPart es id (record { flag = None; term = t; len = 0 })
test_part es id a b k p q f h t ar g n m hp hq under bounds none own =
    let inner = inner_by k group.Test g refl in
    let F : Values → Term → Term → Term = λ v x y. kind_term v n.there k (x ∷ y ∷ []) in
    let said = test_says es id a b k p q h ar g n m hp hq in
    let says = under (λ v. is_true (F v (Some (hp.value v)) (Some (hq.value v)))) said in
    let open_h : extent es h ≡ open_truth = node_bounds es h k (p.term ∷ q.term ∷ []) ar m ∙ test_open m.there k (extent es p.term) (extent es q.term) g (node_some es h k (p.term ∷ q.term ∷ []) ar m) in
    let open_id : extent es id ≡ open_truth = node_bounds es id k (a ∷ b ∷ []) ar n ∙ test_open n.there k (extent es a) (extent es b) g (node_some es id k (a ∷ b ∷ []) ar n) in
    defined_part es id k (a ∷ b ∷ []) t ar inner (test_other k g) n says.total (bounds said.truth open_h ∙ open_h ∙ sym open_id)
    (λ v i. node_means es id k (a ∷ b ∷ []) ar n v ∙ ap (λ x. F v x (term v es b)) (hp.is v i) ∙ ap (F v (only (hp.holds v) (hp.value v))) (hq.is v i) ∙ test_only (F v) (hp.holds v) (hq.holds v) (hp.value v) (hq.value v) (λ z. test_left v n.there k z g) (λ z. test_right v n.there k z g) (test_bit v n.there k (Some (hp.value v)) (Some (hq.value v)) g) ∙ sym (says.is v i))
    (λ w.
    let o = hp.own (kid_told es id k (a ∷ b ∷ []) n w 0 a refl) in
    let r = hq.own (kid_told es id k (a ∷ b ∷ []) n w 1 b refl) in
    none o.0 r.0 ∙ own o.1 r.1)

-- ---- Booleans of Booleans

pub connective_part : (es : List Entry) (id a b : ℕ) (k : NodeKind) (p q : Part) (c d t : ℕ) → IsArena es → group_of k ≡ group.Connective → IsNode es id k (a ∷ b ∷ []) → IsNode es t k (c ∷ d ∷ []) → (hp : IsPart es a p) (hq : IsPart es b q) → IsTruth es a → IsTruth es b → SaysAt es c (λ v. is_true (term v es a)) → SaysAt es d (λ v. is_true (term v es b)) → (p.flag ≡ None → c ≡ p.term) → (q.flag ≡ None → d ≡ q.term) → (c ≡ a → d ≡ b → t ≡ id) → IsPart es id (record { flag = None; term = t; len = 0 })
connective_part es id a b k p q c d t ar g n m hp hq ta tb sc sd own_c own_d own =
    let inner = inner_by k group.Connective g refl in
    let F : Values → Term → Term → Term = λ v x y. kind_term v n.there k (x ∷ y ∷ []) in
    let equal : (v : Values) → AreInBounds es v → term v es t ≡ F v (term v es a) (term v es b) = λ v i.
    node_means es t k (c ∷ d ∷ []) ar m v ∙ inner_term v v m.there n.there k (term v es c ∷ term v es d ∷ []) inner ∙ ap (λ x. F v x (term v es d)) (sc.is v i) ∙ ap (F v (bit (is_true (term v es a)))) (sd.is v i) ∙ connective_reads v n.there k (term v es a) (term v es b) g in
    defined_part es id k (a ∷ b ∷ []) t ar inner (connective_other k g) n
    (node_total es t k (c ∷ d ∷ []) m (sc.total, (sd.total, tt)) (λ v i. subst (λ (x : Term). IsSome x) (sym (equal v i)) (connective_some v n.there k (term v es a) (term v es b) g)))
    (node_bounds es t k (c ∷ d ∷ []) ar m ∙ connective_bounds m.there k (extent es c) (extent es d) sc.truth.ends sd.truth.ends g sc.truth.is sd.truth.is ∙ sym (node_bounds es id k (a ∷ b ∷ []) ar n ∙ connective_bounds n.there k (extent es a) (extent es b) ta.ends tb.ends g ta.is tb.is))
    (λ v i. node_means es id k (a ∷ b ∷ []) ar n v ∙ sym (equal v i))
    (λ w.
    let o = hp.own (kid_told es id k (a ∷ b ∷ []) n w 0 a refl) in
    let r = hq.own (kid_told es id k (a ∷ b ∷ []) n w 1 b refl) in
    own (own_c o.0 ∙ o.1) (own_d r.0 ∙ r.1))

pub reading_part : (es : List Entry) (id a : ℕ) (k : NodeKind) (p : Part) (c t : ℕ) → IsArena es → group_of k ≡ group.Reading → IsNode es id k (a ∷ []) → IsNode es t k (c ∷ []) → (hp : IsPart es a p) → SaysAt es c (λ v. is_true (term v es a)) → extent es c ≡ extent es a → (p.flag ≡ None → c ≡ p.term) → (c ≡ a → t ≡ id) → IsPart es id (record { flag = None; term = t; len = 0 })
reading_part es id a k p c t ar g n m hp sc same own_c own =
    let inner = inner_by k group.Reading g refl in
    let F : Values → Term → Term = λ v x. kind_term v n.there k (x ∷ []) in
    let equal : (v : Values) → AreInBounds es v → term v es t ≡ F v (term v es a) = λ v i.
    node_means es t k (c ∷ []) ar m v ∙ inner_term v v m.there n.there k (term v es c ∷ []) inner ∙ ap (F v) (sc.is v i) ∙ reading_reads v n.there k (term v es a) g in
    defined_part es id k (a ∷ []) t ar inner (reading_other k g) n
    (node_total es t k (c ∷ []) m (sc.total, tt) (λ v i. subst (λ (x : Term). IsSome x) (sym (equal v i)) (reading_some v n.there k (term v es a) g)))
    (like_bounds es id t k (a ∷ []) (c ∷ []) ar inner n m (ap (λ (x : Known). x ∷ []) same))
    (λ v i. node_means es id k (a ∷ []) ar n v ∙ sym (equal v i))
    (λ w. let o = hp.own (kid_told es id k (a ∷ []) n w 0 a refl) in own (own_c o.0 ∙ o.1))

-- ---- branches

if_of : (x y z : Term) → if_term x y z ≡ cond (is_true x) y z
unfolding if_term
if_of x y z = refl

choice_only : (c a b : Bool) (x y : Val) → cond c (only a x) (only b y) ≡ only (cond c a b) (value_or (cond c (Some x) (Some y)))
choice_only true a b x y = refl
choice_only false a b x y = refl

cond_some : (c : Bool) (x y : Val) → IsSome (cond c (Some x) (Some y))
cond_some true x y = refl
cond_some false x y = refl

pub choice_part : (es : List Entry) (id h i j : ℕ) (p q r : Part) (f : Option ℕ) (c t : ℕ) → IsArena es → IsNode es id If (three h i j) → IsNode es t If (three c q.term r.term) → (hp : IsPart es h p) (hq : IsPart es i q) (hr : IsPart es j r) → SaysAt es c (λ v. is_true (term v es h)) → extent es c ≡ extent es h → Says es f (λ v. cond (is_true (term v es h)) (hq.holds v) (hr.holds v)) → (p.flag ≡ None → c ≡ p.term) → (q.flag ≡ None → r.flag ≡ None → f ≡ None) → (c ≡ h → q.term ≡ i → r.term ≡ j → t ≡ id) → IsPart es id (record { flag = f; term = t; len = 0 })
choice_part es id h i j p q r f c t ar n m hp hq hr sc same says own_c none own =
    let Z : Values → Bool = λ v. is_true (term v es h) in
    let value : (v : Values) → AreInBounds es v → term v es t ≡ cond (Z v) (Some (hq.value v)) (Some (hr.value v)) = λ v b.
    node_means es t If (three c q.term r.term) ar m v ∙ ap (λ (x : Term). if_term x (term v es q.term) (term v es r.term)) (sc.is v b) ∙ ap (λ (x : Term). if_term (bit (Z v)) x (term v es r.term)) (hq.kept.is v b) ∙ ap (λ (x : Term). if_term (bit (Z v)) (Some (hq.value v)) x) (hr.kept.is v b) ∙ if_bit (Z v) (Some (hq.value v)) (Some (hr.value v)) in
    let like : map (extent es) (three c q.term r.term) ≡ map (extent es) (three h i j) = ap (λ (x : Known). x ∷ extent es q.term ∷ extent es r.term ∷ []) same ∙ ap (λ xs. extent es h ∷ xs) (pair_like es i j q.term r.term hq.kept.bounds hr.kept.bounds) in
    plain_part es id If (three h i j) f t (λ v. cond (Z v) (hq.holds v) (hr.holds v)) ar refl refl n says
    (node_total es t If (three c q.term r.term) m (sc.total, (hq.kept.total, (hr.kept.total, tt))) (λ v b. subst (λ (x : Term). IsSome x) (sym (value v b)) (cond_some (Z v) (hq.value v) (hr.value v))))
    (like_bounds es id t If (three h i j) (three c q.term r.term) ar refl n m like)
    (λ v b. node_means es id If (three h i j) ar n v ∙ if_of (term v es h) (term v es i) (term v es j) ∙ ap (λ x. cond (Z v) x (term v es j)) (hq.is v b) ∙ ap (λ x. cond (Z v) (only (hq.holds v) (hq.value v)) x) (hr.is v b) ∙ choice_only (Z v) (hq.holds v) (hr.holds v) (hq.value v) (hr.value v) ∙ ap (λ (x : Term). only (cond (Z v) (hq.holds v) (hr.holds v)) (value_or x)) (sym (value v b)))
    (λ w.
    let o = hp.own (kid_told es id If (three h i j) n w 0 h refl) in
    let s = hq.own (kid_told es id If (three h i j) n w 1 i refl) in
    let u = hr.own (kid_told es id If (three h i j) n w 2 j refl) in
    (none s.0 u.0, own (own_c o.0 ∙ o.1) s.1 u.1))

-- ---- under a condition

guard_of : (x y : Term) → guard_term x y ≡ cond (is_true x) y None
unfolding guard_term
guard_of x y = refl

guard_only : (c b : Bool) (y : Val) → cond c (only b y) None ≡ only (c && b) y
guard_only true b y = refl
guard_only false b y = refl

guard_bit : (c b : Bool) (y : Val) → Some y ≡ bit (is_true (Some y)) → cond c (only b y) None ≡ only (c && b) (value_or (bit (c && is_true (Some y))))
guard_bit true b y h = ap (λ (x : Term). only b (value_or x)) h
guard_bit false b y h = refl

single_same : (y : Known) → as_truth y ≡ None → IsSome (option_and_then guarded_extent (as_single y)) → option_and_then guarded_extent (as_single y) ≡ y
single_same None n s = absurd (cc)
single_same (Some (whole e)) n s = refl
single_same (Some (truth e)) n s = absurd (cc)
single_same (Some (subset u)) n s = refl
single_same (Some (wholes es)) n s = absurd (cc)
single_same (Some truths) n s = absurd (cc)
single_same (Some (subsets us)) n s = absurd (cc)
single_same (Some no_element) n s = absurd (cc)

-- the bounds of a guard of a number or a set
guard_same : (x y : Known) → as_truth y ≡ None → IsSome (guard_extent x y) → guard_extent x y ≡ y
unfolding guard_extent
guard_same x y n s = by (as_truth x) s
  where
    by : (o : Option Ends) → IsSome (option_and_then (λ c. option_and_then (λ b. guarded_extent b) (as_single y)) o) → option_and_then (λ c. option_and_then (λ b. guarded_extent b) (as_single y)) o ≡ y
    by None h = absurd (cc)
    by (Some e) h = single_same y n h

guard_open : (x y : Known) (e : Ends) → y ≡ Some (truth e) → IsSome (guard_extent x y) → guard_extent x y ≡ open_truth
unfolding guard_extent
guard_open x y e h s = ap (λ (z : Known). guard_extent x z) h ∙ by (as_truth x) (subst (λ (z : Known). IsSome (guard_extent x z)) h s)
  where
    by : (o : Option Ends) → IsSome (option_and_then (λ c. open_truth) o) → option_and_then (λ c. open_truth) o ≡ open_truth
    by None g = absurd (cc)
    by (Some c) g = refl

pub guard_part : (es : List Entry) (id i j : ℕ) (q : Part) (f : Option ℕ) → IsArena es → IsNode es id Guard (i ∷ j ∷ []) → (hq : IsPart es j q) → as_truth (extent es j) ≡ None → Says es f (λ v. is_true (term v es i) && hq.holds v) → IsPart es id (record { flag = f; term = q.term; len = 0 })
guard_part es id i j q f ar n hq other says =
    plain_part es id Guard (i ∷ j ∷ []) f q.term (λ v. is_true (term v es i) && hq.holds v) ar refl refl n says hq.kept.total
    (hq.kept.bounds ∙ sym (guard_same (extent es i) (extent es j) other (node_some es id Guard (i ∷ j ∷ []) ar n)) ∙ sym (node_bounds es id Guard (i ∷ j ∷ []) ar n))
    (λ v b. node_means es id Guard (i ∷ j ∷ []) ar n v ∙ guard_of (term v es i) (term v es j) ∙ ap (λ x. cond (is_true (term v es i)) x None) (hq.is v b) ∙ guard_only (is_true (term v es i)) (hq.holds v) (hq.value v) ∙ ap (λ (x : Term). only (is_true (term v es i) && hq.holds v) (value_or x)) (sym (hq.kept.is v b)))
    (λ w. guard_untold es id (i ∷ j ∷ []) n w)

pub guard_truth_part : (es : List Entry) (id i j : ℕ) (q : Part) (f : Option ℕ) (t : ℕ) → IsArena es → IsNode es id Guard (i ∷ j ∷ []) → (hq : IsPart es j q) → IsTruth es j → SaysAt es t (λ v. is_true (term v es i) && is_true (Some (hq.value v))) → extent es t ≡ open_truth → Says es f (λ v. is_true (term v es i) && hq.holds v) → IsPart es id (record { flag = f; term = t; len = 0 })
guard_truth_part es id i j q f t ar n hq tj st open_t says =
    plain_part es id Guard (i ∷ j ∷ []) f t (λ v. is_true (term v es i) && hq.holds v) ar refl refl n says st.total
    (open_t ∙ sym (guard_open (extent es i) (extent es j) tj.ends tj.is (node_some es id Guard (i ∷ j ∷ []) ar n)) ∙ sym (node_bounds es id Guard (i ∷ j ∷ []) ar n))
    (λ v b.
    let w = bit_in (extent es j) (hq.value v) (record { ends = tj.ends; is = tj.is }) (fits es j q v ar hq b) in
    let same : Some (hq.value v) ≡ bit (is_true (Some (hq.value v))) = subst (λ (x : Val). Some x ≡ bit (is_true (Some x))) (sym w.is) (bit_is w.value w.bit) in
    node_means es id Guard (i ∷ j ∷ []) ar n v ∙ guard_of (term v es i) (term v es j) ∙ ap (λ x. cond (is_true (term v es i)) x None) (hq.is v b) ∙ guard_bit (is_true (term v es i)) (hq.holds v) (hq.value v) same ∙ ap (λ (x : Term). only (is_true (term v es i) && hq.holds v) (value_or x)) (sym (st.is v b)))
    (λ w. guard_untold es id (i ∷ j ∷ []) n w)
