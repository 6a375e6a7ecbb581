-- Booleans that say where something holds, and the nodes that are made of them.
use Rattle.std.proofs.Common.{◌≡◌, ℕ, List, [], ◌∷◌, Bool, true, false, not, ◌&&◌, ◌||◌, cond, Option, Some, None, IsSome, refl, sym, ap, subst, ◌∙◌, arith}
use Rattle.mz_interval.specs.Ends.{Ends}
use Rattle.mz_operations.specs.Bounds as bounds
use Rattle.mz_arena.specs.declared.node.NodeKind.TheVariants.{And, Or, Not, If}
use Rattle.mz_arena.specs.Entries.{Entry}
use Rattle.mz_arena.specs.Values.{Val, Term, Values, bit, is_true, and_term, or_term, not_term, if_term}
use Rattle.mz_arena.specs.Terms.{term}
use Rattle.mz_arena.specs.Extents.{Known, truth, open_truth, connective_extent, not_extent, extent}
use Rattle.mz_arena.specs.Arenas.{IsArena}
use Rattle.mz_arena.specs.InBounds.{Lies, AreInBounds}
use Rattle.mz_arena.proofs.Terms.{terms_lie}
use Rattle.mz_partial.specs.declared.part.Part.{Part}
use Rattle.mz_partial.specs.Totals.{IsTruth, SaysAt, Says, IsPart, IsOpen, only}
use Rattle.mz_partial.specs.Nodes.{IsNode, Placed, three}
use Rattle.mz_partial.specs.Calls.{IsFlag, Joins, Conjoins, Reads, Chooses}
use Rattle.mz_partial.proofs.Standing.{node_means, node_bounds, node_total, node_later, extends_same, extends_both, truth_later}
use Rattle.mz_partial.proofs.ByKind.{Fits, bit_in, bit_is, true_bit, connective_open, not_open}
use Rattle.mz_partial.proofs.Asked.{truths_choice}

pub some_is : (x : Term) (w : Val) → x ≡ Some w → IsSome x
some_is x w h = subst (λ (y : Term). IsSome y) (sym h) refl

pub bits_and : (a b : Bool) → and_term (bit a) (bit b) ≡ bit (a && b)
unfolding and_term
bits_and a b = ap (λ x. bit (x && is_true (bit b))) (true_bit a) ∙ ap (λ x. bit (a && x)) (true_bit b)

bits_or : (a b : Bool) → or_term (bit a) (bit b) ≡ bit (a || b)
unfolding or_term
bits_or a b = ap (λ x. bit (x || is_true (bit b))) (true_bit a) ∙ ap (λ x. bit (a || x)) (true_bit b)

bits_not : (a : Bool) → not_term (bit a) ≡ bit (not a)
unfolding not_term
bits_not a = ap (λ x. bit (not x)) (true_bit a)

pub if_bit : (a : Bool) (x y : Term) → if_term (bit a) x y ≡ cond a x y
unfolding if_term
if_bit a x y = ap (λ c. cond c x y) (true_bit a)

-- ---- the same condition otherwise said

pub says_at_as : (es : List Entry) (d : ℕ) (a b : Values → Bool) → ((v : Values) → AreInBounds es v → a v ≡ b v) → SaysAt es d a → SaysAt es d b
says_at_as es d a b h s = record { truth = s.truth; total = s.total; is = λ v i. s.is v i ∙ ap bit (h v i) }

pub says_as : (es : List Entry) (f : Option ℕ) (a b : Values → Bool) → ((v : Values) → AreInBounds es v → a v ≡ b v) → Says es f a → Says es f b
says_as es None a b h s = λ v i. sym (h v i) ∙ s v i
says_as es (Some d) a b h s = says_at_as es d a b h s

pub says_by : (es : List Entry) (f g : Option ℕ) (a : Values → Bool) → f ≡ g → Says es f a → Says es g a
says_by es f g a h s = subst (λ (o : Option ℕ). Says es o a) h s

-- a flag that says something is a Boolean node
pub says_flag : (es : List Entry) (f : Option ℕ) (a : Values → Bool) → Says es f a → IsFlag es f
says_flag es None a s = tt
says_flag es (Some d) a s = s.truth

pub flag_by : (es : List Entry) (f : Option ℕ) (d : ℕ) → f ≡ Some d → IsFlag es f → IsTruth es d
flag_by es f d h s = subst (λ (o : Option ℕ). IsFlag es o) h s

pub not_truth : (es : List Entry) (a n : ℕ) → IsArena es → IsNode es n Not (a ∷ []) → IsTruth es a → IsTruth es n
not_truth es a n ar m t = record { ends = bounds.truth; is = node_bounds es n Not (a ∷ []) ar m ∙ ap not_extent t.is ∙ not_open t.ends }

and_truth : (es : List Entry) (a b h : ℕ) → IsArena es → IsNode es h And (a ∷ b ∷ []) → IsTruth es a → IsTruth es b → IsTruth es h
and_truth es a b h ar n s t = record { ends = bounds.truth; is = node_bounds es h And (a ∷ b ∷ []) ar n ∙ ap (λ (x : Known). connective_extent x (extent es b)) s.is ∙ ap (connective_extent (Some (truth s.ends))) t.is ∙ connective_open s.ends t.ends }

-- ---- nodes

pub and_says : (es : List Entry) (a b h : ℕ) (x y : Values → Bool) → IsArena es → IsNode es h And (a ∷ b ∷ []) → SaysAt es a x → SaysAt es b y → SaysAt es h (λ v. x v && y v)
and_says es a b h x y ar n p q =
    let is : (v : Values) → AreInBounds es v → term v es h ≡ bit (x v && y v) = λ v i. node_means es h And (a ∷ b ∷ []) ar n v ∙ ap (λ (t : Term). and_term t (term v es b)) (p.is v i) ∙ ap (and_term (bit (x v))) (q.is v i) ∙ bits_and (x v) (y v) in
    record {
      truth = record { ends = bounds.truth; is = node_bounds es h And (a ∷ b ∷ []) ar n ∙ ap (λ (t : Known). connective_extent t (extent es b)) p.truth.is ∙ ap (connective_extent (Some (truth p.truth.ends))) q.truth.is ∙ connective_open p.truth.ends q.truth.ends };
      total = node_total es h And (a ∷ b ∷ []) n (p.total, (q.total, tt)) (λ v i. some_is (term v es h) _ (is v i));
      is = is;
    }

pub or_says : (es : List Entry) (a b h : ℕ) (x y : Values → Bool) → IsArena es → IsNode es h Or (a ∷ b ∷ []) → SaysAt es a x → SaysAt es b y → SaysAt es h (λ v. x v || y v)
or_says es a b h x y ar n p q =
    let is : (v : Values) → AreInBounds es v → term v es h ≡ bit (x v || y v) = λ v i. node_means es h Or (a ∷ b ∷ []) ar n v ∙ ap (λ (t : Term). or_term t (term v es b)) (p.is v i) ∙ ap (or_term (bit (x v))) (q.is v i) ∙ bits_or (x v) (y v) in
    record {
      truth = record { ends = bounds.truth; is = node_bounds es h Or (a ∷ b ∷ []) ar n ∙ ap (λ (t : Known). connective_extent t (extent es b)) p.truth.is ∙ ap (connective_extent (Some (truth p.truth.ends))) q.truth.is ∙ connective_open p.truth.ends q.truth.ends };
      total = node_total es h Or (a ∷ b ∷ []) n (p.total, (q.total, tt)) (λ v i. some_is (term v es h) _ (is v i));
      is = is;
    }

pub not_says : (es : List Entry) (a h : ℕ) (x : Values → Bool) → IsArena es → IsNode es h Not (a ∷ []) → SaysAt es a x → SaysAt es h (λ v. not (x v))
not_says es a h x ar n p =
    let is : (v : Values) → AreInBounds es v → term v es h ≡ bit (not (x v)) = λ v i. node_means es h Not (a ∷ []) ar n v ∙ ap not_term (p.is v i) ∙ bits_not (x v) in
    record {
      truth = record { ends = bounds.truth; is = node_bounds es h Not (a ∷ []) ar n ∙ ap not_extent p.truth.is ∙ not_open p.truth.ends };
      total = node_total es h Not (a ∷ []) n (p.total, tt) (λ v i. some_is (term v es h) _ (is v i));
      is = is;
    }

cond_bit : (a b c : Bool) → cond a (bit b) (bit c) ≡ bit (cond a b c)
cond_bit true b c = refl
cond_bit false b c = refl

pub if_says : (es : List Entry) (c a b h : ℕ) (z x y : Values → Bool) → IsArena es → IsNode es h If (three c a b) → SaysAt es c z → SaysAt es a x → SaysAt es b y → SaysAt es h (λ v. cond (z v) (x v) (y v))
if_says es c a b h z x y ar n r p q =
    let is : (v : Values) → AreInBounds es v → term v es h ≡ bit (cond (z v) (x v) (y v)) = λ v i.
    node_means es h If (three c a b) ar n v ∙ ap (λ (t : Term). if_term t (term v es a) (term v es b)) (r.is v i) ∙ ap (λ (t : Term). if_term (bit (z v)) t (term v es b)) (p.is v i) ∙ ap (λ (t : Term). if_term (bit (z v)) (bit (x v)) t) (q.is v i) ∙ if_bit (z v) (bit (x v)) (bit (y v)) ∙ cond_bit (z v) (x v) (y v) in
    record {
      truth = record { ends = bounds.truth; is = node_bounds es h If (three c a b) ar n ∙ truths_choice _ _ _ r.truth.ends p.truth.ends q.truth.ends r.truth.is p.truth.is q.truth.is };
      total = node_total es h If (three c a b) n (r.total, (p.total, (q.total, tt))) (λ v i. some_is (term v es h) _ (is v i));
      is = is;
    }

-- ---- both

pub joins_none : (es : List Entry) (f g : Option ℕ) → IsArena es → f ≡ None → Joins es es f g g
joins_none es f g a h = record {
  cost = omega arith;
  extends = extends_same es;
  arena = a;
  says = λ fs e ar x y p q. let n = says_by fs f None x h p in says_as fs g y (λ v. x v && y v) (λ v i. ap (λ b. b && y v) (sym (n v i))) q;
  flag = λ p q. q;
  own = λ p q. (q, refl);
}

pub joins_first : (es : List Entry) (f g : Option ℕ) → IsArena es → g ≡ None → Joins es es f g f
joins_first es f g a h = record {
  cost = omega arith;
  extends = extends_same es;
  arena = a;
  says = λ fs e ar x y p q. let n = says_by fs g None y h q in says_as fs f x (λ v. x v && y v) (λ v i. both_true (x v) (y v) (n v i)) p;
  flag = λ p q. p;
  own = λ p q. (p, refl);
}
  where
    both_true : (a b : Bool) → b ≡ true → a ≡ a && b
    both_true true b h = sym h
    both_true false b h = refl

pub some_none : {A : Type 0} (f : Option ℕ) (d : ℕ) → f ≡ Some d → f ≡ None → A
some_none f d h k = absurd (cc)

pub joins_both : (old new : List Entry) (f g : Option ℕ) (a b h : ℕ) → f ≡ Some a → g ≡ Some b → Placed old new And (a ∷ b ∷ []) h → Joins old new f g (Some h)
joins_both old new f g a b h p q m = record {
  cost = m.cost;
  extends = m.extends;
  arena = m.arena;
  says = λ fs e ar x y r s. and_says fs a b h x y ar (node_later new fs h And (a ∷ b ∷ []) e m.node) (says_by fs f (Some a) x p r) (says_by fs g (Some b) y q s);
  flag = λ k l. and_truth new a b h m.arena m.node (truth_later old new a m.extends.grew (flag_by old f a p k)) (truth_later old new b m.extends.grew (flag_by old g b q l));
  own = λ k l. some_none f a p k;
}

-- ---- a Boolean under a flag

pub conjoins_none : (es : List Entry) (f : Option ℕ) (t : ℕ) → IsArena es → f ≡ None → Conjoins es es f t t
conjoins_none es f t a h = record {
  cost = omega arith;
  extends = extends_same es;
  arena = a;
  says = λ fs e ar x y p q. let n = says_by fs f None x h p in says_at_as fs t y (λ v. x v && y v) (λ v i. ap (λ b. b && y v) (sym (n v i))) q;
  bounds = λ fs e ar s o. refl;
  own = λ p. (refl, refl);
}

pub conjoins_some : (old new : List Entry) (f : Option ℕ) (t d r : ℕ) → f ≡ Some d → IsTruth old d → Placed old new And (d ∷ t ∷ []) r → Conjoins old new f t r
conjoins_some old new f t d r h td m = record {
  cost = m.cost;
  extends = m.extends;
  arena = m.arena;
  says = λ fs e ar x y p q. and_says fs d t r x y ar (node_later new fs r And (d ∷ t ∷ []) e m.node) (says_by fs f (Some d) x h p) q;
  bounds = λ fs e ar s o.
      let u = truth_later new fs d e (truth_later old new d m.extends.grew td) in
      node_bounds fs r And (d ∷ t ∷ []) ar (node_later new fs r And (d ∷ t ∷ []) e m.node) ∙ ap (λ (x : Known). connective_extent x (extent fs t)) u.is ∙ ap (connective_extent (Some (truth u.ends))) s.is ∙ connective_open u.ends s.ends ∙ sym (o d h);
  own = λ p. some_none f d h p;
}

-- ---- a Boolean part, read

-- a part's value lies in the id's bounds
pub fits : (es : List Entry) (i : ℕ) (p : Part) (v : Values) → IsArena es → (h : IsPart es i p) → AreInBounds es v → Fits (extent es i) (h.value v)
fits es i p v a h b =
    let lies : Lies (extent es i) (Some (h.value v)) = subst (λ (x : Known). Lies x (Some (h.value v))) h.kept.bounds (subst (λ (t : Term). Lies (extent es p.term) t) (h.kept.is v b) (terms_lie es a v b p.term)) in
    record { lies = λ x e. subst (λ (o : Known). Lies o (Some (h.value v))) e lies }

-- a total Boolean term says that it is true
pub part_says : (es : List Entry) (i : ℕ) (p : Part) → IsArena es → (h : IsPart es i p) → IsTruth es i → SaysAt es p.term (λ v. is_true (Some (h.value v)))
part_says es i p a h t = record {
  truth = record { ends = t.ends; is = h.kept.bounds ∙ t.is };
  total = h.kept.total;
  is = λ v b.
      let w = bit_in (extent es i) (h.value v) (record { ends = t.ends; is = t.is }) (fits es i p v a h b) in
      h.kept.is v b ∙ subst (λ (x : Val). Some x ≡ bit (is_true (Some x))) (sym w.is) (bit_is w.value w.bit);
}

only_true : (b : Bool) (w : Val) → b && is_true (Some w) ≡ is_true (only b w)
only_true true w = refl
only_true false w = refl

open_truths : (x : Known) (e : Ends) → x ≡ Some (truth e) → IsOpen x → x ≡ open_truth
open_truths (Some (truth f)) e h o = ap (λ g. Some (truth g)) o
open_truths _ e h o = absurd (cc)

pub reads : (old new : List Entry) (id : ℕ) (p : Part) (t : ℕ) → Conjoins old new p.flag p.term t → Reads old new id p t
reads old new id p t c = record {
  cost = c.cost;
  extends = c.extends;
  arena = c.arena;
  says = λ es e a h k. says_at_as es t (λ v. h.holds v && is_true (Some (h.value v))) (λ v. is_true (term v es id)) (λ v i. only_true (h.holds v) (h.value v) ∙ ap is_true (sym (h.is v i)))
      (c.says es e a h.holds (λ v. is_true (Some (h.value v))) h.flag (part_says es id p a h k));
  bounds = λ es e a h k.
      let s : IsTruth es p.term = record { ends = k.ends; is = h.kept.bounds ∙ k.is } in
      c.bounds es e a s (λ d f. h.kept.bounds ∙ open_truths (extent es id) k.ends k.is (h.open_ d f)) ∙ h.kept.bounds;
  own = λ f. c.own f;
}

-- ---- one of two flags

pub chooses_none : (es : List Entry) (c : ℕ) (g : Option ℕ) → IsArena es → g ≡ None → Chooses es es c None g None
chooses_none es c g a h = record {
  cost = omega arith;
  extends = extends_same es;
  arena = a;
  says = λ fs e ar z x y r p q. let n = says_by fs g None y h q in (λ v i. either (z v) (x v) (y v) (p v i) (n v i));
  own = λ p q. (refl, refl);
}
  where
    either : (z x y : Bool) → x ≡ true → y ≡ true → cond z x y ≡ true
    either true x y p q = p
    either false x y p q = q

pub chooses_or : (old new : List Entry) (c b h : ℕ) (g : Option ℕ) → g ≡ Some b → Placed old new Or (c ∷ b ∷ []) h → Chooses old new c None g (Some h)
chooses_or old new c b h g k m = record {
  cost = omega (arith, m.cost);
  extends = m.extends;
  arena = m.arena;
  says = λ fs e ar z x y r p q. says_at_as fs h (λ v. z v || y v) (λ v. cond (z v) (x v) (y v)) (λ v i. either (z v) (x v) (y v) (p v i)) (or_says fs c b h z y ar (node_later new fs h Or (c ∷ b ∷ []) e m.node) r (says_by fs g (Some b) y k q));
  own = λ p q. some_none g b k q;
}
  where
    either : (z x y : Bool) → x ≡ true → z || y ≡ cond z x y
    either true x y p = sym p
    either false x y p = refl

pub chooses_not : (old mid new : List Entry) (c a n h : ℕ) (g : Option ℕ) → g ≡ None → Placed old mid Not (c ∷ []) n → Placed mid new Or (n ∷ a ∷ []) h → Chooses old new c (Some a) g (Some h)
chooses_not old mid new c a n h g k l m = record {
  cost = omega (arith, l.cost, m.cost);
  extends = extends_both old mid new l.extends m.extends;
  arena = m.arena;
  says = λ fs e ar z x y r p q.
      let last : IsNode fs h Or (n ∷ a ∷ []) = node_later new fs h Or (n ∷ a ∷ []) e m.node in
      let first : IsNode fs n Not (c ∷ []) = node_later new fs n Not (c ∷ []) e (node_later mid new n Not (c ∷ []) m.extends.grew l.node) in
      let none = says_by fs g None y k q in
      says_at_as fs h (λ v. not (z v) || x v) (λ v. cond (z v) (x v) (y v)) (λ v i. either (z v) (x v) (y v) (none v i)) (or_says fs n a h (λ v. not (z v)) x ar last (not_says fs c n z ar first r) p);
  own = λ p q. some_none (Some a) a refl p;
}
  where
    either : (z x y : Bool) → y ≡ true → not z || x ≡ cond z x y
    either true x y p = refl
    either false x y p = sym p

pub chooses_if : (old new : List Entry) (c a b h : ℕ) (g : Option ℕ) → g ≡ Some b → Placed old new If (three c a b) h → Chooses old new c (Some a) g (Some h)
chooses_if old new c a b h g k m = record {
  cost = m.cost;
  extends = m.extends;
  arena = m.arena;
  says = λ fs e ar z x y r p q. if_says fs c a b h z x y ar (node_later new fs h If (three c a b) e m.node) r p (says_by fs g (Some b) y k q);
  own = λ p q. some_none g b k q;
}
