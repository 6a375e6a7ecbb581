-- What is told to be defined: what holds of its children, and that an arena that goes on tells no more of the ids before.
use Rattle.std.proofs.Common.{◌≡◌, ℕ, zero, suc, ◌+◌, ◌<◌, ◌≤◌, ℤ, pos, ◌≤ℤ◌, List, [], ◌∷◌, length, take, Bool, true, false, Some, slice_get, ◌⊎◌, inl, inr, refl, sym, ap, subst, ◌∙◌, arith}
use Rattle.std.proofs.lemmas.Int.{ints}
use Rattle.mz_interval.specs.Ends.{Ends}
use Rattle.mz_operations.specs.Bounds as bounds
use Rattle.mz_arena.specs.declared.node.Node.{Node}
use Rattle.mz_arena.specs.declared.node.NodeKind.{NodeKind}
use Rattle.mz_arena.specs.declared.node.NodeKind.TheVariants.{Div, Mod, Min, Max, Access, Guard, Nil, Cons}
use Rattle.mz_arena.specs.Entries.{Entry, arity, children, AllBelow}
use Rattle.mz_arena.specs.Extents.{Extent, whole, extent}
use Rattle.mz_arena.specs.Arenas.{IsArena, Grew}
use Rattle.mz_partial.specs.declared.group.Group.TheVariants as group
use Rattle.mz_partial.specs.Groups.{group_of, is_inner, is_partial}
use Rattle.mz_partial.specs.Told.{HasElements, no_more, one_more, IsApart, AreInside, IsDivisor, IsIndex, IsLong, TellsDefined, IsToldDefined, told_defined}
use Rattle.mz_partial.specs.Nodes.{IsNode}
use Rattle.mz_partial.proofs.ByKind.{is_cons}

some_entry : {a b : Entry} → Some a ≡ Some b → a ≡ b
some_entry q = cc

-- ---- children

one_kid : (n : Node) (k : NodeKind) → n.kind ≡ k → arity k ≡ 1 → children n ≡ n.a ∷ []
one_kid n k h m = ap (λ j. take j (n.a ∷ n.b ∷ n.c ∷ [])) (ap arity h ∙ m)

two_kids : (n : Node) (k : NodeKind) → n.kind ≡ k → arity k ≡ 2 → children n ≡ n.a ∷ n.b ∷ []
two_kids n k h m = ap (λ j. take j (n.a ∷ n.b ∷ n.c ∷ [])) (ap arity h ∙ m)

one_below : (m : ℕ) (n : Node) (k : NodeKind) → n.kind ≡ k → arity k ≡ 1 → AllBelow m (children n) → AllBelow m (n.a ∷ [])
one_below m n k h r b = subst (λ is. AllBelow m is) (one_kid n k h r) b

two_below : (m : ℕ) (n : Node) (k : NodeKind) → n.kind ≡ k → arity k ≡ 2 → AllBelow m (children n) → AllBelow m (n.a ∷ n.b ∷ [])
two_below m n k h r b = subst (λ is. AllBelow m is) (two_kids n k h r) b

all_below : (m n : ℕ) (is : List ℕ) → m < n → AllBelow m is → AllBelow n is
all_below m n [] h b = tt
all_below m n (i ∷ is) h b = (omega (arith, h, b.0), all_below m n is h b.1)

below_at : (n k j : ℕ) (is : List ℕ) → AllBelow n is → slice_get is k ≡ Some j → j < n
below_at n k j [] b m = absurd (cc)
below_at n zero j (x ∷ is) b m = let same : x ≡ j = cc in subst (λ y. y < n) same b.0
below_at n (suc k) j (x ∷ is) b m = below_at n k j is b.1 m

-- ---- an arena that goes on

elements_before : (old new : List Entry) (id n : ℕ) → Grew old new → IsArena old → id < length old → HasElements new id n → HasElements old id n
elements_before old new id n g a below (no_more i e h k) = no_more i e (sym (g.same i below) ∙ h) k
elements_before old new id n g a below (one_more i m e h k rest) =
    let there : slice_get old i ≡ Some e = sym (g.same i below) ∙ h in
    let kids = two_below i e.node Cons k refl (a.ordered i e there) in
    one_more i m e there k (elements_before old new e.node.b m g a (omega (arith, below, kids.1.0)) rest)

divisor_before : (old new : List Entry) (id : ℕ) → Grew old new → id < length old → IsDivisor new id → IsDivisor old id
divisor_before old new id g below d = record { ends = d.ends; whole_is = sym (g.extents id below) ∙ d.whole_is; apart = d.apart }

index_before : (old new : List Entry) (id list : ℕ) → Grew old new → IsArena old → id < length old → list < length old → IsIndex new id list → IsIndex old id list
index_before old new id list g a below low d = record {
  ends = d.ends;
  whole_is = sym (g.extents id below) ∙ d.whole_is;
  count = d.count;
  elements = elements_before old new list d.count g a low d.elements;
  inside = d.inside;
}

long_before : (old new : List Entry) (id : ℕ) → Grew old new → IsArena old → id < length old → IsLong new id → IsLong old id
long_before old new id g a below d = record { rest = d.rest; elements = elements_before old new id (suc d.rest) g a below d.elements }

tells_before : (old new : List Entry) (n : Node) (k : NodeKind) → n.kind ≡ k → Grew old new → IsArena old → AllBelow (length old) (children n) → TellsDefined new n k → TellsDefined old n k
tells_before old new n Div h g a b t = divisor_before old new n.b g (two_below (length old) n Div h refl b).1.0 t
tells_before old new n Mod h g a b t = divisor_before old new n.b g (two_below (length old) n Mod h refl b).1.0 t
tells_before old new n Access h g a b t = index_before old new n.a n.b g a (two_below (length old) n Access h refl b).0 (two_below (length old) n Access h refl b).1.0 t
tells_before old new n Min h g a b t = long_before old new n.a g a (one_below (length old) n Min h refl b).0 t
tells_before old new n Max h g a b t = long_before old new n.a g a (one_below (length old) n Max h refl b).0 t
tells_before old new n Guard h g a b t = absurd t
tells_before old new n _ h g a b t = tt

pub told_before : (old new : List Entry) (id : ℕ) → Grew old new → IsArena old → id < length old → IsToldDefined new id → IsToldDefined old id
told_before old new id g a below (told_defined i e h t kids) =
    let there : slice_get old i ≡ Some e = sym (g.same i below) ∙ h in
    let low = all_below i (length old) (children e.node) below (a.ordered i e there) in
    told_defined i e there (tells_before old new e.node e.node.kind refl g a low t) (λ k j m. told_before old new j g a (below_at (length old) k j (children e.node) low m) (kids k j m))

-- ---- lists

-- how many elements a list has is told once
pub kept_count : (old new : List Entry) (id m : ℕ) → Grew old new → IsArena old → id < length old → ((n : ℕ) → HasElements old id n → m ≡ n) → (n : ℕ) → HasElements new id n → m ≡ n
kept_count old new id m g a below all n h = all n (elements_before old new id n g a below h)

abbrev is_listed : NodeKind → Bool
is_listed Nil = true
is_listed Cons = true
is_listed _ = false

listed : (es : List Entry) (id n : ℕ) (e : Entry) → slice_get es id ≡ Some e → HasElements es id n → is_listed e.node.kind ≡ true
listed es id n e s (no_more i d h k) = ap (λ (x : Entry). is_listed x.node.kind) (some_entry (sym s ∙ h)) ∙ ap is_listed k
listed es id n e s (one_more i m d h k rest) = ap (λ (x : Entry). is_listed x.node.kind) (some_entry (sym s ∙ h)) ∙ ap is_listed k

inner_unlisted : (k : NodeKind) → is_inner k ≡ true → is_cons k ≡ false → is_listed k ≡ false
inner_unlisted Nil i c = absurd (cc)
inner_unlisted Cons i c = absurd (cc)
inner_unlisted _ i c = refl

partial_unlisted : (k : NodeKind) → is_partial k ≡ true → is_listed k ≡ false
partial_unlisted Nil h = absurd (cc)
partial_unlisted Cons h = absurd (cc)
partial_unlisted _ h = refl

clash_at : {A : Type 0} (b : Bool) → b ≡ true → b ≡ false → A
clash_at b x y = absurd (cc)

pub no_list : {A : Type 0} (es : List Entry) (id : ℕ) (k : NodeKind) (is : List ℕ) (n : ℕ) → IsNode es id k is → is_inner k ≡ true → is_cons k ≡ false → HasElements es id n → A
no_list es id k is n m i c h = clash_at (is_listed m.there.node.kind) (listed es id n m.there m.stands h) (ap is_listed m.kind ∙ inner_unlisted k i c)

pub no_partial_list : {A : Type 0} (es : List Entry) (id n : ℕ) (e : Entry) → slice_get es id ≡ Some e → is_partial e.node.kind ≡ true → HasElements es id n → A
no_partial_list es id n e s p h = clash_at (is_listed e.node.kind) (listed es id n e s h) (partial_unlisted e.node.kind p)

-- of no element
pub leaf_elements : (es : List Entry) (id n : ℕ) (e : Entry) → slice_get es id ≡ Some e → group_of e.node.kind ≡ group.Leaf → HasElements es id n → 0 ≡ n
leaf_elements es id n e s g (no_more i d h k) = refl
leaf_elements es id n e s g (one_more i m d h k rest) = unlike (sym g ∙ ap (λ (x : Entry). group_of x.node.kind) (some_entry (sym s ∙ h)) ∙ ap group_of k)
  where
    unlike : {A : Type 0} → group.Leaf ≡ group.Cons → A
    unlike q = absurd (cc)

-- of one element more than the rest has
pub cons_elements : (es : List Entry) (id a b m n : ℕ) → IsNode es id Cons (a ∷ b ∷ []) → ((j : ℕ) → HasElements es b j → m ≡ j) → HasElements es id n → m + 1 ≡ n
cons_elements es id a b m n w all (no_more i d h k) = unlike (sym w.kind ∙ ap (λ (x : Entry). x.node.kind) (some_entry (sym w.stands ∙ h)) ∙ k)
  where
    unlike : {A : Type 0} → Cons ≡ Nil → A
    unlike q = absurd (cc)
cons_elements es id a b m n w all (one_more i j d h k rest) =
    let same : children d.node ≡ a ∷ b ∷ [] = ap (λ (x : Entry). children x.node) (some_entry (sym h ∙ w.stands)) ∙ w.kids in
    let last : d.node.b ≡ b = second (sym (two_kids d.node Cons k refl) ∙ same) in
    omega (arith, all j (subst (λ x. HasElements es x j) last rest))
  where
    second : {x y z w : ℕ} → x ∷ y ∷ [] ≡ z ∷ w ∷ [] → y ≡ w
    second q = cc

-- ---- what is told of a node's children

pub kid_told : (es : List Entry) (id : ℕ) (k : NodeKind) (is : List ℕ) → IsNode es id k is → IsToldDefined es id → (j i : ℕ) → slice_get is j ≡ Some i → IsToldDefined es i
kid_told es id k is n (told_defined o e h t kids) j i m =
    let same : children e.node ≡ is = ap (λ (d : Entry). children d.node) (some_entry (sym h ∙ n.stands)) ∙ n.kids in
    kids j i (ap (λ js. slice_get js j) same ∙ m)

tells_at : (es : List Entry) (id : ℕ) (k : NodeKind) (is : List ℕ) → (n : IsNode es id k is) → IsToldDefined es id → TellsDefined es n.there.node k
tells_at es id k is n (told_defined o e h t kids) = subst (λ j. TellsDefined es n.there.node j) n.kind (subst (λ (d : Entry). TellsDefined es d.node d.node.kind) (some_entry (sym h ∙ n.stands)) t)

-- nothing tells that a guard is defined
pub guard_untold : {A : Type 0} (es : List Entry) (id : ℕ) (is : List ℕ) → IsNode es id Guard is → IsToldDefined es id → A
guard_untold es id is n w = absurd (tells_at es id Guard is n w)

pub extreme_told : (es : List Entry) (id a : ℕ) (k : NodeKind) → IsNode es id k (a ∷ []) → group_of k ≡ group.Extreme → IsToldDefined es id → IsLong es a
extreme_told es id a k n g w = by k n.kind g (tells_at es id k (a ∷ []) n w)
  where
    first : {x y : ℕ} → x ∷ [] ≡ y ∷ [] → x ≡ y
    first q = cc

    there : (j : NodeKind) → n.there.node.kind ≡ j → arity j ≡ 1 → IsLong es n.there.node.a → IsLong es a
    there j h r t = subst (λ i. IsLong es i) (first (sym (one_kid n.there.node j h r) ∙ n.kids)) t

    by : (j : NodeKind) → n.there.node.kind ≡ j → group_of j ≡ group.Extreme → TellsDefined es n.there.node j → IsLong es a
    by Min h q t = there Min h refl t
    by Max h q t = there Max h refl t
    by _ h q t = absurd (cc)

pub division_told : (es : List Entry) (id a b : ℕ) (k : NodeKind) → IsNode es id k (a ∷ b ∷ []) → group_of k ≡ group.Division → IsToldDefined es id → IsDivisor es b
division_told es id a b k n g w = by k n.kind g (tells_at es id k (a ∷ b ∷ []) n w)
  where
    second : {x y z w : ℕ} → x ∷ y ∷ [] ≡ z ∷ w ∷ [] → y ≡ w
    second q = cc

    there : (j : NodeKind) → n.there.node.kind ≡ j → arity j ≡ 2 → IsDivisor es n.there.node.b → IsDivisor es b
    there j h r t = subst (λ i. IsDivisor es i) (second (sym (two_kids n.there.node j h r) ∙ n.kids)) t

    by : (j : NodeKind) → n.there.node.kind ≡ j → group_of j ≡ group.Division → TellsDefined es n.there.node j → IsDivisor es b
    by Div h q t = there Div h refl t
    by Mod h q t = there Mod h refl t
    by _ h q t = absurd (cc)

pub access_told : (es : List Entry) (id a b : ℕ) → IsNode es id Access (a ∷ b ∷ []) → IsToldDefined es id → IsIndex es a b
access_told es id a b n w =
    let same = sym (two_kids n.there.node Access n.kind refl) ∙ n.kids in
    subst (λ i. IsIndex es i b) (first same) (subst (λ i. IsIndex es n.there.node.a i) (second same) (tells_at es id Access (a ∷ b ∷ []) n w))
  where
    first : {x y z w : ℕ} → x ∷ y ∷ [] ≡ z ∷ w ∷ [] → x ≡ z
    first q = cc

    second : {x y z w : ℕ} → x ∷ y ∷ [] ≡ z ∷ w ∷ [] → y ≡ w
    second q = cc

-- ---- bounds that are known

whole_ends : {e f : Ends} → Some (whole e) ≡ Some (whole f) → e ≡ f
whole_ends q = cc

pub apart_at : (es : List Entry) (id : ℕ) (e : Ends) → extent es id ≡ Some (whole e) → IsDivisor es id → IsApart e
apart_at es id e h d = subst IsApart (whole_ends (sym d.whole_is ∙ h)) d.apart

pub inside_at : (es : List Entry) (id list m : ℕ) (e : Ends) → extent es id ≡ Some (whole e) → ((n : ℕ) → HasElements es list n → m ≡ n) → IsIndex es id list → AreInside (pos m) e
inside_at es id list m e h all d = subst (λ n. AreInside (pos n) e) (sym (all d.count d.elements)) (subst (AreInside (pos d.count)) (whole_ends (sym d.whole_is ∙ h)) d.inside)

pub nothing_untold : {A : Type 0} (e : Ends) → e ≡ bounds.nothing → IsApart e → A
nothing_untold e h a = by (subst IsApart h a)
  where
    by : {A : Type 0} → IsApart bounds.nothing → A
    by (inl x) = absurd (omega (arith, ints, x))
    by (inr x) = absurd (omega (arith, ints, x))
