-- The values of arrays of sets and of Booleans.
use Rattle.std.proofs.Common.{◌≡◌, ◌∙◌, ℕ, ℤ, Bool, true, false, ◌&&◌, List, [], ◌∷◌, map, Option, Some, None, IsSome, slice_get, refl, sym, ap, subst, if◌then◌else◌}
use Rattle.std.specs.Option.{option_map, option_and_then}
use Rattle.mz_value.specs.Ranges.{Range}
use Rattle.mz_value.specs.Contents.{Content, contents}
use Rattle.mz_value.specs.Contents as values
use Rattle.mz_core.specs.declared.types.Base.{Base}
use Rattle.mz_core.specs.declared.types.Base.TheVariants as base
use Rattle.mz_instance.specs.Contents.{content_by, is_one}
use Rattle.mz_arena.specs.Values.{Term, as_number, as_set, is_true}
use Rattle.mz_symbol.specs.declared.types.Line.{Line}
use Rattle.mz_symbol.specs.Lines.{only_if}
use Rattle.mz_symbol.specs.Symbols.{value_by, symbol_value, all_there, elements_value, AreItems}
use Rattle.mz_symbol.specs.Runs.{Run, IsRun}
use Rattle.mz_symbol.specs.Readings.{Reading, Reads}
use Rattle.glob_nodes.specs.declared.arguments.Numbers.{Numbers}
use Rattle.glob_nodes.proofs.Rows.{found}
use Rattle.glob_sets.specs.Arrays.{all_some, array_by, elements_in, truth_of, AreThere}
use Rattle.glob_sets.specs.Arrays.{plain_symbol}

-- what terms are as values of a base
abbrev pub IsSeen : {A : Type 0} → Base → (Term → Option A) → (A → Content) → Type 0
IsSeen b see make = (t : Term) → value_by b t ≡ option_map make (see t)

pub sets_seen : IsSeen base.SetInt as_set (values.set None)
sets_seen t = by (as_set t)
  where
    by : (o : Option (List Range)) → option_map (λ s. values.set None s) o ≡ option_map (values.set None) o
    by None = refl
    by (Some s) = refl

pub truths_seen : IsSeen base.Bool truth_of values.bool
truths_seen t = by (as_number t)
  where
    by : (o : Option ℤ) → option_map (λ n. content_by base.Bool n []) o ≡ option_map values.bool (option_map is_one o)
    by None = refl
    by (Some n) = refl

-- ---- a line's values

mapped_cons : {A : Type 0} (make : A → Content) (v : A) (q : Option (List A)) → option_map (λ ys. make v ∷ ys) (option_map (map make) q) ≡ option_map (map make) (option_map (λ vs. v ∷ vs) q)
mapped_cons make v None = refl
mapped_cons make v (Some vs) = refl

value_cons : {A : Type 0} (make : A → Content) (o : Option A) (vs : List (Option Content)) (os : List (Option A)) → all_there vs ≡ option_map (map make) (all_some os) → all_there (option_map make o ∷ vs) ≡ option_map (map make) (all_some (o ∷ os))
value_cons make None vs os h = refl
value_cons make (Some v) vs os h = ap (option_map (λ ys. make v ∷ ys)) h ∙ mapped_cons make v (all_some os)

values_there : {A : Type 0} (b : Base) (see : Term → Option A) (make : A → Content) (t : ℕ → Term) (ids : List ℕ) → IsSeen b see make → all_there (map (symbol_value t) (map (plain_symbol b) ids)) ≡ option_map (map make) (all_some (map (λ id. see (t id)) ids))
values_there b see make t [] e = refl
values_there b see make t (id ∷ ids) e =
    ap (λ o. all_there (o ∷ map (symbol_value t) (map (plain_symbol b) ids))) (e (t id))
    ∙ value_cons make (see (t id)) (map (symbol_value t) (map (plain_symbol b) ids)) (map (λ id. see (t id)) ids) (values_there b see make t ids e)

line_elements : {A : Type 0} (b : Base) (see : Term → Option A) (make : A → Content) (t : ℕ → Term) (x : Range) (d : ℕ) (ids : List ℕ) → IsSeen b see make → array_by make x (only_if (is_true (t d)) (all_some (map (λ id. see (t id)) ids))) ≡ option_map (λ xs. values.array (x ∷ []) (contents xs)) (elements_value t d (map (plain_symbol b) ids))
line_elements {A} b see make t x d ids e = by (is_true (t d)) (all_some (map (λ id. see (t id)) ids)) (all_there (map (symbol_value t) (map (plain_symbol b) ids))) (values_there b see make t ids e)
  where
    by : (g : Bool) (o : Option (List A)) (p : Option (List Content)) → p ≡ option_map (map make) o → array_by make x (only_if g o) ≡ option_map (λ xs. values.array (x ∷ []) (contents xs)) (option_and_then (λ xs. if g then Some xs else None) p)
    by true None p h = ap (λ p. option_map (λ xs. values.array (x ∷ []) (contents xs)) (option_and_then (λ xs. Some xs) p)) (sym h)
    by true (Some vs) p h = ap (λ p. option_map (λ xs. values.array (x ∷ []) (contents xs)) (option_and_then (λ xs. Some xs) p)) (sym h)
    by false None p h = ap (λ p. option_map (λ xs. values.array (x ∷ []) (contents xs)) (option_and_then (λ xs. if false then Some xs else None) p)) (sym h)
    by false (Some vs) p h = ap (λ p. option_map (λ xs. values.array (x ∷ []) (contents xs)) (option_and_then (λ xs. if false then Some xs else None) p)) (sym h)

-- a line of a base's elements is an array of them
pub line_value_is : {A : Type 0} (b : Base) (see : Term → Option A) (make : A → Content) (s : Run) (k : ℕ) (l : Line) (first last : ℤ) (a : Numbers) (r : Reading) → IsSeen b see make → slice_get s.lines k ≡ Some l → a.first ≡ first → a.last ≡ last → a.defined ≡ l.defined → map (plain_symbol b) a.items.items ≡ l.items.items → Reads r s → array_by make (a.first, a.last) (elements_in see r a) ≡ option_map (λ xs. values.array ((first, last) ∷ []) (contents xs)) (r.line k)
line_value_is b see make s k l first last a r seen e p q d i h =
    ap (λ n. array_by make (n, a.last) (elements_in see r a)) p
    ∙ ap (λ n. array_by make (first, n) (elements_in see r a)) q
    ∙ line_elements b see make r.term (first, last) a.defined a.items.items seen
    ∙ ap (λ n. option_map (λ xs. values.array ((first, last) ∷ []) (contents xs)) (elements_value r.term n (map (plain_symbol b) a.items.items))) d
    ∙ ap (λ ss. option_map (λ xs. values.array ((first, last) ∷ []) (contents xs)) (elements_value r.term l.defined ss)) i
    ∙ ap (option_map (λ xs. values.array ((first, last) ∷ []) (contents xs))) (sym (h.lines k l e))

-- ---- where the line is defined, its elements are there

some_mapped : {A : Type 0} (v : A) (q : Option (List A)) → IsSome q → IsSome (option_map (λ vs. v ∷ vs) q)
some_mapped v None h = absurd (cc)
some_mapped v (Some vs) h = refl

there_cons : {A : Type 0} (make : A → Content) (o : Option A) (os : List (Option A)) → IsSome (option_map make o) → IsSome (all_some os) → IsSome (all_some (o ∷ os))
there_cons make None os h k = absurd (cc)
there_cons make (Some v) os h k = some_mapped v (all_some os) k

items_there : {A : Type 0} (b : Base) (see : Term → Option A) (make : A → Content) (t : ℕ → Term) (ids : List ℕ) → IsSeen b see make → AreItems t (map (plain_symbol b) ids) → IsSome (all_some (map (λ id. see (t id)) ids))
items_there b see make t [] e h = refl
items_there b see make t (id ∷ ids) e h = there_cons make (see (t id)) (map (λ id. see (t id)) ids) (subst (λ (o : Option Content). IsSome o) (e (t id)) h.0.value) (items_there b see make t ids e h.1)

pub line_is_there : {A : Type 0} (b : Base) (see : Term → Option A) (make : A → Content) (s : Run) (k : ℕ) (l : Line) (a : Numbers) → IsSeen b see make → slice_get s.lines k ≡ Some l → a.defined ≡ l.defined → map (plain_symbol b) a.items.items ≡ l.items.items → IsRun s → AreThere see s a
line_is_there b see make s k l a seen e d i w r h q =
    items_there b see make r.term a.items.items seen (subst (AreItems r.term) (sym i) ((w.lines r.term h.nodes k l e).whole (ap (λ n. is_true (r.term n)) (sym d) ∙ q)))

-- ---- what is found of elements that are there

more_are : {A : Type 0} (v : A) (os : List (Option A)) (vs : List A) (q : Option (List A)) → ((ws : List A) → q ≡ Some ws → os ≡ map (λ n. Some n) ws) → option_map (λ ws. v ∷ ws) q ≡ Some vs → (Some v ∷ os) ≡ map (λ n. Some n) vs
more_are v os vs None go k = absurd (cc)
more_are v os vs (Some ws) go k =
    let same : (v ∷ ws) ≡ vs = cc in
    ap (λ xs. Some v ∷ xs) (go ws refl) ∙ ap (map (λ n. Some n)) same

all_are : {A : Type 0} (os : List (Option A)) (vs : List A) → all_some os ≡ Some vs → os ≡ map (λ n. Some n) vs
all_are [] [] h = refl
all_are [] (v ∷ vs) h = absurd (cc)
all_are (None ∷ os) vs h = absurd (cc)
all_are (Some v ∷ os) vs h = more_are v os vs (all_some os) (λ ws e. all_are os ws e) h

-- an array's definedness and what is told of its elements
pub items_found : {A : Type 0} (d : Bool) (os : List (Option A)) (b : Bool) (f : List A → Bool) → (d ≡ true → IsSome (all_some os)) → ((vs : List A) → os ≡ map (λ n. Some n) vs → b ≡ f vs) → (d && b) ≡ found f (only_if d (all_some os))
items_found false os b f h e = refl
items_found {A} true os b f h e = by (all_some os) refl (h refl)
  where
    by : (q : Option (List A)) → all_some os ≡ q → IsSome q → b ≡ found f q
    by None k j = absurd (cc)
    by (Some vs) k j = e vs (all_are os vs k)
