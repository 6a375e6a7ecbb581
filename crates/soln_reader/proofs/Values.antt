-- The values that are read are of their shapes' forms and in their domains.
use Rattle.std.proofs.Common.{◌≡◌, ℕ, zero, suc, ◌+◌, List, [], ◌∷◌, ◌++◌, length, Bool, true, false, cond, refl, sym, ap, ◌∙◌, subst, arith, Option, Some, None, codes, append_assoc, inl, inr}
use Rattle.std.proofs.lemmas.List.{append-nil}
use Rattle.std.specs.Prelude.{slice_get, slice_set, nat_le, ◌&&◌}
use Rattle.mz_value.specs.Ranges.{Range}
use Rattle.mz_value.specs.Contents.{Content, bool, int, case, set, absent}
use Rattle.mz_value.specs.declared.value.ShapeBase.{ShapeBase}
use Rattle.mz_value.specs.declared.value.ShapeBase.TheVariants as base
use Rattle.fz_items.specs.declared.outputs.Part.{Part}
use Rattle.fz_items.specs.declared.outputs.Part.TheVariants.{Occurs, Value}
use Rattle.fz_items.specs.declared.outputs.Slot.{Slot}
use Rattle.fz_items.specs.Forms.{Form, slot_of}
use Rattle.fz_items.specs.Items.{◌>>=◌, Read, Elements, has, truth_number, is_within, first_domain, truth_at, int_at, set_at, truth_in, int_in, set_in, valued, based_at, element_at, next_at, more_at, elements_at, array_at, index_at, filled_array_at, scalar_at, value_of, value_at, ended, given_at, Item, item_at, item_of, name_at, after}
use Rattle.soln_reader.specs.Blocks.{Given, Block, nothing_for, given_in, unless, put_in, put, is_false, is_least, optional, optional_all, only, whole, elements_of, solved, solution}
use Rattle.soln_reader.specs.Stream.{Place, next_place, Event, block, mark, Outcome, leaves, gives, is_bad, at_block_end, at_mark, at_put, at_item, at_other, mark_of, is_skipped, ends_block, outcome, is_too_long, first_line, line_outcome, Passes, no_line, a_line}
use Rattle.soln_reader.specs.Reader.{State, place}
use Rattle.soln_reader.specs.Values.{IsBased, IsElement, OneEach, none_each, one_each, domains_by, domains_of, IsValue, AreValues, no_values, values, HasValues, ValueFits, OccurrenceFits, GivenFits, AllFit, none_fit, all_fit, BlockFits, StateFits, BeginsFit, StaysFitAsFed, GivesValues, StaysFitAsNeeded}

-- what gave a result

some_is : {A : Type 0} (x y : A) → Some x ≡ Some y → x ≡ y
some_is x y e = cc

none_is : {A B : Type 0} (y : A) → None ≡ Some y → B
none_is y e = absurd (cc)

from_bind : {A B : Type 0} (o : Option A) (f : A → Option B) (y : B) → (o >>= f) ≡ Some y → (x : A) × (o ≡ Some x) × (f x ≡ Some y)
from_bind None f y e = none_is y e
from_bind (Some x) f y e = (x, refl, e)

from_test : {A : Type 0} (t : Bool) (x : A) (y : A) → cond t (Some x) None ≡ Some y → (t ≡ true) × (x ≡ y)
from_test true x y e = (refl, some_is x y e)
from_test false x y e = none_is y e

-- elements

truth_fits : (d : List Range) (bs : List ℕ) (r : Bool × List ℕ) → truth_in d bs ≡ Some r → has d (truth_number r.0) ≡ true
unfolding truth_in
truth_fits d bs r e =
    let b = from_bind (truth_at bs) _ r e in
    let t = from_test (has d (truth_number (b.0).0)) b.0 r b.2 in
    subst (λ x. has d (truth_number x.0) ≡ true) t.1 t.0

int_fits : (d : List Range) (bs : List ℕ) (r : _ × List ℕ) → int_in d bs ≡ Some r → has d r.0 ≡ true
unfolding int_in
int_fits d bs r e =
    let b = from_bind (int_at bs) _ r e in
    let t = from_test (has d (b.0).0) b.0 r b.2 in
    subst (λ x. has d x.0 ≡ true) t.1 t.0

set_fits : (d : List Range) (bs : List ℕ) (r : List Range × List ℕ) → set_in d bs ≡ Some r → is_within r.0 d ≡ true
unfolding set_in
set_fits d bs r e =
    let b = from_bind (set_at bs) _ r e in
    let t = from_test (is_within (b.0).0 d) b.0 r b.2 in
    subst (λ x. is_within x.0 d ≡ true) t.1 t.0

from_valued : {A : Type 0} (make : A → Content) (P : A → Type 0) (o : Read A) (r : Content × List ℕ) → ((x : A × List ℕ) → o ≡ Some x → P x.0) → valued make o ≡ Some r → (x : A) × (r.0 ≡ make x) × P x
from_valued make P o r known e =
    let b = from_bind o _ r e in
    ((b.0).0, sym (ap (λ p. p.0) (some_is _ r b.2)), known b.0 b.1)

based_fits : (k : ShapeBase) (d : List Range) (bs : List ℕ) (r : Content × List ℕ) → based_at k d bs ≡ Some r → IsBased k d r.0
unfolding based_at
based_fits base.Bool d bs r e = let v = from_valued bool (λ b. has d (truth_number b) ≡ true) (truth_in d bs) r (truth_fits d bs) e in subst (λ x. IsBased base.Bool d x) (sym v.1) v.2
based_fits base.Int d bs r e = let v = from_valued int (λ x. has d x ≡ true) (int_in d bs) r (int_fits d bs) e in subst (λ x. IsBased base.Int d x) (sym v.1) v.2
based_fits (base.Enum n) d bs r e = let v = from_valued (case n) (λ x. has d x ≡ true) (int_in d bs) r (int_fits d bs) e in subst (λ x. IsBased (base.Enum n) d x) (sym v.1) (refl, v.2)
based_fits base.SetInt d bs r e = let v = from_valued (set None) (λ s. is_within s d ≡ true) (set_in d bs) r (set_fits d bs) e in subst (λ x. IsBased base.SetInt d x) (sym v.1) (refl, v.2)
based_fits (base.SetEnum n) d bs r e = let v = from_valued (set (Some n)) (λ s. is_within s d ≡ true) (set_in d bs) r (set_fits d bs) e in subst (λ x. IsBased (base.SetEnum n) d x) (sym v.1) (refl, v.2)

-- what is known of an element that is written for a part of a shape
Known : Part → ShapeBase → List Range → Content → Type 0
Known Occurs k d x = Unit {0}
Known Value k d x = IsBased k d x

element_fits : (part : Part) (k : ShapeBase) (d : List Range) (bs : List ℕ) (r : Content × List ℕ) → element_at part k d bs ≡ Some r → Known part k d r.0
unfolding element_at Known
element_fits Occurs k d bs r e = tt
element_fits Value k d bs r e = based_fits k d bs r e

-- elements after elements: those after are one for each domain
record More (part : Part) (k : ShapeBase) (xs : List Content) (ds : List (List Range)) (ys : List Content) : Type 0 where
  later : List Content
  is : ys ≡ xs ++ later
  fit : OneEach (Known part k) ds later

more_fits : (part : Part) (k : ShapeBase) (xs : List Content) (ds : List (List Range)) (bs : List ℕ) (r : List Content × List ℕ) → more_at part k xs ds bs ≡ Some r → More part k xs ds r.0
unfolding more_at next_at
more_fits part k xs [] bs r e = record { later = []; is = sym (ap (λ p. p.0) (some_is _ r e)) ∙ sym (append-nil xs); fit = none_each }
more_fits part k xs (d ∷ ds) bs r e =
    let n = from_bind (next_at part k d bs) _ r e in
    let c = from_bind (after (codes ",") bs) _ n.0 n.1 in
    let m = more_fits part k (xs ++ (n.0).0 ∷ []) ds (n.0).1 r n.2 in
    record {
      later = (n.0).0 ∷ m.later;
      is = m.is ∙ append_assoc xs ((n.0).0 ∷ []) m.later;
      fit = one_each (element_fits part k d c.0 n.0 c.2) m.fit;
    }

elements_fit : (part : Part) (k : ShapeBase) (ds : List (List Range)) (bs : List ℕ) (r : List Content × List ℕ) → elements_at part k ds bs ≡ Some r → OneEach (Known part k) ds r.0
unfolding elements_at
elements_fit part k [] bs r e = subst (λ xs. OneEach (Known part k) [] xs) (ap (λ p. p.0) (some_is ([], bs) r e)) none_each
elements_fit part k (d ∷ ds) bs r e =
    let x = from_bind (element_at part k d bs) _ r e in
    let m = more_fits part k ((x.0).0 ∷ []) ds (x.0).1 r x.2 in
    subst (λ xs. OneEach (Known part k) (d ∷ ds) xs) (sym m.is) (one_each (element_fits part k d bs x.0 x.1) m.fit)

-- a value that is written for a part
record Written (part : Part) (f : Form) (v : Elements) : Type 0 where
  index : v.index ≡ f.index
  fit : OneEach (Known part f.base) (domains_of f) v.items

array_fits : (part : Part) (k : ShapeBase) (index : List Range) (ds : List (List Range)) (bs : List ℕ) (r : Elements × List ℕ) → filled_array_at part k index ds bs ≡ Some r → ((r.0).index ≡ Some index) × OneEach (Known part k) ds (r.0).items
unfolding filled_array_at
array_fits part k index ds bs r e =
    let a = from_bind (array_at (length index) bs) _ r e in
    let b = from_bind (index_at index a.0) _ r a.2 in
    let c = from_bind (after (codes "[") b.0) _ r b.2 in
    let xs = from_bind (elements_at part k ds c.0) _ r c.2 in
    let d = from_bind (after (codes "]") (xs.0).1) _ r xs.2 in
    let g = from_bind (after (codes ")") d.0) _ r d.2 in
    let is : record { index = Some index; items = (xs.0).0 } ≡ r.0 = ap (λ p. p.0) (some_is _ r g.2) in
    (sym (ap (λ (v : Elements). v.index) is), subst (λ (v : Elements). OneEach (Known part k) ds v.items) is (elements_fit part k ds c.0 xs.0 xs.1))

scalar_fits : (part : Part) (k : ShapeBase) (ds : List (List Range)) (bs : List ℕ) (r : Elements × List ℕ) → scalar_at part k ds bs ≡ Some r → ((r.0).index ≡ None) × OneEach (Known part k) (first_domain ds ∷ []) (r.0).items
unfolding scalar_at
scalar_fits part k ds bs r e =
    let x = from_bind (element_at part k (first_domain ds) bs) _ r e in
    let is : record { index = None; items = (x.0).0 ∷ [] } ≡ r.0 = ap (λ p. p.0) (some_is _ r x.2) in
    (sym (ap (λ (v : Elements). v.index) is), subst (λ (v : Elements). OneEach (Known part k) (first_domain ds ∷ []) v.items) is (one_each (element_fits part k (first_domain ds) bs x.0 x.1) none_each))

by_index : (part : Part) (k : ShapeBase) (index : Option (List Range)) (ds : List (List Range)) (bs : List ℕ) (r : Elements × List ℕ) → value_of part k index ds bs ≡ Some r → ((r.0).index ≡ index) × OneEach (Known part k) (domains_by index ds) (r.0).items
by_index part k None ds bs r e = scalar_fits part k ds bs r e
by_index part k (Some index) ds bs r e = array_fits part k index ds bs r e

value_fits : (part : Part) (f : Form) (bs : List ℕ) (v : Elements) → given_at part f bs ≡ Some v → Written part f v
unfolding given_at value_at
value_fits part f bs v e =
    let a = from_bind (value_at part f bs) _ v e in
    let b = from_bind (after (codes ";") (a.0).1) _ v a.2 in
    let is = from_test _ (a.0).0 v b.2 in
    let w = by_index part f.base f.index f.domains bs a.0 a.1 in
    subst (λ u. Written part f u) is.1 (record { index = w.0; fit = w.1 })

-- an item

record Fitting (fs : List Form) (i : Item) : Type 0 where
  form : Form
  found : slice_get fs (i.0).shape ≡ Some form
  fit : Written (i.0).part form i.1

item_fits : (fs : List Form) (line : List ℕ) (i : Item) → item_of fs line ≡ Some i → Fitting fs i
unfolding item_of item_at
item_fits fs line i e =
    let a = from_bind (name_at line) _ i e in
    let b = from_bind (after (codes "=") (a.0).1) _ i a.2 in
    let c = from_bind (slot_of fs (a.0).0) _ i b.2 in
    let f = from_bind (slice_get fs (c.0).shape) _ i c.2 in
    let v = from_bind (given_at (c.0).part f.0 b.0) _ i f.2 in
    subst (λ j. Fitting fs j) (some_is (c.0, v.0) i v.2) (record { form = f.0; found = f.1; fit = value_fits (c.0).part f.0 b.0 v.0 v.1 })

-- a block

counts_each : {P : List Range → Content → Type 0} (ds : List (List Range)) (xs : List Content) → OneEach P ds xs → length xs ≡ length ds
counts_each ds xs none_each = refl
counts_each ds xs (one_each {ds = es} {xs = ys} p ps) = ap suc (counts_each es ys ps)

put_in_fits : (part : Part) (f : Form) (v : Elements) (g h : Given) → put_in part v g ≡ Some h → GivenFits f g → Written part f v → GivenFits f h
unfolding put_in Known
put_in_fits Occurs f v g h e fits w = go g.occurs e
  where
    go : (o : Option Elements) → unless o (record { occurs = Some v; value = g.value }) ≡ Some h → GivenFits f h
    go None is = subst (λ k. GivenFits f k) (some_is _ h is) (record { occurs = counts_each (domains_of f) v.items w.fit; value = fits.value })
    go (Some u) is = none_is h is
put_in_fits Value f v g h e fits w = go g.value e
  where
    go : (o : Option Elements) → unless o (record { occurs = g.occurs; value = Some v }) ≡ Some h → GivenFits f h
    go None is = subst (λ k. GivenFits f k) (some_is _ h is) (record { occurs = fits.occurs; value = (w.index, w.fit) })
    go (Some u) is = none_is h is

set_fits_in : (fs : List Form) (gs : List Given) (k : ℕ) (f : Form) (g h : Given) → AllFit fs gs → slice_get fs k ≡ Some f → slice_get gs k ≡ Some g → (GivenFits f g → GivenFits f h) → AllFit fs (slice_set gs k h)
set_fits_in fs gs k f g h none_fit here there on = none_is f here
set_fits_in fs gs zero f g h (all_fit {f = f'} {g = g'} p ps) here there on =
    let is = some_is f' f here in
    all_fit (subst (λ x. GivenFits x h) (sym is) (on (subst (λ x. GivenFits x g) is (subst (λ y. GivenFits f' y) (some_is g' g there) p)))) ps
set_fits_in fs gs (suc k) f g h (all_fit {fs = fs'} {gs = gs'} p ps) here there on = all_fit p (set_fits_in fs' gs' k f g h ps here there on)

put_fits : (fs : List Form) (i : Item) (gs hs : List Given) → Fitting fs i → AllFit fs gs → put i.0 i.1 gs ≡ Some hs → AllFit fs hs
unfolding put
put_fits fs i gs hs fit all e =
    let a = from_bind (slice_get gs (i.0).shape) _ hs e in
    let b = from_bind (put_in (i.0).part i.1 a.0) _ hs a.2 in
    subst (λ ks. AllFit fs ks) (some_is _ hs b.2)
    (set_fits_in fs gs (i.0).shape fit.form a.0 b.0 all fit.found a.1 (λ g. put_in_fits (i.0).part fit.form i.1 a.0 b.0 b.1 g fit.fit))

nothing_fits : (fs : List Form) → AllFit fs (nothing_for fs)
nothing_fits [] = none_fit
nothing_fits (f ∷ fs) = all_fit (record { occurs = tt; value = tt }) (nothing_fits fs)

given_fits : (fs : List Form) (b : Block) → BlockFits fs b → AllFit fs (given_in fs b)
given_fits fs None fit = nothing_fits fs
given_fits fs (Some gs) fit = fit

-- a solution

optional_fits : (f : Form) (d : List Range) (o x y : Content) → f.opt ≡ true → IsBased f.base d x → optional d o x ≡ Some y → IsElement f d y
optional_fits f d o x y opt fit e = go (is_false o) (is_least x d) e
  where
    go : (t u : Bool) → cond t (cond u (Some absent) None) (Some x) ≡ Some y → IsElement f d y
    go true true is = inr (opt, sym (some_is absent y is))
    go true false is = none_is y is
    go false u is = inl (subst (λ z. IsBased f.base d z) (some_is x y is) fit)

-- there are as many values and occurrences as domains
optionals_fit : (f : Form) (ds : List (List Range)) (os xs ys : List Content) → f.opt ≡ true → length os ≡ length ds → OneEach (IsBased f.base) ds xs → optional_all ds os xs ≡ Some ys → OneEach (IsElement f) ds ys
unfolding optional_all
optionals_fit f ds os xs ys opt n none_each e = subst (λ zs. OneEach (IsElement f) [] zs) (some_is [] ys e) none_each
optionals_fit f ds [] xs ys opt n (one_each p ps) e = absurd (omega (arith, n))
optionals_fit f ds (o ∷ os) xs ys opt n (one_each {d = d} {x = x} {ds = es} {xs = zs} p ps) e =
    let a = from_bind (optional d o x) _ ys e in
    let b = from_bind (optional_all es os zs) _ ys a.2 in
    subst (λ ws. OneEach (IsElement f) (d ∷ es) ws) (some_is (a.0 ∷ b.0) ys b.2)
    (one_each (optional_fits f d o x a.0 opt p a.1) (optionals_fit f es os zs b.0 opt (omega (arith, n)) ps b.1))

nothing_left : (ds : List (List Range)) → optional_all ds [] [] ≡ Some []
unfolding optional_all
nothing_left [] = refl
nothing_left (d ∷ ds) = refl

-- what is no array has one element
scalar_fit : (f : Form) (ds : List (List Range)) (os xs ys : List Content) (x : Content) → f.opt ≡ true → length os ≡ 1 → OneEach (IsBased f.base) (first_domain ds ∷ []) xs → optional_all ds os xs ≡ Some ys → only ys ≡ Some x → OneEach (IsElement f) (first_domain ds ∷ []) ys
unfolding optional_all
scalar_fit f [] os xs ys x opt n fit e is = none_is x (ap only (some_is [] ys e) ∙ is)
scalar_fit f (d ∷ ds) [] xs ys x opt n fit e is = absurd (omega (arith, n))
scalar_fit f (d ∷ ds) (o ∷ o' ∷ os) xs ys x opt n fit e is = absurd (omega (arith, n))
scalar_fit f (d ∷ ds) (o ∷ []) xs ys x opt n (one_each {x = z} p none_each) e is =
    let a = from_bind (optional d o z) _ ys e in
    let b = from_bind (optional_all ds [] []) _ ys a.2 in
    let rest : [] ≡ b.0 = some_is [] b.0 (sym (nothing_left ds) ∙ b.1) in
    subst (λ ws. OneEach (IsElement f) (d ∷ []) ws) (ap (λ ws. a.0 ∷ ws) rest ∙ some_is (a.0 ∷ b.0) ys b.2) (one_each (optional_fits f d o z a.0 opt p a.1) none_each)

options_fit : (f : Form) (index : Option (List Range)) (ds : List (List Range)) (os xs ys : List Content) (x : Content) → f.opt ≡ true → length os ≡ length (domains_by index ds) → OneEach (IsBased f.base) (domains_by index ds) xs → optional_all ds os xs ≡ Some ys → whole index ys ≡ Some x → OneEach (IsElement f) (domains_by index ds) ys
options_fit f None ds os xs ys x opt n fit e is = scalar_fit f ds os xs ys x opt n fit e is
options_fit f (Some index) ds os xs ys x opt n fit e is = optionals_fit f ds os xs ys opt n fit e

plain_fit : (f : Form) (ds : List (List Range)) (xs : List Content) → OneEach (IsBased f.base) ds xs → OneEach (IsElement f) ds xs
plain_fit f ds xs none_each = none_each
plain_fit f ds xs (one_each {ds = es} {xs = zs} p ps) = one_each (inl p) (plain_fit f es zs ps)

solved_fits : (f : Form) (g : Given) (x : Content) → GivenFits f g → solved f g ≡ Some x → IsValue f x
unfolding solved
solved_fits f g x fit e =
    let v = from_bind g.value _ x e in
    let xs = from_bind (elements_of f g v.0) _ x v.2 in
    let known : ((v.0).index ≡ f.index) × OneEach (IsBased f.base) (domains_of f) (v.0).items = subst (λ o. ValueFits f o) v.1 fit.value in
    let is : whole f.index xs.0 ≡ Some x = subst (λ index. whole index xs.0 ≡ Some x) known.0 xs.2 in
    record { elements = xs.0; fit = by_opt v.0 xs.0 f.opt refl known.1 xs.1 is; is = is }
  where
    by_opt : (v : Elements) (ys : List Content) (t : Bool) → f.opt ≡ t → OneEach (IsBased f.base) (domains_of f) v.items → cond t (g.occurs >>= λ o. optional_all f.domains o.items v.items) (Some v.items) ≡ Some ys → whole f.index ys ≡ Some x → OneEach (IsElement f) (domains_of f) ys
    by_opt v ys false opt known h is = subst (λ zs. OneEach (IsElement f) (domains_of f) zs) (some_is v.items ys h) (plain_fit f (domains_of f) v.items known)
    by_opt v ys true opt known h is =
        let o = from_bind g.occurs _ ys h in
        options_fit f f.index f.domains (o.0).items v.items ys x opt (subst (λ p. OccurrenceFits f p) o.1 fit.occurs) known o.2 is

solution_fits : (fs : List Form) (gs : List Given) (xs : List Content) → AllFit fs gs → solution fs gs ≡ Some xs → AreValues fs xs
unfolding solution
solution_fits fs gs xs none_fit e = subst (λ ys. AreValues [] ys) (some_is [] xs e) no_values
solution_fits fs gs xs (all_fit {f = f} {g = g} {fs = fs'} {gs = gs'} p ps) e =
    let a = from_bind (solved f g) _ xs e in
    let b = from_bind (solution fs' gs') _ xs a.2 in
    subst (λ ys. AreValues (f ∷ fs') ys) (some_is (a.0 ∷ b.0) xs b.2) (values (solved_fits f g a.0 p a.1) (solution_fits fs' gs' b.0 ps b.1))

-- a line

OutcomeFits : List Form → Outcome → Type 0
OutcomeFits fs (leaves b) = BlockFits fs b
OutcomeFits fs (gives e) = HasValues fs e
OutcomeFits fs is_bad = Unit {0}

line_fits : (fs : List Form) (b : Block) (line : List ℕ) → BlockFits fs b → OutcomeFits fs (outcome fs b line)
unfolding outcome OutcomeFits
line_fits fs b line fit = by_test (is_skipped line) (ends_block line)
  where
    at_end : (o : Option (List Content)) → solution fs (given_in fs b) ≡ o → OutcomeFits fs (at_block_end o)
    at_end None is = tt
    at_end (Some xs) is = solution_fits fs (given_in fs b) xs (given_fits fs b fit) is

    at_a_mark : (c : Block) (m : _) → OutcomeFits fs (at_mark c m)
    at_a_mark None m = tt
    at_a_mark (Some gs) m = tt

    after_put : (i : Item) → Fitting fs i → (o : Option (List Given)) → put i.0 i.1 (given_in fs b) ≡ o → OutcomeFits fs (at_put o)
    after_put i found None is = tt
    after_put i found (Some hs) is = put_fits fs i (given_in fs b) hs found (given_fits fs b fit) is

    at_an_item : (o : Option Item) → item_of fs line ≡ o → OutcomeFits fs (at_item (given_in fs b) o)
    at_an_item None is = tt
    at_an_item (Some i) is = after_put i (item_fits fs line i is) (put i.0 i.1 (given_in fs b)) refl

    at_rest : (m : Option _) → OutcomeFits fs (at_other fs b line m)
    at_rest None = at_an_item (item_of fs line) refl
    at_rest (Some m) = at_a_mark b m

    by_test : (t u : Bool) → OutcomeFits fs (cond t (leaves b) (cond u (at_block_end (solution fs (given_in fs b))) (at_other fs b line (mark_of line))))
    by_test true u = fit
    by_test false true = at_end (solution fs (given_in fs b)) refl
    by_test false false = at_rest (mark_of line)

bytes_fit : (fs : List Form) (b : Block) (bs : List ℕ) → BlockFits fs b → OutcomeFits fs (line_outcome fs b bs)
unfolding line_outcome OutcomeFits
bytes_fit fs b bs fit = go (is_too_long bs)
  where
    go : (t : Bool) → OutcomeFits fs (cond t is_bad (outcome fs b (first_line bs)))
    go true = tt
    go false = line_fits fs b (first_line bs) fit

passes_fit : (fs : List Form) (ended : Bool) (p : Place) (bs : List ℕ) (q : Place) (rest : List ℕ) → BlockFits fs p.block → Passes fs ended p bs q rest → BlockFits fs q.block
unfolding OutcomeFits
passes_fit fs ended p bs q rest fit no_line = fit
passes_fit fs ended p bs q rest fit (a_line {b = b} line out then) = passes_fit fs ended (next_place p b) _ q rest (subst (λ o. OutcomeFits fs o) out (bytes_fit fs p.block bs fit)) then

-- the reader

pub begins_fit : BeginsFit
begins_fit fs = tt

pub fed_fits : StaysFitAsFed
fed_fits s piece fit = fit

pub gives_values : GivesValues
unfolding OutcomeFits
gives_values ended s u e fit g =
    let before = passes_fit s.forms ended (place s) s.bytes g.before g.from fit g.passed in
    (subst (λ o. OutcomeFits s.forms o) g.outcome (bytes_fit s.forms (g.before).block g.from before), subst (λ v. StateFits v) (sym g.after) tt)

pub needed_fits : StaysFitAsNeeded
needed_fits ended s u fit n =
    subst (λ fs. BlockFits fs u.block) (sym (ap (λ v. v.forms) n.after)) (passes_fit s.forms false (place s) s.bytes (place u) u.bytes fit n.passed)
