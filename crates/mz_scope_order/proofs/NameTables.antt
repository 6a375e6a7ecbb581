-- The first place of a name in a list, and what stands there.
use Rattle.std.proofs.lemmas.List.{drop_all}
use Rattle.std.proofs.Common.{◌≡◌, ℕ, zero, suc, ◌+◌, ◌<◌, ◌≤◌, Bool, true, false, List, [], ◌∷◌, ◌++◌, Option, Some, None, cond, is_some, refl, sym, ap, ◌∙◌, ⊎_elim, map, length, drop, get_or, append_assoc, append-nil, arith}
use Rattle.std.specs.Prelude.{nat_eq}
use Rattle.std.specs.Option.{option_map}
use Rattle.std.specs.List.{flat_map}
use Rattle.std.specs.Map.{lookup}
use Rattle.std.proofs.lemmas.Bool.{eqb-true, eq-eqb, ne_eqb}
use Rattle.std.proofs.lemmas.Bool.Decides.{eqb_tells}
use Rattle.mz_tree.specs.declared.data.DataItem.{DataItem}
use Rattle.mz_tree.specs.declared.item.Item.{Item}
use Rattle.mz_tree.specs.declared.source.SourceFile.{SourceFile}
use Rattle.mz_tree.specs.Tree as pure
use Rattle.mz_tree.specs.Tree.{Name, Tree, maybe}
use Rattle.mz_tree.specs.Items.{ItemTree, item, include, declare, assign, constraint, solve, output, function, enum, annotation}
use Rattle.mz_tree.specs.Data.{given}
use Rattle.mz_scope_names.specs.StepsWalk.{items_of}
use Rattle.mz_scope_names.proofs.Gathered.{files_flat}
use Rattle.mz_scope_order.specs.Parts.{assigned}
use Rattle.mz_scope_order.specs.StepsTables.{or_next, at, place_from, name_assigned, value_assigned, first_given}

same_both : (a b : ℕ) → nat_eq a b ≡ nat_eq b a
same_both a b = ⊎_elim (λ t. t.0 ∙ sym (eq-eqb b a (sym t.1))) (λ t. t.0 ∙ sym (ne_eqb b a (λ e. t.1 (sym e)))) (eqb_tells a b)

stays : {T : Type 0} (b : Bool) (o : Option T) (x : T) → (b ≡ true → is_some o ≡ true) → o ≡ or_next o (cond b (Some x) None)
stays b (Some y) x h = refl
stays true None x h = absurd (cc (h refl))
stays false None x h = refl

goes : {T : Type 0} (b c : Bool) (o : Option T) (x : T) → (b ≡ true → is_some o ≡ false) → b ≡ c → cond b (Some x) o ≡ or_next o (cond c (Some x) None)
goes true true None x a e = refl
goes true true (Some y) x a e = absurd (cc (a refl))
goes false false None x a e = refl
goes false false (Some y) x a e = refl
goes true false o x a e = absurd (cc e)
goes false true o x a e = absurd (cc e)

-- a name that is there keeps its place
pub kept : (es : List (ℕ × ℕ)) (name n place : ℕ) → is_some (lookup (nat_eq name) es) ≡ true → lookup (nat_eq n) es ≡ or_next (lookup (nat_eq n) es) (cond (nat_eq n name) (Some place) None)
kept es name n place h =
    stays (nat_eq n name) (lookup (nat_eq n) es) place (λ e. ap (λ (k : ℕ). is_some (lookup (nat_eq k) es)) (eqb-true n name e) ∙ h)

-- a new name has the place that is added
pub added : (es : List (ℕ × ℕ)) (name n place : ℕ) (new : Option ℕ) → is_some (lookup (nat_eq name) es) ≡ false → new ≡ cond (nat_eq name n) (Some place) (lookup (nat_eq n) es) → new ≡ or_next (lookup (nat_eq n) es) (cond (nat_eq n name) (Some place) None)
added es name n place new h is =
    is ∙ goes (nat_eq name n) (nat_eq n name) (lookup (nat_eq n) es) place (λ e. ap (λ (k : ℕ). is_some (lookup (nat_eq k) es)) (sym (eqb-true name n e)) ∙ h) (same_both name n)

more : (a : Option ℕ) (b : Bool) (k : ℕ) (rest : Option ℕ) → or_next (or_next a (cond b (Some k) None)) rest ≡ or_next a (cond b (Some k) rest)
more (Some x) b k rest = refl
more None true k rest = refl
more None false k rest = refl

or_none : {T : Type 0} (a : Option T) → or_next a None ≡ a
or_none (Some x) = refl
or_none None = refl

drop_next : {X : Type 0} (xs : List X) (i : ℕ) (x d : X) → i < length xs → x ≡ get_or xs i d → drop i xs ≡ x ∷ drop (suc i) xs
drop_next [] i x d h e = absurd (omega (arith, h))
drop_next (y ∷ xs) zero x d h e = ap (λ z. z ∷ xs) (sym e)
drop_next (y ∷ xs) (suc i) x d h e = drop_next xs i x d (omega (arith, h)) e

pub dropped : {X : Type 0} (xs : List X) (i : ℕ) (x d : X) → i < length xs → x ≡ get_or xs i d → drop i xs ≡ x ∷ drop (i + 1) xs
dropped xs i x d h e =
    let one : suc i ≡ i + 1 = omega arith in
    drop_next xs i x d h e ∙ ap (λ k. x ∷ drop k xs) one

-- one more name of a list is in the table
pub one_placed : (n : Name) (ms : List Name) (k : ℕ) (m d : Name) (old now whole : Option ℕ) → k < length ms → m ≡ get_or ms k d
    → or_next old (place_from k n (drop k ms)) ≡ whole → now ≡ or_next old (cond (nat_eq n m) (Some k) None) → or_next now (place_from (k + 1) n (drop (k + 1) ms)) ≡ whole
unfolding place_from
one_placed n ms k m d old now whole h e so_far grown =
    ap (λ z. or_next z (place_from (k + 1) n (drop (k + 1) ms))) grown
    ∙ more old (nat_eq n m) k (place_from (k + 1) n (drop (k + 1) ms))
    ∙ sym (ap (λ z. or_next old (place_from k n z)) (dropped ms k m d h e))
    ∙ so_far

pub all_placed : (n : Name) (ms : List Name) (k : ℕ) (old whole : Option ℕ) → length ms ≤ k → or_next old (place_from k n (drop k ms)) ≡ whole → old ≡ whole
unfolding place_from
all_placed n ms k old whole h so_far =
    sym (or_none old) ∙ sym (ap (λ z. or_next old (place_from k n z)) (drop_all k ms h)) ∙ so_far

later_if : (b : Bool) (j : ℕ) (o p : Option ℕ) → p ≡ option_map suc o → cond b (Some (suc j)) p ≡ option_map suc (cond b (Some j) o)
later_if true j o p h = refl
later_if false j o p h = h

later : (j : ℕ) (n : Name) (ms : List Name) → place_from (suc j) n ms ≡ option_map suc (place_from j n ms)
unfolding place_from
later j n [] = refl
later j n (m ∷ ms) =
    let one : suc j + 1 ≡ suc (j + 1) = omega arith in
    later_if (nat_eq n m) j (place_from (j + 1) n ms) (place_from (suc j + 1) n ms) (ap (λ k. place_from k n ms) one ∙ later (j + 1) n ms)

at_later : {X : Type 0} (o : Option ℕ) (x : X) (xs : List X) → at (option_map suc o) (x ∷ xs) ≡ at o xs
at_later None x xs = refl
at_later (Some k) x xs = refl

first_or : {X : Type 0} (b : Bool) (o : Option ℕ) (x : X) (xs : List X) → at (cond b (Some 0) (option_map suc o)) (x ∷ xs) ≡ cond b (Some x) (at o xs)
first_or true o x xs = refl
first_or false o x xs = at_later o x xs

-- what stands at the first place of a name, where the list has one more before it
one_more : {X : Type 0} (n m : Name) (ms : List Name) (x : X) (xs : List X) → at (place_from 0 n (m ∷ ms)) (x ∷ xs) ≡ cond (nat_eq n m) (Some x) (at (place_from 0 n ms) xs)
unfolding place_from
one_more n m ms x xs =
    let one : 0 + 1 ≡ suc 0 = omega arith in
    ap (λ z. at (cond (nat_eq n m) (Some 0) z) (x ∷ xs)) (ap (λ k. place_from k n ms) one ∙ later 0 n ms)
    ∙ first_or (nat_eq n m) (place_from 0 n ms) x xs

maybe_if : (b : Bool) (x : Tree) (o : Option Tree) → maybe (cond b (Some x) o) ≡ cond b (pure.just x) (maybe o)
maybe_if true x o = refl
maybe_if false x o = refl

pub value_there : (n : Name) (is : List ItemTree) → maybe (at (place_from 0 n (flat_map name_assigned is)) (flat_map value_assigned is)) ≡ assigned n is
unfolding assigned place_from
value_there n [] = refl
value_there n (assign m s x ∷ is) =
    ap maybe (one_more n m (flat_map name_assigned is) x (flat_map value_assigned is))
    ∙ maybe_if (nat_eq n m) x (at (place_from 0 n (flat_map name_assigned is)) (flat_map value_assigned is))
    ∙ ap (λ z. cond (nat_eq n m) (pure.just x) z) (value_there n is)
value_there n (declare d ∷ is) = value_there n is
value_there n (include m s ∷ is) = value_there n is
value_there n (constraint x ∷ is) = value_there n is
value_there n (solve s g ∷ is) = value_there n is
value_there n (output x ∷ is) = value_there n is
value_there n (function h ∷ is) = value_there n is
value_there n (enum m s cs ∷ is) = value_there n is
value_there n (annotation m ∷ is) = value_there n is

pub item_there : (n : Name) (ds : List DataItem) → at (place_from 0 n (map (λ d. d.name) ds)) (map given ds) ≡ first_given n (map given ds)
unfolding first_given place_from
item_there n [] = refl
item_there n (d ∷ ds) =
    one_more n d.name (map (λ (x : DataItem). x.name) ds) (given d) (map given ds)
    ∙ ap (λ z. cond (nat_eq n d.name) (Some (given d)) z) (item_there n ds)

-- the same, of what the code has in hand
pub assigned_is : (n : Name) (fs : List SourceFile) (found : Option ℕ) (read names : List Name) (values : List Tree) → found ≡ place_from 0 n read → read ≡ names
    → names ≡ flat_map (λ f. flat_map (λ i. name_assigned (item i)) f.items.items) fs → values ≡ flat_map (λ f. flat_map (λ i. value_assigned (item i)) f.items.items) fs
    → maybe (at found values) ≡ assigned n (items_of fs)
assigned_is n fs found read names values p q r s =
    let ns : read ≡ flat_map name_assigned (items_of fs) = q ∙ r ∙ sym (files_flat name_assigned fs) in
    let vs : values ≡ flat_map value_assigned (items_of fs) = s ∙ sym (files_flat value_assigned fs) in
    ap (λ z. maybe (at z values)) (p ∙ ap (λ z. place_from 0 n z) ns)
    ∙ ap (λ z. maybe (at (place_from 0 n (flat_map name_assigned (items_of fs))) z)) vs
    ∙ value_there n (items_of fs)

pub listed_is : (n : Name) (ds : List DataItem) (found : Option ℕ) (read names : List Name) → found ≡ place_from 0 n read → read ≡ names → names ≡ map (λ d. d.name) ds
    → at found (map given ds) ≡ first_given n (map given ds)
listed_is n ds found read names p q r = ap (λ z. at z (map given ds)) (p ∙ ap (λ z. place_from 0 n z) (q ∙ r)) ∙ item_there n ds

-- a loop over a list ends
pub all_done : {X Y : Type 0} (f : X → List Y) (xs : List X) (i : ℕ) (done : List Y) → done ++ flat_map f (drop i xs) ≡ flat_map f xs → length xs ≤ i → done ≡ flat_map f xs
all_done f xs i done e h = sym (append-nil done) ∙ sym (ap (λ z. done ++ flat_map f z) (drop_all i xs h)) ∙ e

-- a loop over files takes one more
pub one_done : {Y : Type 0} (f : Item → List Y) (fs : List SourceFile) (i : ℕ) (file : SourceFile) (is : List Item) (done now whole : List Y) → i < length fs → file ≡ get_or fs i file → is ≡ file.items.items
    → now ≡ done ++ flat_map f is → done ++ flat_map (λ x. flat_map f x.items.items) (drop i fs) ≡ whole → now ++ flat_map (λ x. flat_map f x.items.items) (drop (i + 1) fs) ≡ whole
one_done {Y} f fs i file is done now whole h e same grown so_far =
    let g : SourceFile → List Y = λ x. flat_map f x.items.items in
    ap (λ z. z ++ flat_map g (drop (i + 1) fs)) (grown ∙ ap (λ z. done ++ flat_map f z) same)
    ∙ append_assoc done (flat_map f file.items.items) (flat_map g (drop (i + 1) fs))
    ∙ sym (ap (λ z. done ++ flat_map g z) (dropped fs i file file h e))
    ∙ so_far
