-- Roots of declared values and of constraints.
use Rattle.std.proofs.Common.{◌≡◌, ◌≢◌, ◌⊎◌, inl, inr, ◌∙◌, ℕ, Bool, true, false, ◌&&◌, List, [], ◌∷◌, ◌++◌, map, Option, Some, None, is_some, IsSome, refl, sym, ap, subst, if◌then◌else◌}
use Rattle.std.specs.Option.{option_map, option_and_then}
use Rattle.mz_value.specs.Ranges.{Range}
use Rattle.mz_value.specs.Contents.{Content, Contents, contents}
use Rattle.mz_value.specs.Contents as values
use Rattle.mz_core.specs.declared.types.Base.{Base}
use Rattle.mz_core.specs.declared.types.Base.TheVariants as base
use Rattle.mz_arena.specs.Values.{Term, is_true, and_term, or_term, not_term, iff_term}
use Rattle.mz_meaning.specs.Cells.{value_of}
use Rattle.mz_meaning.specs.Cells as cells
use Rattle.mz_meaning.specs.Solutions.{MatchesValue, IsValue}
use Rattle.mz_meaning.specs.Walk.{Assignment}
use Rattle.mz_instance.specs.Parts.{sort_of}
use Rattle.mz_symbol.specs.declared.types.Free.{Free}
use Rattle.mz_symbol.specs.declared.types.Line.{Line}
use Rattle.mz_symbol.specs.declared.types.Symbol.{Symbol}
use Rattle.mz_symbol.specs.Symbols.{value_by, value_at, symbol_value, all_there, elements_value, AreItems}
use Rattle.mz_symbol.specs.Runs.{Run, IsRun}
use Rattle.mz_symbol.specs.Readings.{Reading, IsGiven, Reads}
use Rattle.mz_model_state.specs.Hands.{View, NameKind, ParName, OnePlace, ManyPlaces, kind_domains, HeldName, HeldConstraint, cell_at, name_at, array_value, places_value, IsAssigned, AllAssigned, AllTrue, Iff, IsRootedName, IsRooted, AreRootedNames, AreRooted}
use Rattle.mz_model_state.specs.Loops.{ReadBack}
use Rattle.mz_model_state.specs.Roots.{TestsOne, option_value, equal_term, IsPlaceRoot, IsEqualRoot, IsTruthRoot, IsOptionTruthRoot, TestElements, AreArrayRoots, AreAlike, AreEqualTerms, AreLineRoots, IsFalseRoot, are_all_true}
use Rattle.mz_model_state.proofs.Names.{one_more_there}
use Rattle.mz_model_state.proofs.Tests.{symbols_tested, truths_tested, guarded_truths_tested, options_tested, occurring, truth_number}
use Rattle.mz_model_state.proofs.Variables.{if_defined}
use Rattle.mz_model_state.proofs.Walking.{first_assigned}

-- ---- what is asked of a name, by its kind and its value

last_assigned : (t : ℕ → Term) (a : Assignment) (ns : List HeldName) (n : HeldName) → AllAssigned t a (ns ++ n ∷ []) → IsAssigned t a n.slot n.kind
last_assigned t a [] n h = h.0
last_assigned t a (m ∷ ns) n h = last_assigned t a ns n h.1

abbrev NameMatches : Reading → Assignment → HeldName → NameKind → Option View → Type 0
NameMatches r a n k v = MatchesValue a (record { slot = n.slot; domains = kind_domains k; cell = n.cell r; value = cell_at r v })

-- a name of this kind and with this value matches where its slot has the value
matches : (r : Reading) (a : Assignment) (n : HeldName) (k : NameKind) (v : Option View) → n.kind ≡ k → n.value ≡ v → NameMatches r a n k v → MatchesValue a (name_at r n)
matches r a n k v kind value h = subst (λ (k : NameKind). NameMatches r a n k n.value) (sym kind) (subst (λ (v : Option View). NameMatches r a n k v) (sym value) h)

matched : (r : Reading) (a : Assignment) (n : HeldName) (k : NameKind) (v : Option View) → n.kind ≡ k → n.value ≡ v → MatchesValue a (name_at r n) → NameMatches r a n k v
matched r a n k v kind value h = subst (λ (v : Option View). NameMatches r a n k v) value (subst (λ (k : NameKind). NameMatches r a n k n.value) kind h)

-- ---- one place

pub place_roots : (s : Run) (ns : List HeldName) (n : HeldName) (f : Free) (v : View) (id : ℕ) → IsPlaceRoot s n f v id → IsRootedName s (ns ++ n ∷ []) n
place_roots s ns n f v id root = record {
  by = λ r a given reads assigned.
      let place : IsAssigned r.term a n.slot (OnePlace f) = subst (IsAssigned r.term a n.slot) root.kind (last_assigned r.term a ns n assigned) in
      let tests = root.tests r given reads (ap is_some place.second) in
      record {
        to = λ h.
            let true' : AllTrue r.term (id ∷ []) = subst (AllTrue r.term) root.roots h in
            let one = tests.to true'.0 in
            matches r a n (OnePlace f) (Some v) root.kind root.value (record { content = one.content; assigned = place.first ∙ sym place.second ∙ one.first; declared = one.second });
        from = λ h.
            let is : IsValue (a n.slot) (v r) = matched r a n (OnePlace f) (Some v) root.kind root.value h in
            let true' = tests.from (record { content = is.content; first = place.second ∙ sym place.first ∙ is.assigned; second = is.declared }) in
            subst (AllTrue r.term) (sym root.roots) (true', tt);
      };
}

pub equal_roots : (s : Run) (ns : List HeldName) (n : HeldName) (f : Free) (v : View) (y : Symbol) (id : ℕ) → IsEqualRoot s n f v y id → IsRootedName s (ns ++ n ∷ []) n
equal_roots s ns n f v y id root = place_roots s ns n f v id (record {
  kind = root.kind;
  value = root.value;
  roots = root.roots;
  tests = λ r given reads some.
      let tests = symbols_tested r.term f.symbol y root.base root.option (λ truth. root.truth truth r given reads) some in
      subst (λ (t : Term). TestsOne t (symbol_value r.term f.symbol) (value_of (v r))) (sym (root.root r reads)) (subst (λ w. TestsOne (equal_term r.term f.symbol y) (symbol_value r.term f.symbol) w) (sym (root.seen r given reads)) tests);
})

pub truth_roots : (s : Run) (ns : List HeldName) (n : HeldName) (f : Free) (v : View) (w id : ℕ) → IsTruthRoot s n f v w id → IsRootedName s (ns ++ n ∷ []) n
truth_roots s ns n f v w id root = place_roots s ns n f v id (record {
  kind = root.kind;
  value = root.value;
  roots = root.roots;
  tests = λ r given reads some.
      let value : symbol_value r.term f.symbol ≡ value_by base.Bool (r.term f.symbol.term) = ap (λ (b : Base). value_at r.term b f.symbol.occurs f.symbol.term) root.truth ∙ ap (λ o. value_at r.term base.Bool o f.symbol.term) root.plain in
      let tests = truths_tested (r.term f.symbol.term) (r.term w) (subst (λ x. IsSome x) value some) in
      let seen = root.there r given reads ∙ ap (λ q. Some (values.bool q)) (root.seen r given reads) in
      subst (λ (t : Term). TestsOne t (symbol_value r.term f.symbol) (value_of (v r))) (sym (root.root r reads))
      (subst (λ x. TestsOne (iff_term (r.term f.symbol.term) (r.term w)) x (value_of (v r))) (sym value) (subst (λ y. TestsOne (iff_term (r.term f.symbol.term) (r.term w)) (value_by base.Bool (r.term f.symbol.term)) y) (sym seen) tests));
})

pub option_truth_roots : (s : Run) (ns : List HeldName) (n : HeldName) (f : Free) (v : View) (o p d w id : ℕ) → IsOptionTruthRoot s n f v o p d w id → IsRootedName s (ns ++ n ∷ []) n
option_truth_roots s ns n f v o p d w id root = place_roots s ns n f v id (record {
  kind = root.kind;
  value = root.value;
  roots = root.roots;
  tests = λ r given reads some.
      let x : Term = r.term f.symbol.term in
      let y : Term = r.term w in
      let t : Term = and_term (r.term d) (iff_term x y) in
      let value : symbol_value r.term f.symbol ≡ option_value base.Bool (r.term o) x = ap (λ (b : Base). value_at r.term b f.symbol.occurs f.symbol.term) root.truth ∙ ap (λ o. value_at r.term base.Bool o f.symbol.term) root.option in
      let there : IsSome (option_value base.Bool (r.term o) x) = subst (λ x. IsSome x) value some in
      let tests = options_tested base.Bool (r.term o) (r.term p) x y t (λ first second. guarded_truths_tested (r.term d) x y (root.defined r given reads) (occurring (is_true (r.term o)) (value_by base.Bool x) first there)) in
      subst (λ (t : Term). TestsOne t (symbol_value r.term f.symbol) (value_of (v r))) (sym (root.root r reads))
      (subst (λ z. TestsOne (and_term (iff_term (r.term o) (r.term p)) (or_term (not_term (r.term o)) t)) z (value_of (v r))) (sym value) (subst (λ z. TestsOne (and_term (iff_term (r.term o) (r.term p)) (or_term (not_term (r.term o)) t)) (option_value base.Bool (r.term o) x) z) (sym (root.seen r given reads)) tests));
})

-- ---- lists of values that are there

some_list : (xs ys : List Content) → ◌≡◌ {A = Option (List Content)} (Some xs) (Some ys) → xs ≡ ys
some_list xs ys e = cc

first_item : (x y : Content) (xs ys : List Content) → x ∷ xs ≡ y ∷ ys → x ≡ y
first_item x y xs ys e = cc

other_items : (x y : Content) (xs ys : List Content) → x ∷ xs ≡ y ∷ ys → xs ≡ ys
other_items x y xs ys e = cc

record AreThere (v : Option Content) (vs : List (Option Content)) (xs : List Content) : Type 0 where
  head : Content
  tail : List Content
  first : v ≡ Some head
  rest : all_there vs ≡ Some tail
  both : xs ≡ head ∷ tail

are_there : (v : Option Content) (vs : List (Option Content)) (xs : List Content) → all_there (v ∷ vs) ≡ Some xs → AreThere v vs xs
are_there None vs xs e = absurd (cc)
are_there (Some x) vs xs e = by (all_there vs) refl e
  where
    by : (o : Option (List Content)) → all_there vs ≡ o → option_map (λ ys. x ∷ ys) o ≡ Some xs → AreThere (Some x) vs xs
    by None is e = absurd (cc)
    by (Some ys) is e = record { head = x; tail = ys; first = refl; rest = is; both = some_list xs (x ∷ ys) (sym e) }

-- the terms test all elements
elements_tested : (t : ℕ → Term) (fs : List Free) (ys : List Symbol) (is : List ℕ) (xs : List Content) → TestElements t fs ys is → places_value t fs ≡ Some xs → Iff (AllTrue t is) (all_there (map (symbol_value t) ys) ≡ Some xs)
elements_tested t [] [] [] xs tests e = record { to = λ h. e; from = λ h. tt }
elements_tested t [] [] (i ∷ is) xs tests e = absurd tests
elements_tested t [] (y ∷ ys) is xs tests e = absurd tests
elements_tested t (f ∷ fs) [] is xs tests e = absurd tests
elements_tested t (f ∷ fs) (y ∷ ys) [] xs tests e = absurd tests
elements_tested t (f ∷ fs) (y ∷ ys) (i ∷ is) xs tests e =
    let place = are_there (symbol_value t f.symbol) (map (λ f. symbol_value t f.symbol) fs) xs e in
    let here = tests.0 (ap is_some place.first) in
    let rest = elements_tested t fs ys is place.tail tests.1 place.rest in
    record {
      to = λ h.
          let one = here.to h.0 in
          one_more_there (symbol_value t y) (map (symbol_value t) ys) place.head place.tail (one.second ∙ sym one.first ∙ place.first) (rest.to h.1) ∙ ap (λ (zs : List Content). Some zs) (sym place.both);
      from = λ h.
          let element = are_there (symbol_value t y) (map (symbol_value t) ys) xs h in
          let same = sym element.both ∙ place.both in (
            here.from (record { content = place.head; first = place.first; second = element.first ∙ ap (λ (z : Content). Some z) (first_item element.head place.head element.tail place.tail same) }),
            rest.from (element.rest ∙ ap (λ (zs : List Content). Some zs) (other_items element.head place.head element.tail place.tail same)),
          );
    }

-- ---- arrays

record HasItems (ix : List Range) (o : Option (List Content)) (c : Content) : Type 0 where
  items : List Content
  there : o ≡ Some items
  made : c ≡ values.array ix (contents items)

has_items : (ix : List Range) (o : Option (List Content)) (c : Content) → array_value ix o ≡ Some c → HasItems ix o c
has_items ix None c e = absurd (cc)
has_items ix (Some xs) c e = record { items = xs; there = refl; made = some_content c (values.array ix (contents xs)) (sym e) }
  where
    some_content : (c d : Content) → Some c ≡ Some d → c ≡ d
    some_content c d e = cc

array_items : (ix : List Range) (xs ys : Contents) → values.array ix xs ≡ values.array ix ys → xs ≡ ys
array_items ix xs ys e = cc

first_content : (x y : Content) (xs ys : Contents) → values.more x xs ≡ values.more y ys → x ≡ y
first_content x y xs ys e = cc

other_contents : (x y : Content) (xs ys : Contents) → values.more x xs ≡ values.more y ys → xs ≡ ys
other_contents x y xs ys e = cc

same_items : (xs ys : List Content) → contents xs ≡ contents ys → xs ≡ ys
same_items [] [] e = refl
same_items [] (y ∷ ys) e = absurd (cc)
same_items (x ∷ xs) [] e = absurd (cc)
same_items (x ∷ xs) (y ∷ ys) e = ap (λ x. x ∷ xs) (first_content x y (contents xs) (contents ys) e) ∙ ap (λ zs. y ∷ zs) (same_items xs ys (other_contents x y (contents xs) (contents ys) e))

-- a value of elements is defined, and each is there
record AreDefined (q : Bool) (v : Option (List Content)) (xs : List Content) : Type 0 where
  defined : q ≡ true
  there : v ≡ Some xs

are_defined : (q : Bool) (v : Option (List Content)) (xs : List Content) → option_and_then (λ xs. if q then Some xs else None) v ≡ Some xs → AreDefined q v xs
are_defined q None xs e = absurd (cc)
are_defined true (Some ys) xs e = record { defined = refl; there = e }
are_defined false (Some ys) xs e = absurd (cc)

pub array_roots : (s : Run) (ns : List HeldName) (n : HeldName) (ix : List Range) (fs : List Free) (v : View) (defined : ℕ) (items : List Symbol) (ids : List ℕ) → AreArrayRoots s n ix fs v defined items ids → IsRootedName s (ns ++ n ∷ []) n
array_roots s ns n ix fs v defined items ids root = record {
  by = λ r a given reads assigned.
      let place : IsAssigned r.term a n.slot (ManyPlaces ix fs) = subst (IsAssigned r.term a n.slot) root.kind (last_assigned r.term a ns n assigned) in
      let own = has_items ix (places_value r.term fs) place.content place.second in
      let q : Bool = is_true (r.term defined) in
      let elements : Option (List Content) = all_there (map (symbol_value r.term) items) in
      record {
        to = λ h.
            let true' : AllTrue r.term (defined ∷ ids) = subst (AllTrue r.term) root.roots h in
            let tests = elements_tested r.term fs items ids own.items (root.tests r given reads true'.0) own.there in
            let value = root.seen r given reads ∙ ap (array_value ix) (if_defined q elements true'.0 ∙ tests.to true'.1) in
            matches r a n (ManyPlaces ix fs) (Some v) root.kind root.value (record { content = values.array ix (contents own.items); assigned = place.first ∙ ap (λ (c : Content). Some c) own.made; declared = value });
        from = λ h.
            let is : IsValue (a n.slot) (v r) = matched r a n (ManyPlaces ix fs) (Some v) root.kind root.value h in
            let other = has_items ix (elements_value r.term defined items) is.content (sym (root.seen r given reads) ∙ is.declared) in
            let there = are_defined q elements other.items other.there in
            let tests = elements_tested r.term fs items ids own.items (root.tests r given reads there.defined) own.there in
            let content = same_content is.content place.content (sym is.assigned ∙ place.first) in
            let same = same_items other.items own.items (array_items ix (contents other.items) (contents own.items) (sym other.made ∙ content ∙ own.made)) in
            subst (AllTrue r.term) (sym root.roots) (there.defined, tests.from (there.there ∙ ap (λ (zs : List Content). Some zs) same));
      };
}
  where
    same_content : (c d : Content) → Some c ≡ Some d → c ≡ d
    same_content c d e = cc

-- ---- an array of the run

-- where the array is defined, its elements have values
line_tests : (t : ℕ → Term) (fs : List Free) (ys : List Symbol) (is : List ℕ) → AreAlike fs ys → AreEqualTerms t fs ys is → AreItems t ys → TestElements t fs ys is
line_tests t [] [] [] alike equal items = tt
line_tests t [] [] (i ∷ is) alike equal items = absurd equal
line_tests t [] (y ∷ ys) is alike equal items = absurd alike
line_tests t (f ∷ fs) [] is alike equal items = absurd alike
line_tests t (f ∷ fs) (y ∷ ys) [] alike equal items = absurd equal
line_tests t (f ∷ fs) (y ∷ ys) (i ∷ is) alike equal items = (
  λ some.
      let tests = symbols_tested t f.symbol y alike.0.0 alike.0.1 (λ truth. truth_number y.base (t y.term) (ap sort_of (sym alike.0.0) ∙ truth) items.0.value) some in
      subst (λ (x : Term). TestsOne x (symbol_value t f.symbol) (symbol_value t y)) (sym equal.0) tests,
  line_tests t fs ys is alike.1 equal.1 items.1,
)

pub line_roots : (s : Run) (ns : List HeldName) (n : HeldName) (ix : List Range) (fs : List Free) (v : View) (k : ℕ) (l : Line) (ids : List ℕ) → IsRun s → AreLineRoots s n ix fs v k l ids → IsRootedName s (ns ++ n ∷ []) n
line_roots s ns n ix fs v k l ids run root = array_roots s ns n ix fs v l.defined l.items.items ids (record {
  kind = root.kind;
  value = root.value;
  roots = root.roots;
  seen = λ r given reads. root.seen r given reads ∙ ap (array_value ix) (reads.lines k l root.line);
  tests = λ r given reads defined. line_tests r.term fs l.items.items ids root.alike (root.equal r reads) ((run.lines r.term reads.nodes k l root.line).whole defined);
})

-- ---- no value, and no variable

no_value : (r : Reading) (v : View) (x : Option Content) → value_of (v r) ≡ None → IsValue x (v r) → ⊥
no_value r v x none is = let e = sym none ∙ is.declared in cc

false_matches : (r : Reading) (a : Assignment) (n : HeldName) (k : NameKind) (v : View) → k ≢ ParName → value_of (v r) ≡ None → NameMatches r a n k (Some v) → ⊥
false_matches r a n ParName v variable none h = variable refl
false_matches r a n (OnePlace f) v variable none h = no_value r v (a n.slot) none h
false_matches r a n (ManyPlaces ix fs) v variable none h = no_value r v (a n.slot) none h

never : {A : Type 0} (t : Term) → is_true t ≡ false → is_true t ≡ true → A
never t e f = absurd (cc)

pub false_roots : (s : Run) (ns : List HeldName) (n : HeldName) (v : View) (id : ℕ) → IsFalseRoot s n v id → IsRootedName s ns n
false_roots s ns n v id root = record {
  by = λ r a given reads assigned. record {
    to = λ h. let true' : AllTrue r.term (id ∷ []) = subst (AllTrue r.term) root.roots h in never (r.term id) (root.never r given reads) true'.0;
    from = λ h. absurd (false_matches r a n n.kind v root.variable (root.undefined r given reads) (matched r a n n.kind (Some v) refl root.value h));
  };
}

par_matches : (r : Reading) (a : Assignment) (n : HeldName) (k : NameKind) (v : Option View) → (k ≡ ParName) ⊎ (v ≡ None) → NameMatches r a n k v
par_matches r a n ParName v is = tt
par_matches r a n (OnePlace f) v (inl is) = absurd (cc)
par_matches r a n (OnePlace f) v (inr is) = subst (λ v. NameMatches r a n (OnePlace f) v) (sym is) tt
par_matches r a n (ManyPlaces ix fs) v (inl is) = absurd (cc)
par_matches r a n (ManyPlaces ix fs) v (inr is) = subst (λ v. NameMatches r a n (ManyPlaces ix fs) v) (sym is) tt

pub no_roots : (s : Run) (ns : List HeldName) (n : HeldName) → n.roots ≡ [] → (n.kind ≡ ParName) ⊎ (n.value ≡ None) → IsRootedName s ns n
no_roots s ns n none is = record { by = λ r a given reads assigned. record { to = λ h. par_matches r a n n.kind n.value is; from = λ h. subst (AllTrue r.term) (sym none) tt } }

-- ---- constraints

all_true : (r : Reading) (ids : List ℕ) → Iff (AllTrue r.term ids) (are_all_true r ids ≡ true)
all_true r [] = record { to = λ h. refl; from = λ h. tt }
all_true r (i ∷ is) = by (is_true (r.term i)) (all_true r is)
  where
    by : (q : Bool) → Iff (AllTrue r.term is) (are_all_true r is ≡ true) → Iff ((q ≡ true) × AllTrue r.term is) (q && are_all_true r is ≡ true)
    by true rest = record { to = λ h. rest.to h.1; from = λ h. (refl, rest.from h) }
    by false rest = record { to = λ h. h.0; from = λ h. absurd (cc) }

pub constraint_roots : (s : Run) (c : HeldConstraint) → ((r : Reading) → IsGiven r.mode → Reads r s → cells.is_true (value_of (c.cell r)) ≡ are_all_true r c.roots) → IsRooted s c
constraint_roots s c is = record { by = λ r given reads. record { to = λ h. is r given reads ∙ (all_true r c.roots).to h; from = λ h. (all_true r c.roots).from (sym (is r given reads) ∙ h) } }

-- ---- as the run goes on

abbrev Assigns : List HeldName → List HeldName → Type 0
Assigns later ns = (t : ℕ → Term) (a : Assignment) → AllAssigned t a later → AllAssigned t a ns

all_kept : (old new : Run) (all later ns : List HeldName) → ReadBack old new → Assigns later all → AreRootedNames old all ns → AreRootedNames new later ns
all_kept old new all later [] back assigns rooted = tt
all_kept old new all later (n ∷ ns) back assigns rooted = (record { by = λ r a given reads assigned. rooted.0.by r a given (back r reads) (assigns r.term a assigned) }, all_kept old new all later ns back assigns rooted.1)

and_last : (s : Run) (all ns : List HeldName) (n : HeldName) → AreRootedNames s all ns → IsRootedName s all n → AreRootedNames s all (ns ++ n ∷ [])
and_last s all [] n rooted last = (last, tt)
and_last s all (m ∷ ns) n rooted last = (rooted.0, and_last s all ns n rooted.1 last)

pub more_rooted : (old new : Run) (ns : List HeldName) (n : HeldName) → ReadBack old new → AreRootedNames old ns ns → IsRootedName new (ns ++ n ∷ []) n → AreRootedNames new (ns ++ n ∷ []) (ns ++ n ∷ [])
more_rooted old new ns n back rooted last = and_last new (ns ++ n ∷ []) ns n (all_kept old new ns (ns ++ n ∷ []) ns back (λ t a h. first_assigned t a ns (n ∷ []) h) rooted) last

pub rooted_kept : (old new : Run) (ns : List HeldName) → ReadBack old new → AreRootedNames old ns ns → AreRootedNames new ns ns
rooted_kept old new ns back rooted = all_kept old new ns ns ns back (λ t a h. h) rooted

pub met_kept : (old new : Run) (cs : List HeldConstraint) → ReadBack old new → AreRooted old cs → AreRooted new cs
met_kept old new [] back rooted = tt
met_kept old new (c ∷ cs) back rooted = (record { by = λ r given reads. rooted.0.by r given (back r reads) }, met_kept old new cs back rooted.1)

pub more_met : (old new : Run) (cs : List HeldConstraint) (c : HeldConstraint) → ReadBack old new → AreRooted old cs → IsRooted new c → AreRooted new (cs ++ c ∷ [])
more_met old new [] c back rooted last = (last, tt)
more_met old new (d ∷ cs) c back rooted last = (record { by = λ r given reads. rooted.0.by r given (back r reads) }, more_met old new cs c back rooted.1 last)
