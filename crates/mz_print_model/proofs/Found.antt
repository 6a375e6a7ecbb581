-- What the walks over a model find: its top-level names.
use Rattle.std.proofs.Common.{◌≡◌, ◌∙◌, ℕ, zero, suc, ◌+◌, ◌<◌, ◌≤◌, Bool, true, false, List, [], ◌∷◌, ◌++◌, length, map, Option, Some, None, slice_get, refl, sym, ap, subst, arith}
use Rattle.std.specs.Prelude.{All}
use Rattle.std.specs.List.{AllByRecursion}
use Rattle.std.proofs.lemmas.List.{length-map, length-append}
use Rattle.mz_value.specs.Ranges.{Range}
use Rattle.mz_value.specs.Contents.{Content}
use Rattle.mz_core.specs.Program.{PlainProgram}
use Rattle.mz_core.specs.Tree.{Decl}
use Rattle.mz_arena.specs.Instances.{ModelVar, ParValue, Instance}
use Rattle.mz_instance.specs.Instance.{IsCounted, IsModelVar, AreModelVars}
use Rattle.mz_meaning.specs.Runs.{Answer, Out, Stopped, start}
use Rattle.mz_meaning.specs.Cells.{Cell, Par, Var, Unshaped, Given}
use Rattle.mz_meaning.specs.Contexts.{Positive}
use Rattle.mz_meaning.specs.Domains.{Domain, Domains, Fixed, Scalar, Places}
use Rattle.mz_meaning.specs.Walk.{Limits, Assignment, Declared, Walked, with_decl, ordered, walk}
use Rattle.mz_meaning_laws.specs.Outlines.{outline, outline_declared, outline_all_declared, outline_walked}
use Rattle.mz_meaning_laws.specs.Independence.{AreSameAnswers}
use Rattle.mz_meaning_laws.proofs.Consequences.{walks_are_alike}
use Rattle.mz_model_meaning.specs.Decoded.{named}
use Rattle.mz_model_meaning.specs.Modeled.{AreVarsOf, IsHead, domains_by, domains_of, cell_domain, var_head, var_tail, names_of, names_in, par_of, par_values, Modeled}
use Rattle.mz_headline.specs.Keeping.{AreNumbered}
use Rattle.mz_headline.proofs.Rows.{choice_in, some_choices, with_codes}
use Rattle.mz_headline.proofs.Slots.{telling, telling_tells}
use Rattle.mz_print.specs.Output.{OutputName, IsParIf, IsParName, fixed_cell, output_name, output_names}
use Rattle.mz_print.specs.Printers.{IsDeclNamed}
use Rattle.mz_print_model.specs.Shapes.{IsVarNamed}
use Rattle.mz_print_model.specs.Names.{HasNames, FindsNames, variable, par_name, with_name, next_with, names_with}

-- ---- names by values: as many values as par names

none_is_some : (xs : List OutputName) → None ≡ Some xs → ⊥
none_is_some xs h = cc

some_are : (xs ys : List OutputName) → Some xs ≡ Some ys → xs ≡ ys
some_are xs ys h = cc

with_some : (x : OutputName) (o : Option (List OutputName)) (xs : List OutputName) → with_name x o ≡ Some xs → (ys : List OutputName) × (o ≡ Some ys) × (xs ≡ x ∷ ys)
with_some x None xs h = absurd (none_is_some xs h)
with_some x (Some ys) xs h = (ys, refl, sym (some_are (x ∷ ys) xs h))

abbrev one_if_par : Bool → ℕ
one_if_par true = 0
one_if_par false = 1

abbrev pars_in : List Decl → ℕ
pars_in [] = 0
pars_in (d ∷ ds) = one_if_par d.ty.ty.var + pars_in ds

counted : (ds : List Decl) (vs : List ParValue) (xs : List OutputName) → names_with ds vs ≡ Some xs → length vs ≡ pars_in ds
unfolding names_with
counted [] [] xs h = refl
counted [] (v ∷ vs) xs h = absurd (none_is_some xs h)
counted (d ∷ ds) vs xs h = by (counted ds) d.ty.ty.var vs h
  where
    by : ((vs : List ParValue) (xs : List OutputName) → names_with ds vs ≡ Some xs → length vs ≡ pars_in ds) → (b : Bool) (vs : List ParValue) → next_with b d.slot (names_with ds) vs ≡ Some xs → length vs ≡ one_if_par b + pars_in ds
    by go true vs h =
        let w = with_some (variable d.slot) (names_with ds vs) xs h in
        let rest = go vs w.0 w.1 in
        omega (arith, rest)
    by go false [] h = absurd (none_is_some xs h)
    by go false (v ∷ vs) h =
        let w = with_some (par_name d.slot v.value) (names_with ds vs) xs h in
        let rest = go vs w.0 w.1 in
        omega (arith, rest)

-- their cells are par
pars_are_par : (ds : List Decl) (vs : List ParValue) (xs : List OutputName) → names_with ds vs ≡ Some xs → AllByRecursion IsParName xs
unfolding names_with
pars_are_par [] [] xs h = subst (AllByRecursion IsParName) (some_are [] xs h) tt
pars_are_par [] (v ∷ vs) xs h = absurd (none_is_some xs h)
pars_are_par (d ∷ ds) vs xs h = by (pars_are_par ds) d.ty.ty.var vs h
  where
    by : ((vs : List ParValue) (xs : List OutputName) → names_with ds vs ≡ Some xs → AllByRecursion IsParName xs) → (b : Bool) (vs : List ParValue) → next_with b d.slot (names_with ds) vs ≡ Some xs → AllByRecursion IsParName xs
    by go true vs h =
        let w = with_some (variable d.slot) (names_with ds vs) xs h in
        subst (AllByRecursion IsParName) (sym w.2) (tt, go vs w.0 w.1)
    by go false [] h = absurd (none_is_some xs h)
    by go false (v ∷ vs) h =
        let w = with_some (par_name d.slot v.value) (names_with ds vs) xs h in
        subst (AllByRecursion IsParName) (sym w.2) (refl, go vs w.0 w.1)

-- ---- the names that one walk declares

-- a variable is no par name
not_fixed : (ix : Option (List Range)) (ds : List Domain) (slot : ℕ) (c : Cell) → IsCounted ix (length ds) → (par_of (domains_by ix ds) slot c ≡ []) × (fixed_cell (domains_by ix ds) c ≡ None)
not_fixed None [] slot c count = absurd (omega (arith, count))
not_fixed None (d ∷ ds) slot c count = (refl, refl)
not_fixed (Some ix) ds slot c count = (refl, refl)

is_variable : (m : ModelVar) (ds : Domains) (slot : ℕ) (c : Cell) → IsModelVar m → ds ≡ domains_of m → (par_of ds slot c ≡ []) × (fixed_cell ds c ≡ None)
is_variable m ds slot c is same =
    subst (λ es. (par_of es slot c ≡ []) × (fixed_cell es c ≡ None)) (sym same)
    (not_fixed m.index (map (cell_domain m) m.cells) slot c (subst (IsCounted m.index) (sym (length-map m.cells (cell_domain m))) is.count))

at_most_one : (ds : Domains) (slot : ℕ) (c : Cell) → length (par_of ds slot c) ≤ 1
at_most_one Fixed slot (Par None) = omega arith
at_most_one Fixed slot (Par (Some v)) = omega arith
at_most_one Fixed slot (Var b v) = omega arith
at_most_one Fixed slot (Unshaped d) = omega arith
at_most_one (Scalar d) slot c = omega arith
at_most_one (Places ix ds) slot c = omega arith

-- what the first declaration and its name have in common
record IsFirst (x : Declared) (b : Bool) (d : Decl) (ms : List ModelVar) : Type 0 where
  slot : x.slot ≡ d.slot
  domains : x.domains ≡ var_head b ms

first_of : (x : Declared) (xs : List Declared) (d : Decl) (ds : List Decl) (ms : List ModelVar) → map named (x ∷ xs) ≡ names_of (d ∷ ds) ms → IsFirst x d.ty.ty.var d ms × (map named xs ≡ names_of ds (var_tail d.ty.ty.var ms))
first_of x xs d ds ms same =
    let both : named x ∷ map named xs ≡ record { slot = d.slot; domains = var_head d.ty.ty.var ms } ∷ names_of ds (var_tail d.ty.ty.var ms) = same in
    let head : named x ≡ record { slot = d.slot; domains = var_head d.ty.ty.var ms } = cc in
    let tail : map named xs ≡ names_of ds (var_tail d.ty.ty.var ms) = cc in
    (record { slot = ap (λ n. n.slot) head; domains = ap (λ n. n.domains) head }, tail)

-- a walk gives no more values than there are par names
few : (ds : List Decl) (ms : List ModelVar) (xs : List Declared) → AreVarsOf ds ms → AreModelVars ms → map named xs ≡ names_of ds ms → length (par_values xs) ≤ pars_in ds
few [] [] [] vars are same = omega arith
few [] [] (x ∷ xs) vars are same = absurd (cc)
few [] (m ∷ ms) xs vars are same = absurd vars
few (d ∷ ds) ms [] vars are same = absurd (cc)
few (d ∷ ds) ms (x ∷ xs) vars are same =
    let first = first_of x xs d ds ms same in
    by (λ ms v a s. few ds ms xs v a s) d.ty.ty.var ms vars.0 vars.1 are first.0 first.1
  where
    by : ((ms : List ModelVar) → AreVarsOf ds ms → AreModelVars ms → map named xs ≡ names_of ds ms → length (par_values xs) ≤ pars_in ds) → (b : Bool) (ms : List ModelVar) → IsHead b d ms → AreVarsOf ds (var_tail b ms) → AreModelVars ms → IsFirst x b d ms → map named xs ≡ names_of ds (var_tail b ms)
        → length (par_of x.domains x.slot x.cell ++ par_values xs) ≤ one_if_par b + pars_in ds
    by go false ms head rest are first s =
        let more = go ms rest are s in
        let one = at_most_one x.domains x.slot x.cell in
        let all = length-append (par_of x.domains x.slot x.cell) (par_values xs) in
        omega (arith, more, one, all)
    by go true [] head rest are first s = absurd head
    by go true (m ∷ ms) head rest are first s =
        let more = go ms rest are.1 s in
        let none = (is_variable m x.domains x.slot x.cell are.0 first.domains).0 in
        let all : length (par_of x.domains x.slot x.cell ++ par_values xs) ≡ length (par_values xs) = ap (λ ps. length (ps ++ par_values xs)) none in
        omega (arith, more, all)

too_few : (d : Decl) (ds : List Decl) (rest : List ParValue) (xs : List OutputName) → d.ty.ty.var ≡ false → length rest ≤ pars_in ds → names_with (d ∷ ds) rest ≡ Some xs → ⊥
too_few d ds rest xs var low h =
    let all : length rest ≡ one_if_par d.ty.ty.var + pars_in ds = counted (d ∷ ds) rest xs h in
    let one : one_if_par d.ty.ty.var ≡ 1 = ap one_if_par var in
    omega (arith, all, one, low)

abbrev IsRest : List Decl → List ParValue → OutputName → List OutputName → Type 0
IsRest ds rest x xs = (ys : List OutputName) × (names_with ds rest ≡ Some ys) × (xs ≡ x ∷ ys)

next_of : (b : Bool) (d : Decl) (ds : List Decl) (vs : List ParValue) (xs : List OutputName) → d.ty.ty.var ≡ b → names_with (d ∷ ds) vs ≡ Some xs → next_with b d.slot (names_with ds) vs ≡ Some xs
unfolding names_with
next_of b d ds vs xs var h = ap (λ c. next_with c d.slot (names_with ds) vs) (sym var) ∙ h

par_found : (slot : ℕ) (dom : Domains) (c : Cell) (d : Decl) (ds : List Decl) (rest : List ParValue) (xs : List OutputName) → d.ty.ty.var ≡ false → slot ≡ d.slot → dom ≡ Fixed → length rest ≤ pars_in ds → names_with (d ∷ ds) (par_of dom slot c ++ rest) ≡ Some xs
    → IsRest ds rest (record { slot = slot; fixed = fixed_cell dom c }) xs
par_found slot Fixed (Par None) d ds rest xs var at fixed low h = absurd (too_few d ds rest xs var low h)
par_found slot Fixed (Par (Some v)) d ds rest xs var at fixed low h =
    let w = with_some (par_name d.slot v) (names_with ds rest) xs (next_of false d ds (record { slot = slot; value = v } ∷ rest) xs var h) in
    (w.0, w.1, w.2 ∙ ap (λ s. par_name s v ∷ w.0) (sym at))
par_found slot Fixed (Var b v) d ds rest xs var at fixed low h = absurd (too_few d ds rest xs var low h)
par_found slot Fixed (Unshaped t) d ds rest xs var at fixed low h = absurd (too_few d ds rest xs var low h)
par_found slot (Scalar t) c d ds rest xs var at fixed low h = absurd (cc)
par_found slot (Places ix ts) c d ds rest xs var at fixed low h = absurd (cc)

var_found : (slot : ℕ) (dom : Domains) (c : Cell) (m : ModelVar) (d : Decl) (ds : List Decl) (rest : List ParValue) (xs : List OutputName) → d.ty.ty.var ≡ true → slot ≡ d.slot → dom ≡ domains_of m → IsModelVar m → names_with (d ∷ ds) (par_of dom slot c ++ rest) ≡ Some xs
    → IsRest ds rest (record { slot = slot; fixed = fixed_cell dom c }) xs
var_found slot dom c m d ds rest xs var at same is h =
    let its = is_variable m dom slot c is same in
    let h2 : names_with (d ∷ ds) rest ≡ Some xs = ap (λ ps. names_with (d ∷ ds) (ps ++ rest)) (sym its.0) ∙ h in
    let w = with_some (variable d.slot) (names_with ds rest) xs (next_of true d ds rest xs var h2) in
    let name : variable d.slot ≡ record { slot = slot; fixed = fixed_cell dom c } = rw (at, its.1) refl in
    (w.0, w.1, w.2 ∙ ap (λ x. x ∷ w.0) name)

names_found : (ds : List Decl) (ms : List ModelVar) (xs : List Declared) (os : List OutputName) → AreVarsOf ds ms → AreModelVars ms → map named xs ≡ names_of ds ms → names_with ds (par_values xs) ≡ Some os → output_names xs ≡ os
unfolding names_with
names_found [] [] [] os vars are same h = some_are [] os h
names_found [] [] (x ∷ xs) os vars are same h = absurd (cc)
names_found [] (m ∷ ms) xs os vars are same h = absurd vars
names_found (d ∷ ds) ms [] os vars are same h = absurd (cc)
names_found (d ∷ ds) ms (x ∷ xs) os vars are same h =
    let first = first_of x xs d ds ms same in
    by (λ ms os v a s k. names_found ds ms xs os v a s k) d.ty.ty.var ms refl vars.0 vars.1 are first.0 first.1
  where
    by : ((ms : List ModelVar) (os : List OutputName) → AreVarsOf ds ms → AreModelVars ms → map named xs ≡ names_of ds ms → names_with ds (par_values xs) ≡ Some os → output_names xs ≡ os) → (b : Bool) (ms : List ModelVar) → d.ty.ty.var ≡ b → IsHead b d ms → AreVarsOf ds (var_tail b ms) → AreModelVars ms → IsFirst x b d ms → map named xs ≡ names_of ds (var_tail b ms)
        → output_name x ∷ output_names xs ≡ os
    by go false ms var head rest are first s =
        let w = par_found x.slot x.domains x.cell d ds (par_values xs) os var first.slot first.domains (few ds ms xs rest are s) h in
        ap (λ ys. output_name x ∷ ys) (go ms w.0 rest are s w.1) ∙ sym w.2
    by go true [] var head rest are first s = absurd head
    by go true (m ∷ ms) var head rest are first s =
        let w = var_found x.slot x.domains x.cell m d ds (par_values xs) os var first.slot first.domains are.0 h in
        ap (λ ys. output_name x ∷ ys) (go ms w.0 rest are.1 s w.1) ∙ sym w.2

-- ---- what all walks find

outlines_named : (xs : List Declared) → map named (outline_all_declared xs) ≡ map named xs
outlines_named [] = refl
outlines_named (x ∷ xs) = ap (λ ns. named x ∷ ns) (outlines_named xs)

same_cell : (dom : Domains) (c e : Cell) → outline c ≡ outline e → IsParIf (fixed_cell dom c) → fixed_cell dom c ≡ fixed_cell dom e
same_cell Fixed (Par v) (Par w) same par = ap Some same
same_cell Fixed (Par v) (Var b w) same par = absurd (cc)
same_cell Fixed (Par v) (Unshaped t) same par = absurd (cc)
same_cell Fixed (Var b v) e same par = absurd (cc)
same_cell Fixed (Unshaped t) e same par = absurd (cc)
same_cell (Scalar t) c e same par = refl
same_cell (Places ix ts) c e same par = refl

same_name : (x y : Declared) → outline_declared x ≡ outline_declared y → IsParName (output_name x) → output_name x ≡ output_name y
same_name x y same par =
    let slot : x.slot ≡ y.slot = ap (λ z. z.slot) same in
    let domains : x.domains ≡ y.domains = ap (λ z. z.domains) same in
    let cell : outline x.cell ≡ outline y.cell = ap (λ z. z.cell) same in
    let fixed : fixed_cell x.domains x.cell ≡ fixed_cell y.domains y.cell = same_cell x.domains x.cell y.cell cell par ∙ ap (λ t. fixed_cell t y.cell) domains in
    rw (slot, fixed) refl

same_names : (xs ys : List Declared) → outline_all_declared xs ≡ outline_all_declared ys → AllByRecursion IsParName (output_names xs) → output_names xs ≡ output_names ys
same_names [] [] same par = refl
same_names [] (y ∷ ys) same par = absurd (cc)
same_names (x ∷ xs) [] same par = absurd (cc)
same_names (x ∷ xs) (y ∷ ys) same par =
    let both : outline_declared x ∷ outline_all_declared xs ≡ outline_declared y ∷ outline_all_declared ys = same in
    let head : outline_declared x ≡ outline_declared y = cc in
    let tail : outline_all_declared xs ≡ outline_all_declared ys = cc in
    ap (λ z. z ∷ output_names xs) (same_name x y head par.0) ∙ ap (λ zs. output_name y ∷ zs) (same_names xs ys tail par.1)

found_too : (ds : List Decl) (vars : List ModelVar) (os : List OutputName) (r q : Answer Walked) → AllByRecursion IsParName os → AreSameAnswers outline_walked r q → HasNames ds vars os r → HasNames ds vars os q
found_too ds vars os (Stopped g) q par same found = absurd found
found_too ds vars os (Out x s) (Stopped g) par same found = absurd same
found_too ds vars os (Out x s) (Out y t) par same found =
    let names : outline_all_declared x.names ≡ outline_all_declared y.names = ap (λ (w : Walked). w.names) same.0 in (
      sym (outlines_named y.names) ∙ ap (λ ns. map named ns) (sym names) ∙ outlines_named x.names ∙ found.0,
      sym (same_names x.names y.names names (subst (AllByRecursion IsParName) (sym found.1) par)) ∙ found.1,
    )

-- one walk finds the names of the instance; and then each does
pub all_find : (l : Limits) (p : PlainProgram) (inst : Instance) (os : List OutputName) → AreNumbered (ordered p.decls p.order) → Modeled l p inst → names_with (ordered p.decls p.order) inst.pars ≡ Some os → FindsNames l p inst.vars os
all_find l p inst os numbered modeled named_so =
    let ds = ordered p.decls p.order in
    let x = with_codes [] in
    let a : Assignment = telling (names_in p inst) x in
    let c : ℕ → Content = choice_in modeled.taken 0 x in
    let w = modeled.walks a c x x (telling_tells ds inst.vars x numbered) (some_choices modeled.taken x) in
    let by_walk : names_with ds (par_values w.out.names) ≡ Some os = ap (names_with ds) w.pars ∙ named_so in
    let here : output_names w.out.names ≡ os = names_found ds inst.vars w.out.names os modeled.vars modeled.sound.vars w.names by_walk in
    let one : HasNames ds inst.vars os (walk Positive l (Given c) a p start) = subst (HasNames ds inst.vars os) (sym w.runs) (w.names, here) in
    record { each = λ b e. found_too ds inst.vars os (walk Positive l (Given c) a p start) (walk Positive l (Given e) b p start) (pars_are_par ds inst.pars os named_so) ((walks_are_alike l p a b c e).by start) one }

-- ---- names of the table

pub decls_named : (table : List (List ℕ)) (ds : List Decl) → All (λ n. n < length table) (map (λ (d : Decl). d.name) ds) → AllByRecursion (IsDeclNamed table) ds
decls_named table [] known = tt
decls_named table (d ∷ ds) known = (known 0 0 (omega arith), decls_named table ds (λ k n low. known (suc k) n (omega (arith, low))))

one_named : (table : List (List ℕ)) (ds : List Decl) (k : ℕ) (d : Decl) → AllByRecursion (IsDeclNamed table) ds → slice_get ds k ≡ Some d → IsDeclNamed table d
one_named table [] k d named at = absurd (cc)
one_named table (e ∷ ds) zero d named at = subst (IsDeclNamed table) (let same : e ≡ d = cc in same) named.0
one_named table (e ∷ ds) (suc k) d named at = one_named table ds k d named.1 at

next_named : (table : List (List ℕ)) (ds others : List Decl) (k : ℕ) (o : Option Decl) → slice_get ds k ≡ o → AllByRecursion (IsDeclNamed table) ds → AllByRecursion (IsDeclNamed table) others → AllByRecursion (IsDeclNamed table) (with_decl others o)
next_named table ds others k None at named rest = rest
next_named table ds others k (Some d) at named rest = (one_named table ds k d named at, rest)

ordered_named : (table : List (List ℕ)) (ds : List Decl) (order : List ℕ) → AllByRecursion (IsDeclNamed table) ds → AllByRecursion (IsDeclNamed table) (ordered ds order)
ordered_named table ds [] named = tt
ordered_named table ds (k ∷ ks) named = next_named table ds (ordered ds ks) k (slice_get ds k) refl named (ordered_named table ds ks named)

vars_named : (table : List (List ℕ)) (ds : List Decl) (ms : List ModelVar) → AllByRecursion (IsDeclNamed table) ds → AreVarsOf ds ms → AllByRecursion (IsVarNamed table) ms
vars_named table [] [] named vars = tt
vars_named table [] (m ∷ ms) named vars = absurd vars
vars_named table (d ∷ ds) ms named vars = by (λ ms rest. vars_named table ds ms named.1 rest) d.ty.ty.var ms vars.0 vars.1
  where
    by : ((ms : List ModelVar) → AreVarsOf ds ms → AllByRecursion (IsVarNamed table) ms) → (b : Bool) (ms : List ModelVar) → IsHead b d ms → AreVarsOf ds (var_tail b ms) → AllByRecursion (IsVarNamed table) ms
    by go false ms head rest = go ms rest
    by go true [] head rest = absurd head
    by go true (m ∷ ms) head rest = (subst (λ n. n < length table) (sym head.name) named.0, go ms rest)

pub all_named : (table : List (List ℕ)) (p : PlainProgram) (ms : List ModelVar) → All (λ n. n < length table) (map (λ (d : Decl). d.name) p.decls) → AreVarsOf (ordered p.decls p.order) ms → AllByRecursion (IsVarNamed table) ms
all_named table p ms known vars = vars_named table (ordered p.decls p.order) ms (ordered_named table p.decls p.order (decls_named table p.decls known)) vars
