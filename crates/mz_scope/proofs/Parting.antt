-- The names of a model's parts, and those that its occurrences declare and give values: how often each stands there.
use Rattle.std.proofs.Common.{◌≡◌, ℕ, zero, suc, ◌+◌, ◌≤◌, Bool, true, false, List, [], ◌∷◌, ◌++◌, refl, ap, sym, ◌∙◌, map, append-nil, Option, Some, None, arith}
use Rattle.std.specs.Prelude.{nat_eq, if◌then◌else◌}
use Rattle.std.specs.List.{flat_map}
use Rattle.std.proofs.lemmas.Bool.{eqb-true, eq-eqb}
use Rattle.mz_base.specs.declared.fault.Span.{Span}
use Rattle.mz_tree.specs.Tree as pure
use Rattle.mz_tree.specs.Tree.{Name, Maybe, Declaration, Written}
use Rattle.mz_tree.specs.Items.{FunctionTree, ItemTree, include, declare, assign, constraint, solve, output, function, enum, annotation}
use Rattle.mz_tree.specs.Data.{Given}
use Rattle.mz_scope_names.specs.declared.occurrence.Role.{Role}
use Rattle.mz_scope_names.specs.declared.occurrence.Role.TheVariants.{Declared, Used, Local, Lacking}
use Rattle.mz_scope_names.specs.Roles.{occurs}
use Rattle.mz_scope_names.specs.Occurrences.{is_par, in_tree, in_maybe, in_written, in_parameter, value_of, in_top, of_case, of_function, in_item}
use Rattle.mz_scope_names.specs.Given.{cases_in, enum_of, listed, in_given, occurrences}
use Rattle.mz_scope_names.specs.Sets.{holds}
use Rattle.mz_scope_names.proofs.Lists.{flat_of_both}
use Rattle.mz_scope_names.specs.Sketches.{has_parameters}
use Rattle.mz_scope_order.specs.Parts.{declared_in, function_in, cases_at, given_cases, enum_in, enums_of, name_of}
use Rattle.mz_scope_order.specs.Scoped.{enum_names, name_unless, bare_name}
use Rattle.mz_scope.specs.Spaces.{declares, gives, name_in, names_with}
use Rattle.mz_scope.proofs.Counting.{one_if, count, total, counted_both, counted_flat, total_sum, total_same, total_most, none_counted, flat_flat}
use Rattle.mz_scope.proofs.Inner.{expression_bare, maybe_bare, written_bare, parameters_bare, goal_bare, bare_both}

abbrev pub case_names : List (Name × Span) → List ℕ
case_names cs = map (λ c. c.0) cs

-- the cases that an enum's item lists, and those that data gives
abbrev pub listed_cases : ItemTree → List (Name × Span)
listed_cases (enum n s (Some cs)) = cs
listed_cases i = []

abbrev pub unlisted_cases : List Given → ItemTree → List (Name × Span)
unlisted_cases ds (enum n s None) = given_cases n ds
unlisted_cases ds i = []

abbrev pub or_none : Option (List Name) → List ℕ
or_none None = []
or_none (Some ns) = ns

-- the cases that an item of the data has
abbrev pub datum_cases : Given → List ℕ
datum_cases d = or_none (cases_in d.value)

abbrev pub weigh : Bool → ℕ → ℕ
weigh true x = x
weigh false x = 0

-- items

value_undeclared : (par : Bool) (m : Name) (s : Span) (e : Maybe) → names_with declares (value_of par m s e) ≡ []
value_undeclared true m s pure.nothing = refl
value_undeclared true m s (pure.just e) = refl
value_undeclared false m s pure.nothing = refl
value_undeclared false m s (pure.just e) = refl

top_declares : (t : Written) (m : Name) (s : Span) (e : Maybe) → names_with declares (in_top (pure.declaration t m s e)) ≡ m ∷ []
unfolding in_top
top_declares t m s e =
    flat_of_both (name_in declares) (in_written t) (occurs Declared m s ∷ (value_of (is_par t) m s e ++ in_maybe e))
    ∙ ap (λ z. z ++ names_with declares (occurs Declared m s ∷ (value_of (is_par t) m s e ++ in_maybe e))) (written_bare declares refl refl refl t)
    ∙ ap (λ z. m ∷ z) (bare_both declares refl refl refl (value_of (is_par t) m s e) (in_maybe e) (value_undeclared (is_par t) m s e) (maybe_bare declares refl refl refl e))

-- of a function's occurrences at top level only those of its name count
function_names : (has : Role → Bool) → has Used ≡ false → has Local ≡ false → has Lacking ≡ false → (f : FunctionTree) → names_with has (in_item (function f)) ≡ names_with has (of_function f.name f.span f.params)
function_names has u l k f =
    let inner = bare_both has u l k (flat_map in_parameter f.params) (in_tree f.body) (parameters_bare has u l k f.params) (expression_bare has u l k f.body) in
    flat_of_both (name_in has) (in_written f.result) (of_function f.name f.span f.params ++ (flat_map in_parameter f.params ++ in_tree f.body))
    ∙ ap (λ z. z ++ names_with has (of_function f.name f.span f.params ++ (flat_map in_parameter f.params ++ in_tree f.body))) (written_bare has u l k f.result)
    ∙ flat_of_both (name_in has) (of_function f.name f.span f.params) (flat_map in_parameter f.params ++ in_tree f.body)
    ∙ ap (λ z. names_with has (of_function f.name f.span f.params) ++ z) inner
    ∙ append-nil (names_with has (of_function f.name f.span f.params))

of_declares : (m : Name) (s : Span) (ps : List Declaration) → names_with declares (of_function m s ps) ≡ name_unless (has_parameters ps) m
of_declares m s [] = refl
of_declares m s (p ∷ ps) = refl

of_gives : (m : Name) (s : Span) (ps : List Declaration) → names_with gives (of_function m s ps) ≡ name_unless (has_parameters ps) m
of_gives m s [] = refl
of_gives m s (p ∷ ps) = refl

cases_declared : (cs : List (Name × Span)) → names_with declares (flat_map of_case cs) ≡ case_names cs
cases_declared [] = refl
cases_declared (c ∷ cs) = ap (λ z. c.0 ∷ z) (cases_declared cs)

cases_given : (cs : List (Name × Span)) → names_with gives (flat_map of_case cs) ≡ case_names cs
cases_given [] = refl
cases_given (c ∷ cs) = ap (λ z. c.0 ∷ z) (cases_given cs)

declares_item : (n : ℕ) (i : ItemTree) → count n (names_with declares (in_item i)) ≡ (count n (enum_of i) + count n (case_names (listed_cases i))) + (count n (map name_of (declared_in i)) + count n (flat_map bare_name (function_in i)))
declares_item n (include m s) = omega arith
declares_item n (declare (pure.declaration t m s e)) = let a = ap (λ z. count n z) (top_declares t m s e) in omega (arith, a)
declares_item n (assign m s e) = let a = ap (λ z. count n z) (expression_bare declares refl refl refl e) in omega (arith, a)
declares_item n (constraint e) = let a = ap (λ z. count n z) (expression_bare declares refl refl refl e) in omega (arith, a)
declares_item n (solve s g) = let a = ap (λ z. count n z) (goal_bare declares refl refl refl g) in omega (arith, a)
declares_item n (output e) = let a = ap (λ z. count n z) (expression_bare declares refl refl refl e) in omega (arith, a)
declares_item n (function f) =
    let a = ap (λ z. count n z) (function_names declares refl refl refl f ∙ of_declares f.name f.span f.params) in
    let b = counted_both n (bare_name f) [] in
    omega (arith, a, b)
declares_item n (enum m s None) = omega arith
declares_item n (enum m s (Some cs)) = let a = ap (λ z. count n z) (cases_declared cs) in omega (arith, a)
declares_item n (annotation m) = omega arith

nothing : (x : ℕ) → 0 + 0 ≤ x
nothing x = omega arith

gives_item : (n : ℕ) (i : ItemTree) → count n (case_names (listed_cases i)) + count n (flat_map bare_name (function_in i)) ≤ count n (names_with gives (in_item i))
gives_item n (include m s) = nothing (count n (names_with gives (in_item (include m s))))
gives_item n (declare d) = nothing (count n (names_with gives (in_item (declare d))))
gives_item n (assign m s e) = nothing (count n (names_with gives (in_item (assign m s e))))
gives_item n (constraint e) = nothing (count n (names_with gives (in_item (constraint e))))
gives_item n (solve s g) = nothing (count n (names_with gives (in_item (solve s g))))
gives_item n (output e) = nothing (count n (names_with gives (in_item (output e))))
gives_item n (function f) =
    let a = ap (λ z. count n z) (function_names gives refl refl refl f ∙ of_gives f.name f.span f.params) in
    let b = counted_both n (bare_name f) [] in
    omega (arith, a, b)
gives_item n (enum m s None) = nothing (count n (names_with gives (in_item (enum m s None))))
gives_item n (enum m s (Some cs)) = let a = ap (λ z. count n z) (cases_given cs) in omega (arith, a)
gives_item n (annotation m) = nothing (count n (names_with gives (in_item (annotation m))))

-- data

names_declared : (at : Span) (ns : List Name) → names_with declares (flat_map (λ c. of_case (c, at)) ns) ≡ ns
names_declared at [] = refl
names_declared at (m ∷ ns) = ap (λ z. m ∷ z) (names_declared at ns)

names_given : (at : Span) (ns : List Name) → names_with gives (flat_map (λ c. of_case (c, at)) ns) ≡ ns
names_given at [] = refl
names_given at (m ∷ ns) = ap (λ z. m ∷ z) (names_given at ns)

listed_declares : (m : Name) (at : Span) (o : Option (List Name)) → names_with declares (listed m at o) ≡ or_none o
listed_declares m at None = refl
listed_declares m at (Some ns) = names_declared at ns

listed_gives : (m : Name) (at : Span) (o : Option (List Name)) → names_with gives (listed m at o) ≡ or_none o
listed_gives m at None = refl
listed_gives m at (Some ns) = names_given at ns

declares_given : (n : ℕ) (b : Bool) (d : Given) → count n (names_with declares (in_given b d)) ≡ weigh b (count n (datum_cases d))
declares_given n true d = ap (λ z. count n z) (listed_declares d.name d.at (cases_in d.value))
declares_given n false d = refl

gives_given : (n : ℕ) (b : Bool) (d : Given) → count n (names_with gives (in_given b d)) ≡ count n (d.name ∷ []) + weigh b (count n (datum_cases d))
gives_given n true d = let a = ap (λ z. count n z) (listed_gives d.name d.at (cases_in d.value)) in omega (arith, a)
gives_given n false d = omega arith

-- the whole

counted_all : (has : Role → Bool) (n : ℕ) (is : List ItemTree) (ds : List Given) → count n (names_with has (occurrences is ds)) ≡ total (λ i. count n (names_with has (in_item i))) is + total (λ d. count n (names_with has (in_given (holds d.name (flat_map enum_of is)) d))) ds
counted_all has n is ds =
    let a = ap (λ z. count n z) (flat_of_both (name_in has) (flat_map in_item is) (flat_map (λ d. in_given (holds d.name (flat_map enum_of is)) d) ds)) in
    let b = counted_both n (names_with has (flat_map in_item is)) (names_with has (flat_map (λ d. in_given (holds d.name (flat_map enum_of is)) d) ds)) in
    let c = ap (λ z. count n z) (flat_flat (name_in has) in_item is) ∙ counted_flat n (λ i. names_with has (in_item i)) is in
    let e = ap (λ z. count n z) (flat_flat (name_in has) (λ d. in_given (holds d.name (flat_map enum_of is)) d) ds) ∙ counted_flat n (λ d. names_with has (in_given (holds d.name (flat_map enum_of is)) d)) ds in
    omega (arith, a, b, c, e)

module _ (n : ℕ) (is : List ItemTree) (ds : List Given) where
  abbrev pub enums : ℕ
  enums = total (λ i. count n (enum_of i)) is

  abbrev pub listings : ℕ
  listings = total (λ i. count n (case_names (listed_cases i))) is

  abbrev pub unlistings : ℕ
  unlistings = total (λ i. count n (case_names (unlisted_cases ds i))) is

  abbrev pub variables : ℕ
  variables = total (λ i. count n (map name_of (declared_in i))) is

  abbrev pub constants : ℕ
  constants = total (λ i. count n (flat_map bare_name (function_in i))) is

  abbrev pub data_cases : ℕ
  data_cases = total (λ d. weigh (holds d.name (flat_map enum_of is)) (count n (datum_cases d))) ds

  abbrev pub data_names : ℕ
  data_names = total (λ d. count n (d.name ∷ [])) ds

  pub declares_all : count n (names_with declares (occurrences is ds)) ≡ ((enums + listings) + (variables + constants)) + data_cases
  declares_all =
      let a = counted_all declares n is ds in
      let b = total_same (λ i. count n (names_with declares (in_item i))) (λ i. (count n (enum_of i) + count n (case_names (listed_cases i))) + (count n (map name_of (declared_in i)) + count n (flat_map bare_name (function_in i)))) is (λ i. declares_item n i) in
      let c = total_sum (λ i. count n (enum_of i) + count n (case_names (listed_cases i))) (λ i. count n (map name_of (declared_in i)) + count n (flat_map bare_name (function_in i))) is in
      let d = total_sum (λ i. count n (enum_of i)) (λ i. count n (case_names (listed_cases i))) is in
      let e = total_sum (λ i. count n (map name_of (declared_in i))) (λ i. count n (flat_map bare_name (function_in i))) is in
      let f = total_same (λ d. count n (names_with declares (in_given (holds d.name (flat_map enum_of is)) d))) (λ d. weigh (holds d.name (flat_map enum_of is)) (count n (datum_cases d))) ds (λ d. declares_given n (holds d.name (flat_map enum_of is)) d) in
      omega (arith, a, b, c, d, e, f)

  pub gives_all : (listings + constants) + (data_names + data_cases) ≤ count n (names_with gives (occurrences is ds))
  gives_all =
      let a = counted_all gives n is ds in
      let b = total_most (λ i. count n (case_names (listed_cases i)) + count n (flat_map bare_name (function_in i))) (λ i. count n (names_with gives (in_item i))) is (λ i. gives_item n i) in
      let c = total_sum (λ i. count n (case_names (listed_cases i))) (λ i. count n (flat_map bare_name (function_in i))) is in
      let f = total_same (λ d. count n (names_with gives (in_given (holds d.name (flat_map enum_of is)) d))) (λ d. count n (d.name ∷ []) + weigh (holds d.name (flat_map enum_of is)) (count n (datum_cases d))) ds (λ d. gives_given n (holds d.name (flat_map enum_of is)) d) in
      let g = total_sum (λ d. count n (d.name ∷ [])) (λ d. weigh (holds d.name (flat_map enum_of is)) (count n (datum_cases d))) ds in
      omega (arith, a, b, c, f, g)

-- enums whose cases come from data: each item of the data gives its cases to one of them at most

abbrev times : ℕ → ℕ → ℕ
times zero x = 0
times (suc k) x = x + times k x

times_sum : (j k x : ℕ) → times (j + k) x ≡ times j x + times k x
times_sum zero k x = let a : times (0 + k) x ≡ times k x = ap (λ z. times z x) (omega arith) in omega (arith, a)
times_sum (suc j) k x =
    let s : suc j + k ≡ suc (j + k) = omega arith in
    let a : times (suc j + k) x ≡ x + times (j + k) x = ap (λ z. times z x) s in
    let r = times_sum j k x in
    omega (arith, a, r)

times_total : {X : Type 0} (f : X → ℕ) (x : ℕ) (xs : List X) → total (λ i. times (f i) x) xs ≡ times (total f xs) x
times_total f x [] = refl
times_total f x (y ∷ xs) = let a = times_sum (f y) (total f xs) x in let r = times_total f x xs in omega (arith, a, r)

cases_at_counted : (n : ℕ) (at : Span) (o : Option (List Name)) → count n (case_names (cases_at at o)) ≡ count n (or_none o)
cases_at_counted n at None = refl
cases_at_counted n at (Some []) = refl
cases_at_counted n at (Some (m ∷ ms)) = let r = cases_at_counted n at (Some ms) in omega (arith, r)

datum_case : (b : Bool) (n m : ℕ) (d : Given) (later : List (Name × Span)) → nat_eq m d.name ≡ b → count n (case_names (if b then cases_at d.at (cases_in d.value) else later)) ≤ times (count d.name (m ∷ [])) (count n (datum_cases d)) + count n (case_names later)
datum_case true n m d later e =
    let a = cases_at_counted n d.at (cases_in d.value) in
    let same : nat_eq d.name m ≡ true = eq-eqb d.name m (sym (eqb-true m d.name e)) in
    let here : one_if (nat_eq d.name m) ≡ 1 = ap (λ z. one_if z) same in
    let one : count d.name (m ∷ []) ≡ 1 = omega (arith, here) in
    let t : times (count d.name (m ∷ [])) (count n (datum_cases d)) ≡ count n (datum_cases d) + 0 = ap (λ z. times z (count n (datum_cases d))) one in
    omega (arith, a, t)
datum_case false n m d later e = omega arith

nothing_more : (x : ℕ) → 0 ≤ x + 0
nothing_more x = omega arith

datum_item : (n : ℕ) (d : Given) (ds : List Given) (i : ItemTree) → count n (case_names (unlisted_cases (d ∷ ds) i)) ≤ times (count d.name (enum_of i)) (count n (datum_cases d)) + count n (case_names (unlisted_cases ds i))
unfolding given_cases
datum_item n d ds (enum m s None) = datum_case (nat_eq m d.name) n m d (given_cases m ds) refl
datum_item n d ds (enum m s (Some cs)) = nothing_more (times (count d.name (enum_of (enum m s (Some cs)))) (count n (datum_cases d)))
datum_item n d ds (include m s) = nothing_more (times (count d.name (enum_of (include m s))) (count n (datum_cases d)))
datum_item n d ds (declare e) = nothing_more (times (count d.name (enum_of (declare e))) (count n (datum_cases d)))
datum_item n d ds (assign m s e) = nothing_more (times (count d.name (enum_of (assign m s e))) (count n (datum_cases d)))
datum_item n d ds (constraint e) = nothing_more (times (count d.name (enum_of (constraint e))) (count n (datum_cases d)))
datum_item n d ds (solve s g) = nothing_more (times (count d.name (enum_of (solve s g))) (count n (datum_cases d)))
datum_item n d ds (output e) = nothing_more (times (count d.name (enum_of (output e))) (count n (datum_cases d)))
datum_item n d ds (function f) = nothing_more (times (count d.name (enum_of (function f))) (count n (datum_cases d)))
datum_item n d ds (annotation m) = nothing_more (times (count d.name (enum_of (annotation m))) (count n (datum_cases d)))

nothing_item : (n : ℕ) (i : ItemTree) → count n (case_names (unlisted_cases [] i)) ≡ 0
unfolding given_cases
nothing_item n (enum m s None) = refl
nothing_item n (enum m s (Some cs)) = refl
nothing_item n (include m s) = refl
nothing_item n (declare e) = refl
nothing_item n (assign m s e) = refl
nothing_item n (constraint e) = refl
nothing_item n (solve s g) = refl
nothing_item n (output e) = refl
nothing_item n (function f) = refl
nothing_item n (annotation m) = refl

total_none : {X : Type 0} (f : X → ℕ) (xs : List X) → ((x : X) → f x ≡ 0) → total f xs ≡ 0
total_none f [] e = refl
total_none f (x ∷ xs) e = let a = e x in let r = total_none f xs e in omega (arith, a, r)

weighed : (b : Bool) (c x : ℕ) → (b ≡ false → c ≡ 0) → c ≤ 1 → times c x ≤ weigh b x
weighed false c x e l =
    let z : c ≡ 0 = e refl in
    let t : times c x ≡ 0 = ap (λ w. times w x) z in
    omega (arith, t)
weighed true zero x e l = omega arith
weighed true (suc zero) x e l = omega arith
weighed true (suc (suc c)) x e l = absurd (omega (arith, l))

pub unlisted_most : (n : ℕ) (is : List ItemTree) (ds : List Given) → ((m : ℕ) → total (λ i. count m (enum_of i)) is ≤ 1) → total (λ i. count n (case_names (unlisted_cases ds i))) is ≤ total (λ d. weigh (holds d.name (flat_map enum_of is)) (count n (datum_cases d))) ds
unlisted_most n is [] h = let a = total_none (λ i. count n (case_names (unlisted_cases [] i))) is (λ i. nothing_item n i) in omega (arith, a)
unlisted_most n is (d ∷ ds) h =
    let a = total_most (λ i. count n (case_names (unlisted_cases (d ∷ ds) i))) (λ i. times (count d.name (enum_of i)) (count n (datum_cases d)) + count n (case_names (unlisted_cases ds i))) is (λ i. datum_item n d ds i) in
    let b = total_sum (λ i. times (count d.name (enum_of i)) (count n (datum_cases d))) (λ i. count n (case_names (unlisted_cases ds i))) is in
    let c = times_total (λ i. count d.name (enum_of i)) (count n (datum_cases d)) is in
    let k = counted_flat d.name enum_of is in
    let w = weighed (holds d.name (flat_map enum_of is)) (total (λ i. count d.name (enum_of i)) is) (count n (datum_cases d)) (λ e. let z = none_counted d.name (flat_map enum_of is) e in omega (arith, z, k)) (h d.name) in
    let r = unlisted_most n is ds h in
    omega (arith, a, b, c, w, r)

-- the names of enums with their cases
enum_item : (n : ℕ) (ds : List Given) (i : ItemTree) → count n (flat_map enum_names (enum_in ds i)) ≡ (count n (enum_of i) + count n (case_names (listed_cases i))) + count n (case_names (unlisted_cases ds i))
enum_item n ds (enum m s None) = let a = counted_both n (m ∷ case_names (given_cases m ds)) [] in omega (arith, a)
enum_item n ds (enum m s (Some cs)) = let a = counted_both n (m ∷ case_names cs) [] in omega (arith, a)
enum_item n ds (include m s) = omega arith
enum_item n ds (declare e) = omega arith
enum_item n ds (assign m s e) = omega arith
enum_item n ds (constraint e) = omega arith
enum_item n ds (solve s g) = omega arith
enum_item n ds (output e) = omega arith
enum_item n ds (function f) = omega arith
enum_item n ds (annotation m) = omega arith

pub enums_all : (n : ℕ) (is : List ItemTree) (ds : List Given) → count n (flat_map enum_names (enums_of is ds)) ≡ (total (λ i. count n (enum_of i)) is + total (λ i. count n (case_names (listed_cases i))) is) + total (λ i. count n (case_names (unlisted_cases ds i))) is
enums_all n is ds =
    let a = ap (λ z. count n z) (flat_flat enum_names (enum_in ds) is) in
    let b = counted_flat n (λ i. flat_map enum_names (enum_in ds i)) is in
    let c = total_same (λ i. count n (flat_map enum_names (enum_in ds i))) (λ i. (count n (enum_of i) + count n (case_names (listed_cases i))) + count n (case_names (unlisted_cases ds i))) is (λ i. enum_item n ds i) in
    let d = total_sum (λ i. count n (enum_of i) + count n (case_names (listed_cases i))) (λ i. count n (case_names (unlisted_cases ds i))) is in
    let e = total_sum (λ i. count n (enum_of i)) (λ i. count n (case_names (listed_cases i))) is in
    omega (arith, a, b, c, d, e)
