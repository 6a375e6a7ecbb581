-- The names of a model: the values of an assignment, and those of the parts.
use Rattle.std.proofs.Common.{◌≡◌, ◌∙◌, ℕ, suc, ℤ, Bool, true, false, ◌&&◌, List, [], ◌∷◌, ◌++◌, length, map, Option, Some, None, refl, sym, ap, subst, append-nil, arith}
use Rattle.std.specs.List.{flat_map}
use Rattle.std.proofs.lemmas.Bool.{and_parts}
use Rattle.std.specs.Ordering.{int_eq}
use Rattle.std.proofs.lemmas.Bool.Decides.{Decides-int_eq}
use Rattle.mz_value.specs.Ranges.{Range}
use Rattle.mz_value.specs.Contents.{Content, Contents, contents}
use Rattle.mz_value.specs.Contents as values
use Rattle.mz_operations.specs.Views.{items_in}
use Rattle.mz_operations.specs.Sets.{same_set}
use Rattle.mz_arena.specs.Values.{Values}
use Rattle.mz_meaning.specs.Domains.{Domain, Domains, Fixed, Scalar, Places, lies_in, all_lie_in, holds}
use Rattle.mz_meaning.specs.Walk.{Assignment, Declared}
use Rattle.mz_meaning.specs.Solutions.{Each, IsInside}
use Rattle.mz_instance.specs.Parts.{AllFit}
use Rattle.mz_model_meaning.specs.Decoded.{part_of, domain_parts, all_parts, after_domains, AreShaped, cell_content, cell_contents, Named, named, domains_in, model_domains, TellsName, Tells, Fit}
use Rattle.mz_headline.proofs.Cells.{cell_lies}
use Rattle.mz_headline.proofs.Rows.{contents_lie, shaped_first, shaped_rest, fits_split, contents_both, lie_both, lie_count, same_count, halves}

-- ---- lists of contents, and index ranges

items_back : (xs : List Content) → items_in (contents xs) ≡ xs
items_back [] = refl
items_back (x ∷ xs) = ap (λ ys. x ∷ ys) (items_back xs)

back_items : (xs : Contents) → contents (items_in xs) ≡ xs
back_items values.none = refl
back_items (values.more x xs) = ap (λ ys. values.more x ys) (back_items xs)

ranges_same : (u : List Range) → same_set u u ≡ true
unfolding same_set
ranges_same [] = refl
ranges_same (r ∷ rs) = rw (equal r.0, equal r.1, ranges_same rs) refl
  where
    equal : (n : ℤ) → int_eq n n ≡ true
    equal n = (Decides-int_eq n n).1 refl

same_ranges : (u s : List Range) → same_set u s ≡ true → u ≡ s
unfolding same_set
same_ranges [] [] same = refl
same_ranges [] (s ∷ ss) same = absurd (cc)
same_ranges (r ∷ rs) [] same = absurd (cc)
same_ranges (r ∷ rs) (s ∷ ss) same =
    let first = and_parts (int_eq r.0 s.0 && int_eq r.1 s.1) (same_set rs ss) same in
    let ends = and_parts (int_eq r.0 s.0) (int_eq r.1 s.1) first.0 in
    let low = (Decides-int_eq r.0 s.0).0 ends.0 in
    let high = (Decides-int_eq r.1 s.1).0 ends.1 in
    let rest = same_ranges rs ss first.1 in
    let here : r ≡ s = ap (λ n. (n, r.1)) low ∙ ap (λ n. (s.0, n)) high in
    cc

-- ---- what is told lies inside

name_inside : (slot : ℕ) (ds : Domains) (k : ℕ) (x : Values) (a : Assignment) → AreShaped (domains_in ds) → TellsName slot ds k x a → AllFit (all_parts (domains_in ds)) k x → holds ds (a slot) ≡ true
name_inside slot Fixed k x a shaped tells fits = refl
name_inside slot (Scalar d) k x a shaped tells fits = ap (holds (Scalar d)) tells ∙ cell_lies d k x shaped.0 (subst (λ ps. AllFit ps k x) (append-nil (domain_parts d)) fits)
name_inside slot (Places ix ds) k x a shaped tells fits =
    let lie : all_lie_in ds (items_in (contents (cell_contents ds k x))) ≡ true = ap (all_lie_in ds) (items_back (cell_contents ds k x)) ∙ contents_lie ds k x shaped fits in
    ap (holds (Places ix ds)) tells ∙ rw (ranges_same ix, lie) refl

pub all_inside : (xs : List Declared) (ns : List Named) (k : ℕ) (x : Values) (a : Assignment) → map named xs ≡ ns → AreShaped (model_domains ns) → Tells ns k x a → AllFit (all_parts (model_domains ns)) k x → Each (IsInside a) xs
all_inside [] ns k x a names shaped tells fits = tt
all_inside (y ∷ xs) [] k x a names shaped tells fits = absurd (cc)
all_inside (y ∷ xs) (n ∷ ns) k x a names shaped tells fits =
    let first : named y ≡ n = cc in
    let ds = domains_in n.domains in
    let both = fits_split ds (model_domains ns) k x fits in (
      subst (λ (n : Named). holds n.domains (a n.slot) ≡ true) (sym first) (name_inside n.slot n.domains k x a (shaped_first ds (model_domains ns) shaped) tells.0 both.0),
      all_inside xs ns (after_domains ds k) x a (cc) (shaped_rest ds (model_domains ns) shaped) tells.1 both.1,
    )

-- ---- what lies inside is told by any values that stand for its contents

abbrev pub name_contents : Domains → Option Content → List Content
name_contents (Scalar d) (Some c) = c ∷ []
name_contents (Places ix ds) (Some (values.array jx xs)) = items_in xs
name_contents ds v = []

abbrev pub model_contents : List Named → Assignment → List Content
model_contents ns a = flat_map (λ n. name_contents n.domains (a n.slot)) ns

record HasContents (slot : ℕ) (ds : Domains) (v : Option Content) (a : Assignment) : Type 0 where
  lie : all_lie_in (domains_in ds) (name_contents ds v) ≡ true
  tells : (k : ℕ) (x : Values) → cell_contents (domains_in ds) k x ≡ name_contents ds v → TellsName slot ds k x a

has_contents : (slot : ℕ) (ds : Domains) (v : Option Content) (a : Assignment) → a slot ≡ v → holds ds v ≡ true → HasContents slot ds v a
unfolding all_lie_in
has_contents slot Fixed v a e inside = record { lie = refl; tells = λ k x same. tt }
has_contents slot (Scalar d) None a e inside = absurd (cc)
has_contents slot (Scalar d) (Some c) a e inside = record { lie = rw (inside) refl; tells = λ k x same. let first : cell_content d k x ≡ c = cc in e ∙ ap (λ c. Some c) (sym first) }
has_contents slot (Places ix ds) None a e inside = absurd (cc)
has_contents slot (Places ix ds) (Some (values.array jx xs)) a e inside =
    let both = and_parts (same_set ix jx) (all_lie_in ds (items_in xs)) inside in
    record { lie = both.1; tells = λ k x same. e ∙ ap (λ jx. Some (values.array jx xs)) (sym (same_ranges ix jx both.0)) ∙ ap (λ ys. Some (values.array ix ys)) (sym (back_items xs) ∙ ap contents (sym same)) }
has_contents slot (Places ix ds) (Some (values.bool b)) a e inside = absurd (cc)
has_contents slot (Places ix ds) (Some (values.int n)) a e inside = absurd (cc)
has_contents slot (Places ix ds) (Some (values.case f n)) a e inside = absurd (cc)
has_contents slot (Places ix ds) (Some (values.set f n)) a e inside = absurd (cc)
has_contents slot (Places ix ds) (Some values.absent) a e inside = absurd (cc)
has_contents slot (Places ix ds) (Some (values.text n)) a e inside = absurd (cc)

inside_name : (y : Declared) (n : Named) (a : Assignment) → named y ≡ n → IsInside a y → holds n.domains (a n.slot) ≡ true
inside_name y n a first inside = subst (λ (n : Named). holds n.domains (a n.slot) ≡ true) first inside

pub model_lies : (xs : List Declared) (ns : List Named) (a : Assignment) → map named xs ≡ ns → Each (IsInside a) xs → all_lie_in (model_domains ns) (model_contents ns a) ≡ true
unfolding all_lie_in
model_lies [] [] a names inside = refl
model_lies [] (n ∷ ns) a names inside = absurd (cc)
model_lies (y ∷ xs) [] a names inside = absurd (cc)
model_lies (y ∷ xs) (n ∷ ns) a names inside =
    let first : named y ≡ n = cc in
    let here = has_contents n.slot n.domains (a n.slot) a refl (inside_name y n a first inside.0) in
    lie_both (domains_in n.domains) (model_domains ns) (name_contents n.domains (a n.slot)) (model_contents ns a) here.lie (model_lies xs ns a (cc) inside.1)

pub model_tells : (xs : List Declared) (ns : List Named) (a : Assignment) (k : ℕ) (x : Values) → map named xs ≡ ns → Each (IsInside a) xs → cell_contents (model_domains ns) k x ≡ model_contents ns a → Tells ns k x a
model_tells [] [] a k x names inside same = tt
model_tells [] (n ∷ ns) a k x names inside same = absurd (cc)
model_tells (y ∷ xs) [] a k x names inside same = absurd (cc)
model_tells (y ∷ xs) (n ∷ ns) a k x names inside same =
    let first : named y ≡ n = cc in
    let ds = domains_in n.domains in
    let vs = name_contents n.domains (a n.slot) in
    let here = has_contents n.slot n.domains (a n.slot) a refl (inside_name y n a first inside.0) in
    let both = halves (cell_contents ds k x) vs (cell_contents (model_domains ns) (after_domains ds k) x) (model_contents ns a) (lie_count ds vs k x here.lie) (sym (contents_both ds (model_domains ns) k x) ∙ same) in
    (here.tells k x both.0, model_tells xs ns a (after_domains ds k) x (cc) inside.1 both.1)

-- ---- an assignment is told by all values that stand for the same contents

name_told : (slot : ℕ) (ds : Domains) (k : ℕ) (x y : Values) (a : Assignment) → cell_contents (domains_in ds) k x ≡ cell_contents (domains_in ds) k y → TellsName slot ds k x a → TellsName slot ds k y a
name_told slot Fixed k x y a same tells = tt
name_told slot (Scalar d) k x y a same tells = let first : cell_content d k x ≡ cell_content d k y = cc in tells ∙ ap (λ c. Some c) first
name_told slot (Places ix ds) k x y a same tells = tells ∙ ap (λ cs. Some (values.array ix (contents cs))) same

pub tells_by : (ns : List Named) (k : ℕ) (x y : Values) (a : Assignment) → cell_contents (model_domains ns) k x ≡ cell_contents (model_domains ns) k y → Tells ns k x a → Tells ns k y a
tells_by [] k x y a same tells = tt
tells_by (n ∷ ns) k x y a same tells =
    let ds = domains_in n.domains in
    let j = after_domains ds k in
    let both = halves (cell_contents ds k x) (cell_contents ds k y) (cell_contents (model_domains ns) j x) (cell_contents (model_domains ns) j y) (same_count ds k x y) (sym (contents_both ds (model_domains ns) k x) ∙ same ∙ contents_both ds (model_domains ns) k y) in
    (name_told n.slot n.domains k x y a both.0 tells.0, tells_by ns j x y a both.1 tells.1)

name_same : (slot : ℕ) (ds : Domains) (k : ℕ) (x y : Values) (a : Assignment) → TellsName slot ds k x a → TellsName slot ds k y a → cell_contents (domains_in ds) k x ≡ cell_contents (domains_in ds) k y
name_same slot Fixed k x y a h i = refl
name_same slot (Scalar d) k x y a h i = let e = sym h ∙ i in let first : cell_content d k x ≡ cell_content d k y = cc in ap (λ c. c ∷ []) first
name_same slot (Places ix ds) k x y a h i =
    let e = sym h ∙ i in
    let all : contents (cell_contents ds k x) ≡ contents (cell_contents ds k y) = cc in
    sym (items_back (cell_contents ds k x)) ∙ ap items_in all ∙ items_back (cell_contents ds k y)

pub tells_same : (ns : List Named) (k : ℕ) (x y : Values) (a : Assignment) → Tells ns k x a → Tells ns k y a → cell_contents (model_domains ns) k x ≡ cell_contents (model_domains ns) k y
tells_same [] k x y a h i = refl
tells_same (n ∷ ns) k x y a h i =
    let ds = domains_in n.domains in
    let j = after_domains ds k in
    contents_both ds (model_domains ns) k x
    ∙ ap (λ cs. cs ++ cell_contents (model_domains ns) j x) (name_same n.slot n.domains k x y a h.0 i.0)
    ∙ ap (λ cs. cell_contents ds k y ++ cs) (tells_same ns j x y a h.1 i.1)
    ∙ sym (contents_both ds (model_domains ns) k y)
