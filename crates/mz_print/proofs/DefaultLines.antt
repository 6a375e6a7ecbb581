-- The lines of variables are the default text.
use Rattle.std.proofs.Common.{◌≡◌, ◌∙◌, ℕ, zero, suc, ◌+◌, ◌<◌, ◌≤◌, List, [], ◌∷◌, ◌++◌, length, drop, get_or, map, Bool, true, false, Option, Some, None, nat_eq, slice_get, slice_index, if◌then◌else◌, refl, sym, ap, arith, subst}
use Rattle.std.proofs.lemmas.List.{append-nil, append_assoc}
use Rattle.std.specs.List.{flat_map}
use Rattle.std.specs.Option.{option_map}
use Rattle.mz_base.specs.Names.{text_of}
use Rattle.mz_value.specs.Contents.{Content}
use Rattle.mz_value.specs.Shown.{Names}
use Rattle.mz_core.specs.Tree.{Decl}
use Rattle.mz_print.specs.Output.{assigned, default_line, default_of, is_shown}
use Rattle.mz_print.specs.declared.lines.Line.{Line}
use Rattle.mz_print.specs.Lines.{place_of, value_at, line_at, line_of, lines_of, line_text, AreTheDefault}

-- ---- places

no_value : (o : Option ℕ) → value_at [] o ≡ None
no_value None = refl
no_value (Some zero) = refl
no_value (Some (suc k)) = refl

next_value : (v : Content) (vs : List Content) (o : Option ℕ) → value_at (v ∷ vs) (option_map (λ k. suc k) o) ≡ value_at vs o
next_value v vs None = refl
next_value v vs (Some k) = refl

with_first : (b : Bool) (v : Content) (vs : List Content) (r : Option Content) (o : Option ℕ) → r ≡ value_at vs o → (if b then Some v else r) ≡ value_at (v ∷ vs) (if b then Some 0 else option_map (λ k. suc k) o)
with_first true v vs r o h = refl
with_first false v vs r o h = h ∙ sym (next_value v vs o)

-- what a solution assigns to a slot stands at its place
pub assigned_at : (ss : List ℕ) (vs : List Content) (s : ℕ) → assigned ss vs s ≡ value_at vs (place_of s ss)
unfolding assigned place_of
assigned_at [] vs s = refl
assigned_at (t ∷ ts) [] s = sym (no_value (place_of s (t ∷ ts)))
assigned_at (t ∷ ts) (v ∷ vs) s = with_first (nat_eq t s) v vs (assigned ts vs s) (place_of s ts) (assigned_at ts vs s)

-- ---- lines

one_line : (table : List (List ℕ)) (names : Names) (vs : List Content) (name : ℕ) (o : Option ℕ) → default_line names (text_of table name) (value_at vs o) ≡ flat_map (line_text table names vs) (line_at name o)
one_line table names vs name None = refl
one_line table names vs name (Some k) = sym (append-nil (default_line names (text_of table name) (slice_get vs k)))

if_shown : (b : Bool) (t u : List ℕ) (f : Line → List ℕ) (ls : List Line) → t ≡ flat_map f ls → (if b then t else []) ≡ flat_map f (if b then ls else [])
if_shown true t u f ls h = h
if_shown false t u f ls h = refl

decl_line : (table : List (List ℕ)) (names : Names) (ss : List ℕ) (vs : List Content) (d : Decl) → default_of table names (assigned ss vs) d ≡ flat_map (line_text table names vs) (line_of ss d)
decl_line table names ss vs d =
    let f = line_text table names vs in
    if_shown (is_shown d) (default_line names (text_of table d.name) (assigned ss vs d.slot)) [] f (line_at d.name (place_of d.slot ss))
    (ap (λ v. default_line names (text_of table d.name) v) (assigned_at ss vs d.slot) ∙ one_line table names vs d.name (place_of d.slot ss))

flat_append : (f : Line → List ℕ) (xs ys : List Line) → flat_map f (xs ++ ys) ≡ flat_map f xs ++ flat_map f ys
flat_append f [] ys = refl
flat_append f (x ∷ xs) ys = ap (λ zs. f x ++ zs) (flat_append f xs ys) ∙ sym (append_assoc (f x) (flat_map f xs) (flat_map f ys))

all_lines : (table : List (List ℕ)) (names : Names) (ss : List ℕ) (vs : List Content) (ds : List Decl) → flat_map (default_of table names (assigned ss vs)) ds ≡ flat_map (line_text table names vs) (lines_of ss ds)
all_lines table names ss vs [] = refl
all_lines table names ss vs (d ∷ ds) =
    ap (λ t. t ++ flat_map (default_of table names (assigned ss vs)) ds) (decl_line table names ss vs d)
    ∙ (ap (λ t. flat_map (line_text table names vs) (line_of ss d) ++ t) (all_lines table names ss vs ds)
    ∙ sym (flat_append (line_text table names vs) (line_of ss d) (lines_of ss ds)))

pub are_the_default : AreTheDefault
are_the_default table p ss vs = all_lines table p.cases ss vs p.decls

-- ---- the search for a place

-- a place that is found after k others
pub after_others : ℕ → Option ℕ → Option ℕ
after_others k None = None
after_others k (Some j) = Some (k + j)

others_more : (k : ℕ) (o : Option ℕ) → after_others k (option_map (λ j. suc j) o) ≡ after_others (k + 1) o
unfolding after_others
others_more k None = refl
others_more k (Some j) = ap Some (omega arith)

rest_place : (b : Bool) (k : ℕ) (o : Option ℕ) → b ≡ false → after_others k (if b then Some 0 else option_map (λ j. suc j) o) ≡ after_others (k + 1) o
rest_place false k o h = others_more k o
rest_place true k o h = cc

none_others : (o : Option ℕ) → after_others 0 o ≡ o
unfolding after_others
none_others None = refl
none_others (Some j) =
    let z : 0 + j ≡ j = omega arith in
    ap Some z

pub place_begins : (s : ℕ) (ss : List ℕ) → after_others 0 (place_of s ss) ≡ place_of s ss
place_begins s ss = none_others (place_of s ss)

index_is : (ss : List ℕ) (k : ℕ) → k < length ss → drop k ss ≡ slice_index ss k ∷ drop (suc k) ss
index_is [] k l = absurd (omega arith)
index_is (s ∷ ss) zero l = refl
index_is (s ∷ ss) (suc k) l = index_is ss k (omega arith)

pub place_goes_on : (s : ℕ) (ss : List ℕ) (k : ℕ) → k < length ss → nat_eq (slice_index ss k) s ≡ false → after_others k (place_of s (drop k ss)) ≡ place_of s ss → after_others (k + 1) (place_of s (drop (k + 1) ss)) ≡ place_of s ss
unfolding place_of
place_goes_on s ss k l other h =
    let m : suc k ≡ k + 1 = omega arith in
    subst (λ n. after_others (k + 1) (place_of s (drop n ss)) ≡ place_of s ss) m
    (sym (rest_place (nat_eq (slice_index ss k) s) k (place_of s (drop (suc k) ss)) other)
    ∙ (sym (ap (λ ts. after_others k (place_of s ts)) (index_is ss k l)) ∙ h))

found_here : (b : Bool) (k : ℕ) (o : Option ℕ) → b ≡ true → after_others k (if b then Some 0 else option_map (λ j. suc j) o) ≡ Some (k + 0)
unfolding after_others
found_here true k o h = refl
found_here false k o h = cc

pub place_is_here : (s : ℕ) (ss : List ℕ) (k : ℕ) → k < length ss → nat_eq (slice_index ss k) s ≡ true → after_others k (place_of s (drop k ss)) ≡ place_of s ss → Some k ≡ place_of s ss
unfolding place_of
place_is_here s ss k l same h =
    let z : k + 0 ≡ k = omega arith in
    ap Some (sym z)
    ∙ (sym (found_here (nat_eq (slice_index ss k) s) k (place_of s (drop (suc k) ss)) same)
    ∙ (sym (ap (λ ts. after_others k (place_of s ts)) (index_is ss k l)) ∙ h))

pub no_place : (s : ℕ) (ss : List ℕ) (k : ℕ) → length ss ≤ k → after_others k (place_of s (drop k ss)) ≡ place_of s ss → None ≡ place_of s ss
unfolding place_of after_others
no_place s ss k l h = sym (ap (λ ts. after_others k (place_of s ts)) (nothing ss k l)) ∙ h
  where
    nothing : (xs : List ℕ) (k : ℕ) → length xs ≤ k → drop k xs ≡ []
    nothing [] zero l = refl
    nothing [] (suc k) l = refl
    nothing (x ∷ xs) zero l = absurd (omega arith)
    nothing (x ∷ xs) (suc k) l = nothing xs k (omega arith)

-- ---- a line's value

seen_there : {X Y : Type 0} (f : X → Y) (xs : List X) (k : ℕ) (x : X) → k < length xs → x ≡ get_or xs k x → slice_get (map f xs) k ≡ Some (f x)
seen_there f [] k x l is = absurd (omega arith)
seen_there f (y ∷ ys) zero x l is = ap (λ z. Some (f z)) (sym is)
seen_there f (y ∷ ys) (suc k) x l is = seen_there f ys k x (omega arith) is

pub line_given : {X : Type 0} (f : X → Content) (table : List (List ℕ)) (names : Names) (xs : List X) (line : Line) (x : X) (label : List ℕ) → label ≡ text_of table line.name → line.value < length xs → x ≡ get_or xs line.value x → default_line names label (Some (f x)) ≡ line_text table names (map f xs) line
line_given f table names xs line x label is l at =
    ap (λ t. default_line names t (Some (f x))) is
    ∙ ap (λ o. default_line names (text_of table line.name) o) (sym (seen_there f xs line.value x l at))

not_there : {X Y : Type 0} (f : X → Y) (xs : List X) (k : ℕ) → length xs ≤ k → slice_get (map f xs) k ≡ None
not_there f [] k l = refl
not_there f (x ∷ xs) zero l = absurd (omega arith)
not_there f (x ∷ xs) (suc k) l = not_there f xs k (omega arith)

pub line_missing : {X : Type 0} (f : X → Content) (table : List (List ℕ)) (names : Names) (xs : List X) (line : Line) (out : List ℕ) → length xs ≤ line.value → out ≡ out ++ line_text table names (map f xs) line
line_missing f table names xs line out l =
    sym (append-nil out) ∙ ap (λ o. out ++ default_line names (text_of table line.name) o) (sym (not_there f xs line.value l))
