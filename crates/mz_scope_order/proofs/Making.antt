-- What code makes for each sketch: loops, rows, and the graphs that are made of them.
use Rattle.std.proofs.Common.{◌≡◌, ℕ, ◌+◌, ◌-◌, ◌<◌, ◌≤◌, Bool, true, false, List, [], ◌∷◌, ◌++◌, ap, sym, ◌∙◌, map, length, drop, get_or, append_assoc, append-nil, replicate, subst, arith}
use Rattle.std.specs.Prelude.{if◌then◌else◌, Option, Some, None, MatchOption}
use Rattle.std.proofs.lemmas.List.{drop_more, length-map, drop_all}
use Rattle.mz_graph.specs.Graph.{Graph, number_of}
use Rattle.mz_graph.proofs.Membership.{one_longer}
use Rattle.mz_graph.specs.Members.{AreMembers}
use Rattle.mz_graph.specs.Depends.{NoneOnCycle, IsFirstOnCycle}
use Rattle.mz_graph.specs.Evaluation.{IsEvaluation}
use Rattle.mz_graph.specs.declared.evaluation.Evaluation.{Evaluation}
use Rattle.mz_scope_names.specs.Sets.{holds, with_name}
use Rattle.mz_scope_names.specs.declared.sketch.Sketch.{Sketch as CodeSketch}
use Rattle.mz_scope_names.specs.Sketches.{Sketch, sketch}
use Rattle.mz_scope_order.specs.Dependencies.{meant_by}
use Rattle.mz_scope_order.specs.StepsPlaces.{if_in, names_in, callee, or_zero}
use Rattle.mz_scope_order.specs.StepsGraphs.{name_count, base_of, numbers_of, numbers_by, call_rows, mention_rows, type_rows, HasMembers, HasMembersBetween, AreGraphs}
use Rattle.mz_scope_order.specs.StepsSubjects.{StandOnce, AreSubjects}
use Rattle.mz_scope_order.specs.Subjects.{Subject}
use Rattle.mz_scope_order.proofs.Building.{number_counted}

-- a loop that makes one thing for each sketch

pub one_made : {R : Type 0} (f : Sketch → R) (all so_far now : List R) (r : R) (xs : List CodeSketch) (i : ℕ) (x : CodeSketch) → all ≡ so_far ++ map f (map sketch (drop i xs)) → i < length xs → x ≡ get_or xs i x → r ≡ f (sketch x) → now ≡ so_far ++ r ∷ [] → all ≡ now ++ map f (map sketch (drop (i + 1) xs))
one_made f all so_far now r xs i x k l e is n =
    k ∙ ap (λ z. so_far ++ map f (map sketch z)) (drop_more xs i x l ∙ ap (λ z. z ∷ drop (i + 1) xs) (sym e))
    ∙ ap (λ z. so_far ++ z ∷ map f (map sketch (drop (i + 1) xs))) (sym is)
    ∙ sym (append_assoc so_far (r ∷ []) (map f (map sketch (drop (i + 1) xs))))
    ∙ ap (λ z. z ++ map f (map sketch (drop (i + 1) xs))) (sym n)

pub all_made : {R : Type 0} (f : Sketch → R) (all so_far : List R) (xs : List CodeSketch) (i : ℕ) → all ≡ so_far ++ map f (map sketch (drop i xs)) → length xs ≤ i → so_far ≡ all
all_made f all so_far xs i k l = sym (k ∙ ap (λ z. so_far ++ map f (map sketch z)) (drop_all i xs l) ∙ append-nil so_far)

-- names are at most as many as those that have them

with_case : (b : Bool) (n : ℕ) (ns : List ℕ) → length (if b then ns else ns ++ n ∷ []) ≤ length ns + 1
with_case true n ns = omega arith
with_case false n ns = let l = one_longer ns n in omega (arith, l)

with_short : (n : ℕ) (ns : List ℕ) → length (with_name ns n) ≤ length ns + 1
with_short n ns = with_case (holds n ns) n ns

if_case : (b : Bool) (xs ys : List ℕ) (n : ℕ) → length xs ≤ n → length ys ≤ n → length (if b then xs else ys) ≤ n
if_case true xs ys n p q = p
if_case false xs ys n p q = q

if_short : (applied : Bool) (ns : List ℕ) (s : Sketch) → length (if_in applied ns s) ≤ length ns + 1
if_short true ns s = if_case s.applied (with_name ns s.name) ns (length ns + 1) (with_short s.name ns) (omega arith)
if_short false ns s = if_case s.applied ns (with_name ns s.name) (length ns + 1) (omega arith) (with_short s.name ns)

names_short_from : (applied : Bool) (ns : List ℕ) (ss : List Sketch) → length (names_in applied ns ss) ≤ length ns + length ss
unfolding names_in
names_short_from applied ns [] = omega arith
names_short_from applied ns (s ∷ ss) = let a = if_short applied ns s in let b = names_short_from applied (if_in applied ns s) ss in omega (arith, a, b)

pub names_short : (applied : Bool) (ns : List ℕ) (xs : List CodeSketch) → ns ≡ names_in applied [] (map sketch xs) → length ns ≤ length xs
names_short applied ns xs e = let a = names_short_from applied [] (map sketch xs) in let b = length-map xs sketch in let c = ap length e in omega (arith, a, b, c)

numbers_sized : (ss : List Sketch) → length (numbers_of ss) ≡ length ss
numbers_sized ss = length-map ss (λ s. or_zero (callee (names_in false [] ss) (names_in true [] ss) (meant_by s)))

-- the numbers of functions' names are numbers of names
pub numbered : (bare applied of : List ℕ) (count : ℕ) (functions : List CodeSketch) → bare ≡ names_in false [] (map sketch functions) → applied ≡ names_in true [] (map sketch functions) → of ≡ numbers_by bare applied (map sketch functions) → count ≡ length bare + length applied → (f : ℕ) → f < length of → number_of of f < count
numbered bare applied of count functions p q r c f l =
    let is : of ≡ numbers_of (map sketch functions) = r ∙ ap (λ z. numbers_by z applied (map sketch functions)) p ∙ ap (λ z. numbers_by (names_in false [] (map sketch functions)) z (map sketch functions)) q in
    let counted : f < length (map sketch functions) = let a = ap length is in let b = numbers_sized (map sketch functions) in omega (arith, a, b, l) in
    let n = number_counted (map sketch functions) f counted in
    let same : number_of of f ≡ number_of (numbers_of (map sketch functions)) f = ap (λ z. number_of z f) is in
    let w : count ≡ name_count (map sketch functions) = c ∙ ap (λ z. length z + length applied) p ∙ ap (λ z. length (names_in false [] (map sketch functions)) + length z) q in
    omega (arith, n, same, w)

-- members after a graph that is known
pub members_after : (own rows : Graph) (of : List ℕ) (count : ℕ) (g : Graph) → own ≡ rows → HasMembers own of count g → HasMembers rows of count g
members_after own rows of count g e h = subst (λ z. HasMembers z of count g) e h

-- the graphs, by what they are made of

module _ (decls functions : List CodeSketch) (bare applied named of : List ℕ) (first count base : ℕ) (p : bare ≡ names_in false [] (map sketch functions)) (q : applied ≡ names_in true [] (map sketch functions)) (m : named ≡ names_in false [] (map sketch decls)) (r : of ≡ numbers_by bare applied (map sketch functions)) (f : first ≡ length functions) (n : count ≡ length bare + length applied) (b : base ≡ first + count) where
  first_is : first ≡ length (map sketch functions)
  first_is = f ∙ sym (length-map functions sketch)

  count_is : count ≡ name_count (map sketch functions)
  count_is = n ∙ ap (λ z. length z + length applied) p ∙ ap (λ z. length (names_in false [] (map sketch functions)) + length z) q

  base_is : base ≡ base_of (map sketch functions)
  base_is = b ∙ ap (λ z. z + count) first_is ∙ ap (λ z. length (map sketch functions) + z) count_is

  of_is : of ≡ numbers_of (map sketch functions)
  of_is = r ∙ ap (λ z. numbers_by z applied (map sketch functions)) p ∙ ap (λ z. numbers_by (names_in false [] (map sketch functions)) z (map sketch functions)) q

  calls_same : (ss : List Sketch) → call_rows first bare applied ss ≡ call_rows (length (map sketch functions)) (names_in false [] (map sketch functions)) (names_in true [] (map sketch functions)) ss
  calls_same ss =
      ap (λ z. call_rows z bare applied ss) first_is
      ∙ ap (λ z. call_rows (length (map sketch functions)) z applied ss) p
      ∙ ap (λ z. call_rows (length (map sketch functions)) (names_in false [] (map sketch functions)) z ss) q

  types_same : (ss : List Sketch) → type_rows first base bare applied named ss ≡ type_rows (length (map sketch functions)) (base_of (map sketch functions)) (names_in false [] (map sketch functions)) (names_in true [] (map sketch functions)) (names_in false [] (map sketch decls)) ss
  types_same ss =
      ap (λ z. type_rows z base bare applied named ss) first_is
      ∙ ap (λ z. type_rows (length (map sketch functions)) z bare applied named ss) base_is
      ∙ ap (λ z. type_rows (length (map sketch functions)) (base_of (map sketch functions)) z applied named ss) p
      ∙ ap (λ z. type_rows (length (map sketch functions)) (base_of (map sketch functions)) (names_in false [] (map sketch functions)) z named ss) q
      ∙ ap (λ z. type_rows (length (map sketch functions)) (base_of (map sketch functions)) (names_in false [] (map sketch functions)) (names_in true [] (map sketch functions)) z ss) m

  members_same : (g : Graph) → AreMembers of count (length of) g → AreMembers (numbers_of (map sketch functions)) (name_count (map sketch functions)) (length (map sketch functions)) g
  members_same g k =
      subst (λ z. AreMembers (numbers_of (map sketch functions)) (name_count (map sketch functions)) z g) (numbers_sized (map sketch functions))
      (subst (λ z. AreMembers (numbers_of (map sketch functions)) z (length (numbers_of (map sketch functions))) g) count_is
      (subst (λ z. AreMembers z count (length z) g) of_is k))

  pub graphs_made : (calls mentions decl_calls decl_mentions types : Graph) → HasMembers (call_rows first bare applied (map sketch functions)) of count calls → mentions ≡ mention_rows named (map sketch functions) ++ replicate count [] → HasMembersBetween (type_rows first base bare applied named (map sketch functions)) of count (type_rows first base bare applied named (map sketch decls)) types → decl_calls ≡ call_rows first bare applied (map sketch decls) → decl_mentions ≡ mention_rows named (map sketch decls) → AreGraphs (map sketch decls) (map sketch functions) calls mentions decl_calls decl_mentions types
  graphs_made calls mentions decl_calls decl_mentions types hc hm ht dc dm =
      let known : Graph = type_rows (length (map sketch functions)) (base_of (map sketch functions)) (names_in false [] (map sketch functions)) (names_in true [] (map sketch functions)) (names_in false [] (map sketch decls)) (map sketch functions) in
      record {
        members = hc.members;
        sorted = members_same hc.members hc.sorted;
        again = ht.before.members;
        sorted_again = members_same ht.before.members ht.before.sorted;
        calls_are = hc.is ∙ ap (λ z. z ++ hc.members) (calls_same (map sketch functions));
        mentions_are = hm ∙ ap (λ z. mention_rows z (map sketch functions) ++ replicate count []) m ∙ ap (λ z. mention_rows (names_in false [] (map sketch decls)) (map sketch functions) ++ replicate z []) count_is;
        decl_calls_are = dc ∙ calls_same (map sketch decls);
        decl_mentions_are = dm ∙ ap (λ z. mention_rows z (map sketch decls)) m;
        types_are = ht.is ∙ ap (λ z. z ++ type_rows first base bare applied named (map sketch decls)) (ht.before.is ∙ ap (λ z. z ++ ht.before.members) (types_same (map sketch functions))) ∙ ap (λ z. (known ++ ht.before.members) ++ z) (types_same (map sketch decls));
      }

-- what is said of four graphs is said of graphs that are equal to them
pub of_four : (P : Graph → Graph → Graph → Graph → Type 0) (a b c d a_of b_of c_of d_of : Graph) → P a b c d → a_of ≡ a → b_of ≡ b → c_of ≡ c → d_of ≡ d → P a_of b_of c_of d_of
of_four P a b c d a_of b_of c_of d_of k p q r s =
    subst (λ z. P z b_of c_of d_of) (sym p) (subst (λ z. P a z c_of d_of) (sym q) (subst (λ z. P a b z d_of) (sym r) (subst (λ z. P a b c z) (sym s) k)))

-- what an answer over lists in memory says of the graphs themselves

pub evaluated : (a b c d calls mentions decl_calls decl_mentions : Graph) (e : Evaluation) → IsEvaluation a b c d e → a ≡ calls → b ≡ mentions → c ≡ decl_calls → d ≡ decl_mentions → IsEvaluation calls mentions decl_calls decl_mentions e
evaluated a b c d calls mentions decl_calls decl_mentions e k p q r s = of_four (λ x y z w. IsEvaluation x y z w e) a b c d calls mentions decl_calls decl_mentions k (sym p) (sym q) (sym r) (sym s)

pub none_found : (g types : Graph) (n : ℕ) (functions : List CodeSketch) (o : Option ℕ) → MatchOption o (NoneOnCycle g 0 n) (IsFirstOnCycle g 0 n) → o ≡ None → g ≡ types → n ≡ length functions → NoneOnCycle types 0 (length (map sketch functions))
none_found g types n functions o k e p q =
    let none : NoneOnCycle g 0 n = subst (λ z. MatchOption z (NoneOnCycle g 0 n) (IsFirstOnCycle g 0 n)) e k in
    subst (λ z. NoneOnCycle z 0 (length (map sketch functions))) p (subst (λ z. NoneOnCycle g 0 z) (q ∙ sym (length-map functions sketch)) none)

pub first_found : (g types : Graph) (n f : ℕ) (functions : List CodeSketch) (o : Option ℕ) → MatchOption o (NoneOnCycle g 0 n) (IsFirstOnCycle g 0 n) → o ≡ Some f → g ≡ types → n ≡ length functions → IsFirstOnCycle types 0 (length (map sketch functions)) f
first_found g types n f functions o k e p q =
    let first : IsFirstOnCycle g 0 n f = subst (λ z. MatchOption z (NoneOnCycle g 0 n) (IsFirstOnCycle g 0 n)) e k in
    subst (λ z. IsFirstOnCycle z 0 (length (map sketch functions)) f) p (subst (λ z. IsFirstOnCycle g 0 z f) (q ∙ sym (length-map functions sketch)) first)

-- what an order of types asks, and says

pub decls_counted : (decls : List CodeSketch) (g types : Graph) → length (map sketch decls) ≤ length types → g ≡ types → length decls ≤ length g
decls_counted decls g types l p = let a = length-map decls sketch in let b = ap length p in omega (arith, a, b, l)

pub decls_apart : (decls : List CodeSketch) (read order : List ℕ) → StandOnce (length (map sketch decls)) order → read ≡ order → StandOnce (length decls) read
decls_apart decls read order a p = subst (λ z. StandOnce (length decls) z) (sym p) (subst (λ n. StandOnce n order) (length-map decls sketch) a)

pub subjects_found : (g types : Graph) (n m : ℕ) (decls functions : List CodeSketch) (read order : List ℕ) (all : List Subject) → AreSubjects g n (length g - m) m read all → g ≡ types → n ≡ length functions → m ≡ length decls → read ≡ order → AreSubjects types (length (map sketch functions)) (length types - length (map sketch decls)) (length (map sketch decls)) order all
subjects_found g types n m decls functions read order all k p q r e =
    subst (λ (z : ℕ). AreSubjects types z (length types - length (map sketch decls)) (length (map sketch decls)) order all) (q ∙ sym (length-map functions sketch))
    (subst (λ (z : ℕ). AreSubjects types n (length types - z) z order all) (r ∙ sym (length-map decls sketch))
    (subst (λ (z : Graph). AreSubjects z n (length z - m) m order all) p
    (subst (λ (z : List ℕ). AreSubjects g n (length g - m) m z all) e k)))
