-- What is known where a loop has read a part of a list of functions or of an order, and what the order of all layers then is.
use Rattle.std.proofs.Common.{◌≡◌, ℕ, ◌+◌, ◌-◌, ◌<◌, ◌≤◌, inl, inr, List, [], ◌∷◌, ◌++◌, Bool, true, false, Option, Some, None, ap, sym, ◌∙◌, subst, arith, length, get_or, set, drop, append_assoc}
use Rattle.std.specs.Prelude.{if◌then◌else◌, nat_eq, MatchOption}
use Rattle.std.specs.List.{flat_map}
use Rattle.std.proofs.lemmas.List.{append-nil, drop_more, length-set, get_or-set_same, get_or-set_other, drop_all}
use Rattle.std.proofs.lemmas.Bool.{eq-eqb, ne_eqb}
use Rattle.mz_graph.specs.Graph.{Graph, IsIn, Edge, AreComponents, number_of}
use Rattle.mz_graph.specs.Order.{Continues, turn, IsOrder, IsComplete, IsFirstLeft}
use Rattle.mz_graph.proofs.Membership.{same_or_not, in_front, in_back, old_or_last}
use Rattle.mz_graph.specs.Depends.{DependsOn, AreUses}
use Rattle.mz_graph.specs.StepsLayers.{AreLayers, decls_in, other, AreMarks}
use Rattle.mz_graph.proofs.Layered.{skips, takes, decl_order}

-- functions

other_at : (of : List ℕ) (own first i number : ℕ) (hs : List ℕ) → i < length hs → number ≡ number_of of (get_or hs i 0) → flat_map (other of own first) (drop i hs) ≡ (if nat_eq number own then [] else (first + number) ∷ []) ++ flat_map (other of own first) (drop (i + 1) hs)
other_at of own first i number hs h e =
    ap (λ z. flat_map (other of own first) z) (drop_more hs i 0 h)
    ∙ ap (λ z. (if nat_eq z own then [] else (first + z) ∷ []) ++ flat_map (other of own first) (drop (i + 1) hs)) (sym e)

pub other_added : (of : List ℕ) (own first i number : ℕ) (hs row now all : List ℕ) → all ≡ row ++ flat_map (other of own first) (drop i hs) → i < length hs → number ≡ number_of of (get_or hs i 0) → (number ≡ own → ⊥) → now ≡ row ++ (first + number) ∷ [] → all ≡ now ++ flat_map (other of own first) (drop (i + 1) hs)
other_added of own first i number hs row now all k h e n g =
    let rest : List ℕ = flat_map (other of own first) (drop (i + 1) hs) in
    k ∙ ap (λ z. row ++ z) (other_at of own first i number hs h e ∙ ap (λ z. (if z then [] else (first + number) ∷ []) ++ rest) (ne_eqb number own n))
    ∙ sym (append_assoc row ((first + number) ∷ []) rest) ∙ ap (λ z. z ++ rest) (sym g)

pub other_skipped : (of : List ℕ) (own first i number : ℕ) (hs row now all : List ℕ) → all ≡ row ++ flat_map (other of own first) (drop i hs) → i < length hs → number ≡ number_of of (get_or hs i 0) → number ≡ own → now ≡ row → all ≡ now ++ flat_map (other of own first) (drop (i + 1) hs)
other_skipped of own first i number hs row now all k h e n g =
    let rest : List ℕ = flat_map (other of own first) (drop (i + 1) hs) in
    k ∙ ap (λ z. row ++ z) (other_at of own first i number hs h e ∙ ap (λ z. (if z then [] else (first + number) ∷ []) ++ rest) (eq-eqb number own n))
    ∙ ap (λ z. z ++ rest) (sym g)

-- the declarations of an order

pub decl_added : (base i : ℕ) (xs so now all : List ℕ) → all ≡ so ++ decls_in base (drop i xs) → i < length xs → base ≤ get_or xs i 0 → now ≡ so ++ (get_or xs i 0 - base) ∷ [] → all ≡ now ++ decls_in base (drop (i + 1) xs)
decl_added base i xs so now all k h l g =
    let rest : List ℕ = decls_in base (drop (i + 1) xs) in
    let x : ℕ = get_or xs i 0 in
    k ∙ ap (λ z. so ++ z) (ap (λ z. decls_in base z) (drop_more xs i 0 h) ∙ takes base x (drop (i + 1) xs) l)
    ∙ sym (append_assoc so ((x - base) ∷ []) rest) ∙ ap (λ z. z ++ rest) (sym g)

pub decl_skipped : (base i : ℕ) (xs so now all : List ℕ) → all ≡ so ++ decls_in base (drop i xs) → i < length xs → get_or xs i 0 < base → now ≡ so → all ≡ now ++ decls_in base (drop (i + 1) xs)
decl_skipped base i xs so now all k h l g =
    let rest : List ℕ = decls_in base (drop (i + 1) xs) in
    k ∙ ap (λ z. so ++ z) (ap (λ z. decls_in base z) (drop_more xs i 0 h) ∙ skips base (get_or xs i 0) (drop (i + 1) xs) l) ∙ ap (λ z. z ++ rest) (sym g)

pub decls_read : (base i : ℕ) (xs so all : List ℕ) → all ≡ so ++ decls_in base (drop i xs) → length xs ≤ i → so ≡ all
decls_read base i xs so all k h = sym (k ∙ ap (λ z. so ++ decls_in base z) (drop_all i xs h) ∙ append-nil so)

pub counted_in : {Needs : ℕ → ℕ → Type 0} {n : ℕ} {done : List ℕ} (x : ℕ) (rest : List ℕ) → Continues Needs n done rest → IsIn x rest → x < n
counted_in x [] o a = absurd a
counted_in {n = n} x (y ∷ rest) (turn next more) a = elim a [
  | inl e ↦ subst (λ z. z < n) (sym e) next.ready.counted
  | inr t ↦ counted_in x rest more t
]

-- marks

pub marks_more : (n x : ℕ) (order more : List ℕ) (marks : List Bool) → AreMarks n order marks → more ≡ order ++ x ∷ [] → x < n → AreMarks n more (set marks x true)
marks_more n x order more marks k e h =
    let inside : x < length marks = let s = k.sized in omega (arith, s, h) in
    record {
      sized = length-set marks x true ∙ k.sized;
      up = λ d a. elim (same_or_not d x) [
        | inl i ↦ ap (λ z. get_or (set marks x true) z false) i ∙ get_or-set_same marks x true false inside
        | inr o ↦ get_or-set_other marks x d true false o ∙ elim (old_or_last d x order (subst (λ z. IsIn d z) e a)) [ inl b ↦ k.up d b | inr i ↦ absurd (o i) ]
      ];
      down = λ d t. subst (λ z. IsIn d z) (sym e) (elim (same_or_not d x) [
        | inl i ↦ in_back d order (x ∷ []) (inl i)
        | inr o ↦ in_front d order (x ∷ []) (k.down d (sym (get_or-set_other marks x d true false o) ∙ t))
      ]);
    }

pub none_left : (n : ℕ) (order : List ℕ) (marks : List Bool) → AreMarks n order marks → ((e : ℕ) → e < n → get_or marks e false ≡ true) → IsComplete n order
none_left n order marks k all d h = k.down d (all d h)

-- the order of all layers, said of what the code has in hand

pub evaluated : (calls mentions decl_calls decl_mentions : Graph) (of : List ℕ) (count base : ℕ) (all read_all : Graph) (order read decls : List ℕ) → AreUses calls mentions decl_calls decl_mentions → AreComponents calls count of → AreLayers calls mentions decl_calls decl_mentions of (length calls) count (length decl_mentions) all → read_all ≡ all → IsOrder (Edge read_all) (length read_all) order → read ≡ order → base ≡ length calls + count → decls ≡ decls_in base read → IsOrder (DependsOn calls mentions decl_calls decl_mentions) (length decl_mentions) decls
evaluated calls mentions decl_calls decl_mentions of count base all read_all order read decls uses parts layers s o r b d =
    let ordered : Continues (Edge all) (length all) [] order = subst (λ (z : Graph). Continues (Edge z) (length z) [] order) s o in
    let is : decls ≡ decls_in (length calls + count) order = d ∙ ap (λ z. decls_in z read) b ∙ ap (λ z. decls_in (length calls + count) z) r in
    subst (λ z. Continues (DependsOn calls mentions decl_calls decl_mentions) (length decl_mentions) [] z) (sym is)
    (decl_order calls mentions decl_calls decl_mentions of count (length decl_mentions) all uses.called.below uses.called_by_decls parts layers [] order (λ x y a u. absurd a) ordered)

pub complete : (n m : ℕ) (order read : List ℕ) (found : Option ℕ) → found ≡ None → MatchOption found (IsComplete m read) (IsFirstLeft m read) → m ≡ n → read ≡ order → IsComplete n order
complete n m order read found e k p q = subst (λ z. IsComplete z order) p (subst (λ z. IsComplete m z) q (subst (λ z. MatchOption z (IsComplete m read) (IsFirstLeft m read)) e k))

pub first_of_left : (n m d : ℕ) (order read : List ℕ) (found : Option ℕ) → found ≡ Some d → MatchOption found (IsComplete m read) (IsFirstLeft m read) → m ≡ n → read ≡ order → IsFirstLeft n order d
first_of_left n m d order read found e k p q = subst (λ z. IsFirstLeft z order d) p (subst (λ z. IsFirstLeft m z d) q (subst (λ z. MatchOption z (IsComplete m read) (IsFirstLeft m read)) e k))
