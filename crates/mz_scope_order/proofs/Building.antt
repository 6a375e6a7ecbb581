-- The graphs of dependencies hold what the uses say that they are made from.
use Rattle.std.proofs.Common.{◌≡◌, ℕ, ◌+◌, ◌-◌, ◌<◌, ◌≤◌, inl, inr, List, [], ◌++◌, true, false, Some, length, map, replicate, refl, ap, sym, ◌∙◌, subst, arith}
use Rattle.std.proofs.lemmas.List.{get_or-map, length-map, get_or-replicate, get_or_past, length-replicate}
use Rattle.mz_graph.specs.Graph.{Graph, heads, IsIn, Edge, number_of}
use Rattle.mz_graph.proofs.Membership.{below_or_not, in_front, in_back, in_either}
use Rattle.mz_graph.specs.Members.{IsMember}
use Rattle.mz_graph.proofs.Joining.{both_sized, in_first, in_second}
use Rattle.mz_scope_names.specs.declared.name_use.NameUse.{NameUse}
use Rattle.mz_scope_names.specs.Sketches.{Sketch, all_of}
use Rattle.mz_scope_order.specs.Dependencies.{sketch_at, meant_by, IsUsed, RefersTo, AreDeclarations}
use Rattle.mz_scope_order.specs.StepsFaithful.{IsName, AreFaithful, HasTypes, of_function, of_decl, to_name, to_decl, AreTypes}
use Rattle.mz_scope_order.specs.StepsPlaces.{names_in, callee, or_zero}
use Rattle.mz_scope_order.specs.StepsGraphs.{name_count, base_of, numbers_of, node_of, called_by, mentioned_by, types_by, AreGraphs}
use Rattle.mz_scope_order.proofs.Placing.{from_row, to_row, one_callee, callee_within}
use Rattle.mz_scope_order.proofs.Naming.{callee_there}
use Rattle.mz_scope_order.proofs.Counts.{both_are, below_same, past_same, below_first, below_second, below_sum, rest_behind, first_within, nothing_added}
use Rattle.mz_scope_order.proofs.Declaring.{mention_up, mention_down}

pub row_at : (f : Sketch → List ℕ) (ss : List Sketch) (x : ℕ) → x < length ss → heads (map f ss) x ≡ f (sketch_at ss x)
row_at f ss x h = get_or-map f ss x (sketch_at [] 0) [] h

number_at : (functions : List Sketch) (h : ℕ) → h < length functions → number_of (numbers_of functions) h ≡ or_zero (callee (names_in false [] functions) (names_in true [] functions) (meant_by (sketch_at functions h)))
number_at functions h l = get_or-map (λ s. or_zero (callee (names_in false [] functions) (names_in true [] functions) (meant_by s))) functions h (sketch_at [] 0) 0 l

pub nothing_there : (n x y : ℕ) → IsIn y (heads (replicate n []) x) → ⊥
nothing_there n x y a = elim (below_or_not x n) [
  | inl l ↦ subst (λ z. IsIn y z) (get_or-replicate n x [] [] l) a
  | inr l ↦ subst (λ z. IsIn y z) (get_or_past (replicate n []) x [] (past_same x n (length (replicate n (let o : List ℕ = [] in o))) l (length-replicate n (let o : List ℕ = [] in o)))) a
]

-- rows of calls

called_up : (functions : List Sketch) (h : ℕ) (us : List NameUse) → RefersTo us functions h → IsIn (node_of functions h) (called_by functions us)
called_up functions h us r =
    subst (λ z. IsIn (length functions + z) (called_by functions us)) (sym (number_at functions h r.counted))
    (to_row (callee (names_in false [] functions) (names_in true [] functions)) (length functions) (or_zero (callee (names_in false [] functions) (names_in true [] functions) (meant_by (sketch_at functions h)))) (meant_by (sketch_at functions h)) us r.used (callee_there functions h r.counted))

called_down : (functions : List Sketch) (g : Graph) (y : ℕ) (us : List NameUse) → ((a h : ℕ) → a < name_count functions → Edge g (length functions + a) h → IsMember (numbers_of functions) (length functions) a h) → IsIn y (called_by functions us) → IsName functions g us y
called_down functions g y us members a =
    let f = from_row (callee (names_in false [] functions) (names_in true [] functions)) (length functions) y us a in
    let i = f.is in
    let w : f.number_of_it < name_count functions = callee_within (names_in false [] functions) (names_in true [] functions) f.source f.number_of_it f.has in
    record {
      later = subst (λ z. length functions ≤ z) (sym i) (first_within (length functions) f.number_of_it);
      meant = λ h e.
          let m = members f.number_of_it h w (subst (λ z. Edge g z h) i e) in
          record {
            counted = m.counted;
            used = subst (λ z. IsUsed z us)
                (one_callee (names_in false [] functions) (names_in true [] functions) f.source (meant_by (sketch_at functions h)) f.number_of_it f.has
                (callee_there functions h m.counted ∙ ap (λ z. Some z) (sym (number_at functions h m.counted) ∙ m.is)))
                f.used;
          };
    }

pub called_before : (functions : List Sketch) (y : ℕ) (us : List NameUse) → IsIn y (called_by functions us) → y < base_of functions
called_before functions y us a =
    let f = from_row (callee (names_in false [] functions) (names_in true [] functions)) (length functions) y us a in
    below_second y (length functions) f.number_of_it (name_count functions) (base_of functions) f.is (callee_within (names_in false [] functions) (names_in true [] functions) f.source f.number_of_it f.has) refl

-- rows of mentions, numbered from 0

mentioned_up : (decls : List Sketch) (e : ℕ) (us : List NameUse) → AreDeclarations decls → RefersTo us decls e → IsIn e (mentioned_by decls 0 us)
mentioned_up decls e us d r = subst (λ z. IsIn z (mentioned_by decls 0 us)) (nothing_added e) (mention_up decls 0 e us d r)

pub mentioned_down : (decls : List Sketch) (e : ℕ) (us : List NameUse) → AreDeclarations decls → IsIn e (mentioned_by decls 0 us) → RefersTo us decls e
mentioned_down decls e us d a =
    let m = mention_down decls 0 e us d a in
    subst (λ z. RefersTo us decls z) (sym (m.is ∙ nothing_added m.decl)) m.refers

-- the number of a function's name is the number of a name
pub number_counted : (functions : List Sketch) (h : ℕ) → h < length functions → number_of (numbers_of functions) h < name_count functions
number_counted functions h l =
    let w = callee_within (names_in false [] functions) (names_in true [] functions) (meant_by (sketch_at functions h)) _ (callee_there functions h l) in
    let e = number_at functions h l in
    omega (arith, w, e)

module _ (decls functions : List Sketch) (calls mentions decl_calls decl_mentions types : Graph) (d : AreDeclarations decls) (k : AreGraphs decls functions calls mentions decl_calls decl_mentions types) where
  pub rows_sized : (f : Sketch → List ℕ) (ss : List Sketch) → length (map f ss) ≡ length ss
  rows_sized f ss = length-map ss f

  pub on_function : (f : ℕ) → f < length functions → heads calls f ≡ called_by functions (all_of (sketch_at functions f))
  on_function f h = ap (λ z. heads z f) k.calls_are ∙ in_first (map (λ s. called_by functions (all_of s)) functions) k.members f (below_same f (length functions) (length (map (λ s. called_by functions (all_of s)) functions)) h (rows_sized (λ s. called_by functions (all_of s)) functions)) ∙ row_at (λ s. called_by functions (all_of s)) functions f h

  pub on_name : (a : ℕ) → heads calls (length functions + a) ≡ heads k.members a
  on_name a = ap (λ z. heads z (length functions + a)) k.calls_are ∙ in_second (map (λ s. called_by functions (all_of s)) functions) k.members (length functions + a) a (ap (λ z. z + a) (sym (rows_sized (λ s. called_by functions (all_of s)) functions)))

  call_members : (a h : ℕ) → a < name_count functions → Edge calls (length functions + a) h → IsMember (numbers_of functions) (length functions) a h
  call_members a h w e = k.sorted.down a h (subst (λ z. IsIn h z) (on_name a) e.listed)

  pub mentions_on : (f : ℕ) → f < length functions → heads mentions f ≡ mentioned_by decls 0 (all_of (sketch_at functions f))
  mentions_on f h = ap (λ z. heads z f) k.mentions_are ∙ in_first (map (λ s. mentioned_by decls 0 (all_of s)) functions) (replicate (name_count functions) []) f (below_same f (length functions) (length (map (λ s. mentioned_by decls 0 (all_of s)) functions)) h (rows_sized (λ s. mentioned_by decls 0 (all_of s)) functions)) ∙ row_at (λ s. mentioned_by decls 0 (all_of s)) functions f h

  pub faithful : AreFaithful decls functions (node_of functions) calls mentions decl_calls decl_mentions
  faithful = record {
    names = record { leads = λ h l. record { listed = subst (λ z. IsIn h z) (sym (on_name (number_of (numbers_of functions) h))) (k.sorted.up h l) } };
    blank = λ y e l u.
        let a : ℕ = y - length functions in
        let is = rest_behind y (length functions) (length (map (λ s. mentioned_by decls 0 (all_of s)) functions)) (rows_sized (λ s. mentioned_by decls 0 (all_of s)) functions) l in
        nothing_there (name_count functions) a e (subst (λ z. IsIn e z) (ap (λ z. heads z y) k.mentions_are ∙ in_second (map (λ s. mentioned_by decls 0 (all_of s)) functions) (replicate (name_count functions) []) y a is) u.listed);
    call_up = λ f h l r. record { listed = subst (λ z. IsIn (node_of functions h) z) (sym (on_function f l)) (called_up functions h (all_of (sketch_at functions f)) r) };
    call_down = λ f y l u. called_down functions calls y (all_of (sketch_at functions f)) call_members (subst (λ z. IsIn y z) (on_function f l) u.listed);
    mention_up = λ f e l r. record { listed = subst (λ z. IsIn e z) (sym (mentions_on f l)) (mentioned_up decls e (all_of (sketch_at functions f)) d r) };
    mention_down = λ f e l u. mentioned_down decls e (all_of (sketch_at functions f)) d (subst (λ z. IsIn e z) (mentions_on f l) u.listed);
    decl_call_up = λ c h l r. record { listed = subst (λ z. IsIn (node_of functions h) z) (sym (ap (λ z. heads z c) k.decl_calls_are ∙ row_at (λ s. called_by functions (all_of s)) decls c l)) (called_up functions h (all_of (sketch_at decls c)) r) };
    decl_call_down = λ c y l u. called_down functions calls y (all_of (sketch_at decls c)) call_members (subst (λ z. IsIn y z) (ap (λ z. heads z c) k.decl_calls_are ∙ row_at (λ s. called_by functions (all_of s)) decls c l) u.listed);
    decl_mention_up = λ c e l r. record { listed = subst (λ z. IsIn e z) (sym (ap (λ z. heads z c) k.decl_mentions_are ∙ row_at (λ s. mentioned_by decls 0 (all_of s)) decls c l)) (mentioned_up decls e (all_of (sketch_at decls c)) d r) };
    decl_mention_down = λ c e l u. mentioned_down decls e (all_of (sketch_at decls c)) d (subst (λ z. IsIn e z) (ap (λ z. heads z c) k.decl_mentions_are ∙ row_at (λ s. mentioned_by decls 0 (all_of s)) decls c l) u.listed);
  }

  front_sized : length (map (λ s. types_by decls functions s.types) functions ++ k.again) ≡ base_of functions
  front_sized =
      let a = both_sized (map (λ s. types_by decls functions s.types) functions) k.again in
      let b = rows_sized (λ s. types_by decls functions s.types) functions in
      both_are (length (map (λ s. types_by decls functions s.types) functions ++ k.again)) (length (map (λ s. types_by decls functions s.types) functions)) (length k.again) (length functions) (name_count functions) a b k.sorted_again.sized

  pub types_sized : length types ≡ base_of functions + length decls
  types_sized =
      let a = ap (λ z. length z) k.types_are ∙ both_sized (map (λ s. types_by decls functions s.types) functions ++ k.again) (map (λ s. types_by decls functions s.types) decls) in
      let b = rows_sized (λ s. types_by decls functions s.types) decls in
      both_are (length types) (length (map (λ s. types_by decls functions s.types) functions ++ k.again)) (length (map (λ s. types_by decls functions s.types) decls)) (base_of functions) (length decls) a front_sized b

  pub types_on : (x : ℕ) (us : List NameUse) → HasTypes decls functions (base_of functions) x us → heads types x ≡ types_by decls functions us
  types_on _ _ (of_function f h) =
      ap (λ z. heads z f) k.types_are
      ∙ in_first (map (λ s. types_by decls functions s.types) functions ++ k.again) (map (λ s. types_by decls functions s.types) decls) f (below_first f (length functions) (name_count functions) (length (map (λ s. types_by decls functions s.types) functions ++ k.again)) h front_sized)
      ∙ in_first (map (λ s. types_by decls functions s.types) functions) k.again f (below_same f (length functions) (length (map (λ s. types_by decls functions s.types) functions)) h (rows_sized (λ s. types_by decls functions s.types) functions))
      ∙ row_at (λ s. types_by decls functions s.types) functions f h
  types_on _ _ (of_decl c h) =
      ap (λ z. heads z (base_of functions + c)) k.types_are
      ∙ in_second (map (λ s. types_by decls functions s.types) functions ++ k.again) (map (λ s. types_by decls functions s.types) decls) (base_of functions + c) c (ap (λ z. z + c) (sym front_sized))
      ∙ row_at (λ s. types_by decls functions s.types) decls c h

  pub types_on_name : (a : ℕ) → a < name_count functions → heads types (length functions + a) ≡ heads k.again a
  types_on_name a w =
      ap (λ z. heads z (length functions + a)) k.types_are
      ∙ in_first (map (λ s. types_by decls functions s.types) functions ++ k.again) (map (λ s. types_by decls functions s.types) decls) (length functions + a) (below_sum (length functions) a (name_count functions) (length (map (λ s. types_by decls functions s.types) functions ++ k.again)) w front_sized)
      ∙ in_second (map (λ s. types_by decls functions s.types) functions) k.again (length functions + a) a (ap (λ z. z + a) (sym (rows_sized (λ s. types_by decls functions s.types) functions)))

  pub faithful_types : AreTypes decls functions (node_of functions) (base_of functions) types
  faithful_types = record {
    names = record { leads = λ h l. record { listed = subst (λ z. IsIn h z) (sym (types_on_name (number_of (numbers_of functions) h) (number_counted functions h l))) (k.sorted_again.up h l) } };
    later = first_within (length functions) (name_count functions);
    up_name = λ x h us t r. record { listed = subst (λ z. IsIn (node_of functions h) z) (sym (types_on x us t)) (in_front (node_of functions h) (called_by functions us) (mentioned_by decls (base_of functions) us) (called_up functions h us r)) };
    up_decl = λ x e us t r. record { listed = subst (λ z. IsIn (base_of functions + e) z) (sym (types_on x us t)) (in_back (base_of functions + e) (called_by functions us) (mentioned_by decls (base_of functions) us) (mention_up decls (base_of functions) e us d r)) };
    down = λ x y us t u. elim (in_either y (called_by functions us) (mentioned_by decls (base_of functions) us) (subst (λ z. IsIn y z) (types_on x us t) u.listed)) [
      | inl a ↦ to_name (called_before functions y us a) (called_down functions types y us (λ a h w e. k.sorted_again.down a h (subst (λ z. IsIn h z) (types_on_name a w) e.listed)) a)
      | inr a ↦ let q = mention_down decls (base_of functions) y us d a in to_decl q.decl q.refers q.is
    ];
  }
