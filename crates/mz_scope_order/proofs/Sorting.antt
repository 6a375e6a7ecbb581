-- By the order of the graph of types each declaration and function comes after those that its types refer to, and each comes once.
use Rattle.std.proofs.Common.{◌≡◌, ℕ, ◌+◌, ◌-◌, ◌<◌, ◌≤◌, ◌⊎◌, List, [], ◌∷◌, ◌++◌, refl, sym, ap, subst, ◌∙◌, ⊎_elim, inl, inr, length, arith, append-nil}
use Rattle.std.specs.Prelude.{nat_lt, if◌then◌else◌}
use Rattle.std.specs.List.{flat_map}
use Rattle.std.proofs.lemmas.Bool.{lt-ltb, le-ltb, cond-true, cond-false}
use Rattle.std.proofs.lemmas.Grind.{flat_map-append}
use Rattle.mz_graph.specs.Graph.{Graph, Edge, IsIn}
use Rattle.mz_graph.specs.Order.{Continues, turn, IsOrder}
use Rattle.mz_graph.proofs.Membership.{below_or_not, old_or_last, in_front, in_last}
use Rattle.mz_scope_names.specs.declared.name_use.NameUse.{NameUse}
use Rattle.mz_scope_names.specs.Sketches.{Sketch}
use Rattle.mz_scope_order.specs.Dependencies.{HaveRanks}
use Rattle.mz_scope_order.specs.StepsFaithful.{HasTypes, of_function as on_function, of_decl as on_decl, AreTypes}
use Rattle.mz_scope_order.specs.Subjects.{Subject, of_decl, of_function, IsAmong, AreOnce, IsCounted, AreCounted, AreBefore, ComeAfter, types_of, IsTypeSequence}
use Rattle.mz_scope_order.proofs.Completing as completing

-- what a node stands for: functions come first, then their names, and from `base` on declarations
abbrev pub node_subject : ℕ → ℕ → ℕ → List Subject
node_subject functions base x = if nat_lt x functions then of_function x ∷ [] else (if nat_lt x base then [] else of_decl (x - base) ∷ [])

abbrev pub node_subjects : ℕ → ℕ → List ℕ → List Subject
node_subjects functions base xs = flat_map (node_subject functions base) xs

at_function : (functions base f : ℕ) → f < functions → node_subject functions base f ≡ of_function f ∷ []
at_function functions base f low = cond-true (nat_lt f functions) _ _ (lt-ltb f functions low)

at_name : (functions base x : ℕ) → functions ≤ x → x < base → node_subject functions base x ≡ []
at_name functions base x after low =
    cond-false (nat_lt x functions) _ _ (le-ltb x functions after)
    ∙ cond-true (nat_lt x base) _ _ (lt-ltb x base low)

at_decl : (functions base d : ℕ) → functions ≤ base → node_subject functions base (base + d) ≡ of_decl d ∷ []
at_decl functions base d later =
    let not_function : functions ≤ base + d = omega (arith, later) in
    let is : base + d - base ≡ d = omega arith in
    cond-false (nat_lt (base + d) functions) _ _ (le-ltb (base + d) functions not_function)
    ∙ cond-false (nat_lt (base + d) base) _ _ (le-ltb (base + d) base (omega arith))
    ∙ ap (λ (k : ℕ). of_decl k ∷ []) is

-- lists of subjects

among_front : (x : Subject) (xs ys : List Subject) → IsAmong x xs → IsAmong x (xs ++ ys)
among_front x [] ys h = absurd h
among_front x (y ∷ xs) ys h = ⊎_elim inl (λ there. inr (among_front x xs ys there)) h

among_back : (x : Subject) (xs ys : List Subject) → IsAmong x ys → IsAmong x (xs ++ ys)
among_back x [] ys h = h
among_back x (y ∷ xs) ys h = inr (among_back x xs ys h)

-- what a node of the list stands for is among what the list stands for
among_subjects : (functions base y : ℕ) (x : Subject) (ys : List ℕ) → node_subject functions base y ≡ x ∷ [] → IsIn y ys → IsAmong x (node_subjects functions base ys)
among_subjects functions base y x [] is there = absurd there
among_subjects functions base y x (z ∷ ys) is there =
    ⊎_elim
    (λ same. among_front x (node_subject functions base z) (node_subjects functions base ys) (subst (IsAmong x) (sym (ap (node_subject functions base) (sym same) ∙ is)) (inl refl)))
    (λ later. among_back x (node_subject functions base z) (node_subjects functions base ys) (among_subjects functions base y x ys is later))
    there

-- one more node
one_more : (functions base x : ℕ) (done : List ℕ) → node_subjects functions base (done ++ x ∷ []) ≡ node_subjects functions base done ++ node_subject functions base x
one_more functions base x done =
    flat_map-append (node_subject functions base) done (x ∷ [])
    ∙ ap (λ z. node_subjects functions base done ++ z) (append-nil (node_subject functions base x))

-- the node of a subject
abbrev node_at : ℕ → Subject → ℕ
node_at base (of_decl d) = base + d
node_at base (of_function f) = f

-- a node that had its turn has it no more
not_again : {Needs : ℕ → ℕ → Type 0} {count : ℕ} (x : ℕ) (done rest : List ℕ) → Continues Needs count done rest → IsIn x done → IsIn x rest → ⊥
not_again x done [] c before later = later
not_again x done (y ∷ rest) (turn next more) before later =
    ⊎_elim
    (λ same. next.ready.remains (subst (λ z. IsIn z done) same before))
    (λ there. not_again x (done ++ y ∷ []) rest more (in_front x done (y ∷ []) before) there)
    later

-- what these lead to is among them
record IsClosed (g : Graph) (done : List ℕ) : Type 0 where
  pub leads : (x y : ℕ) → IsIn x done → Edge g x y → IsIn y done

none_closed : (g : Graph) → IsClosed g []
none_closed g = record { leads = λ x y there edge. absurd there }

one_more_closed : (g : Graph) (done : List ℕ) (x : ℕ) → IsClosed g done → ((y : ℕ) → Edge g x y → IsIn y done) → IsClosed g (done ++ x ∷ [])
one_more_closed g done x closed served = record {
  leads = λ z y there edge. in_front y done (x ∷ []) (⊎_elim
      (λ old. closed.leads z y old edge)
      (λ same. served y (subst (λ (k : ℕ). Edge g k y) same edge))
      (old_or_last z x done there));
}

-- what subjects that come next bring: they come after their needs, none comes twice, and they are counted
record AreSorted (decls functions : List Sketch) (before order : List Subject) : Type 0 where
  pub after : ComeAfter decls functions (types_of decls functions) before order
  pub once : AreOnce order
  pub counted : AreCounted (length decls) (length functions) order

among_either : (x : Subject) (xs ys : List Subject) → IsAmong x (xs ++ ys) → IsAmong x xs ⊎ IsAmong x ys
among_either x [] ys h = inr h
among_either x (y ∷ xs) ys h = ⊎_elim
    (λ same. inl (inl same))
    (λ there. ⊎_elim (λ a. inl (inr a)) (λ b. inr b) (among_either x xs ys there))
    h

only : (y z : Subject) → IsAmong y (z ∷ []) → y ≡ z
only y z h = ⊎_elim (λ same. same) (λ none. absurd none) h

-- a subject comes from its node alone
node_is : (functions base x : ℕ) (y : Subject) → functions ≤ base → IsAmong y (node_subject functions base x) → node_at base y ≡ x
node_is functions base x y later there = elim (below_or_not x functions) [
  | inl low ↦ ap (node_at base) (only y (of_function x) (subst (IsAmong y) (at_function functions base x low) there))
  | inr after ↦ elim (below_or_not x base) [
    | inl low ↦ absurd (subst (IsAmong y) (at_name functions base x after low) there)
    | inr past ↦
        let is : base + (x - base) ≡ x = omega (arith, past) in
        ap (node_at base) (only y (of_decl (x - base)) (subst (IsAmong y) (ap (node_subject functions base) (sym is) ∙ at_decl functions base (x - base) later) there)) ∙ is
  ]
]

among_nodes : (functions base : ℕ) (y : Subject) (xs : List ℕ) → functions ≤ base → IsAmong y (node_subjects functions base xs) → IsIn (node_at base y) xs
among_nodes functions base y [] later there = there
among_nodes functions base y (x ∷ xs) later there = ⊎_elim
    (λ here. inl (node_is functions base x y later here))
    (λ more. inr (among_nodes functions base y xs later more))
    (among_either y (node_subject functions base x) (node_subjects functions base xs) there)

-- what a node of the graph of types stands for
data StandsFor (decls functions : List Sketch) (base x : ℕ) : List Subject → Type 0 where
  nothing : StandsFor decls functions base x []
  something : (y : Subject) → node_at base y ≡ x → IsCounted (length decls) (length functions) y → HasTypes decls functions base x (types_of decls functions y) → StandsFor decls functions base x (y ∷ [])

module _ (decls functions : List Sketch) (node : ℕ → ℕ) (base : ℕ) (types : Graph) (are : AreTypes decls functions node base types) (sized : length types ≡ base + length decls) where
  abbrev at_node : ℕ → List Subject
  at_node x = node_subject (length functions) base x

  abbrev at_nodes : List ℕ → List Subject
  at_nodes xs = node_subjects (length functions) base xs

  function_stands : (x : ℕ) → x < length functions → StandsFor decls functions base x (at_node x)
  function_stands x low =
      subst (λ z. StandsFor decls functions base x z) (sym (at_function (length functions) base x low)) (something (of_function x) refl low (on_function x low))

  decl_stands : (x : ℕ) → x < length types → base ≤ x → StandsFor decls functions base x (at_node x)
  decl_stands x low past =
      let is : base + (x - base) ≡ x = omega (arith, past) in
      let counted : x - base < length decls = omega (arith, past, low, sized) in
      subst (λ z. StandsFor decls functions base x z)
      (sym (ap (node_subject (length functions) base) (sym is) ∙ at_decl (length functions) base (x - base) are.later))
      (something (of_decl (x - base)) is counted (subst (λ z. HasTypes decls functions base z (types_of decls functions (of_decl (x - base)))) is (on_decl (x - base) counted)))

  stands_for : (x : ℕ) → x < length types → StandsFor decls functions base x (at_node x)
  stands_for x low = elim (below_or_not x (length functions)) [
    | inl early ↦ function_stands x early
    | inr after ↦ elim (below_or_not x base) [
      | inl early ↦ subst (λ z. StandsFor decls functions base x z) (sym (at_name (length functions) base x after early)) nothing
      | inr past ↦ decl_stands x low past
    ]
  ]

  -- where the nodes that a node leads to had their turn, all that its types refer to comes before it
  typed : (x : ℕ) (us : List NameUse) (done : List ℕ) → HasTypes decls functions base x us → ((y : ℕ) → Edge types x y → IsIn y done) → IsClosed types done → AreBefore decls functions us (at_nodes done)
  typed x us done has served closed = record {
    decls = λ d refers. among_subjects (length functions) base (base + d) (of_decl d) done (at_decl (length functions) base d are.later) (served (base + d) (are.up_decl x d us has refers));
    functions = λ f refers. among_subjects (length functions) base f (of_function f) done (at_function (length functions) base f refers.counted) (closed.leads (node f) f (served (node f) (are.up_name x f us has refers)) (are.names.leads f refers.counted));
  }

  sort_one : (x : ℕ) (done rest : List ℕ) (one : List Subject) → StandsFor decls functions base x one → ((y : Subject) → node_at base y ≡ x → IsAmong y (at_nodes rest) → ⊥) → ((us : List NameUse) → HasTypes decls functions base x us → AreBefore decls functions us (at_nodes done)) → AreSorted decls functions (at_nodes done ++ one) (at_nodes rest) → AreSorted decls functions (at_nodes done) (one ++ at_nodes rest)
  sort_one x done rest _ nothing none before more = subst (λ z. AreSorted decls functions z (at_nodes rest)) (append-nil (at_nodes done)) more
  sort_one x done rest _ (something y at of has) none before more = record {
    after = (before (types_of decls functions y) has, more.after);
    once = (none y at, more.once);
    counted = (of, more.counted);
  }

  sorted : (done rest : List ℕ) → Continues (Edge types) (length types) done rest → IsClosed types done → AreSorted decls functions (at_nodes done) (at_nodes rest)
  sorted done [] c closed = record { after = tt; once = tt; counted = tt }
  sorted done (x ∷ rest) (turn next more) closed =
      sort_one x done rest (at_node x)
      (stands_for x next.ready.counted)
      (λ y at there. not_again x (done ++ x ∷ []) rest more (in_last x done) (subst (λ z. IsIn z rest) at (among_nodes (length functions) base y rest are.later there)))
      (λ us has. typed x us done has next.ready.served closed)
      (subst (λ z. AreSorted decls functions z (at_nodes rest)) (one_more (length functions) base x done)
      (sorted (done ++ x ∷ []) rest more (one_more_closed types done x closed next.ready.served)))

  pub sequence_is : (order : List ℕ) → HaveRanks decls functions → IsOrder (Edge types) (length types) order → IsTypeSequence decls functions (at_nodes order)
  sequence_is order ranked o =
      let all = sorted [] order o (none_closed types) in
      record {
        decls = λ d low. among_subjects (length functions) base (base + d) (of_decl d) order (at_decl (length functions) base d are.later)
            (completing.all_decls_in decls functions ranked.of_decl ranked.of_function node base types order ranked.are are sized o d low);
        functions = λ f low. among_subjects (length functions) base f (of_function f) order (at_function (length functions) base f low)
            (completing.all_functions_in decls functions ranked.of_decl ranked.of_function node base types order ranked.are are sized o f low);
        after = all.after;
        once = all.once;
        counted = all.counted;
      }
