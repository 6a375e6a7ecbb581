-- Two models that know the same types of all that an expression uses: what it is typed to by the one it is typed to by the other.
use Rattle.std.proofs.Common.{◌≡◌, ℕ, Bool, true, false, List, [], ◌∷◌, ◌++◌, map, refl, ap, sym, subst, ◌∙◌}
use Rattle.std.specs.Prelude.{◌||◌, Option, Some, None, Ok, Err, nat_eq, codes, if◌then◌else◌}
use Rattle.std.specs.List.{AllByRecursion}
use Rattle.std.proofs.lemmas.Bool.{eqb-true, eq-eqb}
use Rattle.mz_base.specs.declared.fault.Span.{Span}
use Rattle.mz_core.specs.Types.{PlainType}
use Rattle.mz_core.specs.Tree as typed
use Rattle.mz_core.specs.Tree.{Tree, DeclaredType, type_of, place_of}
use Rattle.mz_tree.specs.declared.expr.UnOp.{UnOp}
use Rattle.mz_tree.specs.declared.expr.PlacedOp.{PlacedOp}
use Rattle.mz_tree.specs.Tree as source
use Rattle.mz_tree.specs.Tree.{Name}
use Rattle.mz_scope_names.specs.Sets.{holds, with_name}
use Rattle.mz_scope_names.proofs.Holding.{holds_added}
use Rattle.mz_scope_names.specs.declared.name_use.NameUse.{NameUse}
use Rattle.mz_scope_names.specs.declared.name_use.NameUse.TheVariants.{Mention, Call}
use Rattle.mz_scope_names.specs.Uses.{mention, with_bound, with_gens, with_lets, in_tree, in_shape, in_maybe, in_trees, in_links, in_rows, in_branches, in_part, in_parts, in_generator, in_gens, in_let, in_lets, in_written, in_based, in_dims, in_bases}
use Rattle.mz_check_meaning.specs.declared.meaning.Meaning.{Meaning}
use Rattle.mz_check_meaning.specs.declared.meaning.Meaning.TheVariants as meaning
use Rattle.mz_check_meaning.specs.Tests.{Test, ◌>>=◌, loop, one_more, each, maybe_some}
use Rattle.mz_check_meaning.specs.Models.{Model, Heading, Env, Local, entry_of, entries_of, typed_so_far, local_in, bind}
use Rattle.mz_check_meaning.specs.Coerced.{fitted}
use Rattle.mz_check_meaning.specs.Calls.{function_candidate, candidates, applied, row_node}
use Rattle.mz_check_meaning.specs.Chains.{Chained, prefix_name, groups_right, from_left, appended, chain_node}
use Rattle.mz_check_meaning.specs.Arrays.{listed, tabled, set_literal, accessed}
use Rattle.mz_check_meaning.specs.Branches.{decided}
use Rattle.mz_check_meaning.specs.Comprehensions.{Bound, bind_next, bind_names, running_type, comprehended}
use Rattle.mz_check_meaning.specs.WrittenTypes.{Based, of_bool, of_int, of_set, declared}
use Rattle.mz_check_meaning.specs.Lets.{new_name, decl_of, let_node}
use Rattle.mz_check_meaning.specs.Names.{meant, named_or, named, function_meant, bare_or, bare_call}
use Rattle.mz_check_meaning.specs.Forms.{Check, TypeCheck, part, parts, maybe_part, unary_of, operand_of, left_next, operand, grouped_of, group_right, chain_of, call_of, array_of, row_parts, rows_of, set_of, access_of, Branched, branch_next, choice_of, GenCheck, Generated, gen_next, generators, comp_of, gen_call_of, based_part, written_of, LetCheck, declares_by, constrains_by, Declared, local_value, let_next, let_of, PieceCheck, plain_by, shown_by, piece, texted, text_of}
use Rattle.mz_check_meaning.specs.Typing.{check, check_form, check_maybe, checks, check_links, check_rows, check_branches, check_piece, check_pieces, check_gen, check_gens, check_let, check_lets, check_written, check_based, check_dims, check_bases}

-- ---- lists

pub front_all : {A : Type 0} (K : A → Type 0) (xs ys : List A) → AllByRecursion K (xs ++ ys) → AllByRecursion K xs
front_all K [] ys h = tt
front_all K (x ∷ xs) ys h = (h.0, front_all K xs ys h.1)

pub back_all : {A : Type 0} (K : A → Type 0) (xs ys : List A) → AllByRecursion K (xs ++ ys) → AllByRecursion K ys
back_all K [] ys h = h
back_all K (x ∷ xs) ys h = back_all K xs ys h.1

-- element by element
abbrev pub Pairs : {A : Type 0} → (A → A → Type 0) → List A → List A → Type 0
Pairs R [] [] = Unit {0}
Pairs R [] (y ∷ ys) = ⊥
Pairs R (x ∷ xs) [] = ⊥
Pairs R (x ∷ xs) (y ∷ ys) = R x y × Pairs R xs ys

abbrev pub OfBoth : {A : Type 0} → (A → A → Type 0) → Option A → Option A → Type 0
OfBoth R None None = Unit {0}
OfBoth R None (Some y) = ⊥
OfBoth R (Some x) None = ⊥
OfBoth R (Some x) (Some y) = R x y

-- ---- tests that answer alike

pub same_case : {A B : Type 0} (m : Test A) (go ho : A → Test B) → ((x : A) → m ≡ Ok x → go x ≡ ho x) → (m >>= go) ≡ (m >>= ho)
same_case (Ok x) go ho k = k x refl
same_case (Err f) go ho k = refl

pub same_next : {A B : Type 0} (m n : Test A) (go ho : A → Test B) → m ≡ n → ((x : A) → m ≡ Ok x → go x ≡ ho x) → (m >>= go) ≡ (n >>= ho)
same_next m n go ho e k = same_case m go ho k ∙ ap (λ z. z >>= ho) e

pub same_then : {A B : Type 0} (m n : Test A) (go : A → Test B) → m ≡ n → (m >>= go) ≡ (n >>= go)
same_then m n go e = ap (λ z. z >>= go) e

pub same_loop : {A S : Type 0} (R : A → A → Type 0) (step : S → A → Test S) → ((acc : S) (x y : A) → R x y → step acc x ≡ step acc y) → (xs ys : List A) → Pairs R xs ys → (acc : S) → loop step acc xs ≡ loop step acc ys
same_loop R step go [] [] h acc = refl
same_loop R step go [] (y ∷ ys) h acc = absurd h
same_loop R step go (x ∷ xs) [] h acc = absurd h
same_loop R step go (x ∷ xs) (y ∷ ys) h acc = same_next (step acc x) (step acc y) (λ z. loop step z xs) (λ z. loop step z ys) (go acc x y h.0) (λ z e. same_loop R step go xs ys h.1 z)

pub same_each : {A B : Type 0} (R : A → A → Type 0) (go : A → Test B) → ((x y : A) → R x y → go x ≡ go y) → (xs ys : List A) → Pairs R xs ys → each go xs ≡ each go ys
same_each R go one xs ys h = same_loop R (one_more go) (λ acc x y r. same_then (go x) (go y) (λ z. Ok (acc ++ z ∷ [])) (one x y r)) xs ys h []

-- the same list, by two functions
pub same_steps : {A S : Type 0} (K : A → Type 0) (f g : S → A → Test S) → ((acc : S) (x : A) → K x → f acc x ≡ g acc x) → (xs : List A) → AllByRecursion K xs → (acc : S) → loop f acc xs ≡ loop g acc xs
same_steps K f g go [] h acc = refl
same_steps K f g go (x ∷ xs) h acc = same_next (f acc x) (g acc x) (λ z. loop f z xs) (λ z. loop g z xs) (go acc x h.0) (λ z e. same_steps K f g go xs h.1 z)

pub same_all : {A B : Type 0} (K : A → Type 0) (f g : A → Test B) → ((x : A) → K x → f x ≡ g x) → (xs : List A) → AllByRecursion K xs → each f xs ≡ each g xs
same_all K f g go xs h = same_steps K (one_more f) (one_more g) (λ acc x k. same_then (f x) (g x) (λ z. Ok (acc ++ z ∷ [])) (go x k)) xs h []

-- what holds of what a test gives
abbrev pub Gives : {A : Type 0} → (A → Type 0) → Test A → Type 0
Gives Q (Ok x) = Q x
Gives Q (Err f) = Unit {0}

pub gives_next : {A B : Type 0} (R : B → Type 0) (m : Test A) (go : A → Test B) → ((x : A) → m ≡ Ok x → Gives R (go x)) → Gives R (m >>= go)
gives_next R (Ok x) go k = k x refl
gives_next R (Err f) go k = tt

pub given_by : {A : Type 0} (Q : A → Type 0) (m : Test A) (x : A) → m ≡ Ok x → Gives Q m → Q x
given_by Q m x e h = subst (Gives Q) e h

-- ---- names that are hidden: those that aren't local are not

abbrev pub Hides : List Name → Env → Type 0
Hides h env = (n : Name) → local_in n env.locals ≡ None → holds n h ≡ false

apart_case : (b : Bool) (l : Local) (later : Option Local) → (if b then Some l else later) ≡ None → (b ≡ false) × (later ≡ None)
apart_case true l later e = absurd (cc)
apart_case false l later e = (refl, e)

turned_case : (b : Bool) (n m : ℕ) → nat_eq m n ≡ b → nat_eq n m ≡ false → nat_eq m n ≡ false
turned_case true n m h e = let same : m ≡ n = eqb-true m n h in let yes : nat_eq n m ≡ true = eq-eqb n m (sym same) in absurd (cc)
turned_case false n m h e = h

turned : (n m : ℕ) → nat_eq n m ≡ false → nat_eq m n ≡ false
turned n m e = turned_case (nat_eq m n) n m refl e

neither : (a b : Bool) → a ≡ false → b ≡ false → (a || b) ≡ false
neither a b p q = rw (p, q) refl

pub bound_hides : (h : List Name) (env : Env) (n : Name) (t : PlainType) → Hides h env → Hides (with_name h n) (bind n t env)
unfolding local_in
bound_hides h env n t hides k e =
    let parts = apart_case (nat_eq n k) (record { name = n; slot = env.next; ty = t }) (local_in k env.locals) e in
    holds_added k n h ∙ neither (holds k h) (nat_eq k n) (hides k parts.1) (turned n k parts.0)

names_hide : (start : ℕ) (t : PlainType) (ns : List (Name × Span)) (h : List Name) (b : Bound) → Hides h b.env → Gives (λ c. Hides (with_bound h ns) c.env) (loop (bind_next start t) b ns)
unfolding with_bound
names_hide start t [] h b hides = hides
names_hide start t (n ∷ ns) h b hides =
    gives_next (λ (c : Bound). Hides (with_bound (with_name h n.0) ns) c.env) (bind_next start t b n) (λ z. loop (bind_next start t) z ns)
    (λ c e. names_hide start t ns (with_name h n.0) c (given_by (λ (d : Bound). Hides (with_name h n.0) d.env) (bind_next start t b n) c e (gives_next (λ (d : Bound). Hides (with_name h n.0) d.env) (new_name start n.0 n.1 b.env) (λ u. Ok (record { slots = b.slots ++ b.env.next ∷ []; env = bind n.0 t b.env })) (λ u v. bound_hides h b.env n.0 t hides))))

pub generator_hides : (start : ℕ) (t : PlainType) (ns : List (Name × Span)) (h : List Name) (env : Env) → Hides h env → Gives (λ c. Hides (with_bound h ns) c.env) (bind_names start t ns env)
unfolding bind_names
generator_hides start t ns h env hides = names_hide start t ns h (record { slots = []; env = env }) hides

-- ---- two models that differ in what types they know

abbrev pub told : Model → List (ℕ × Test DeclaredType) → List (ℕ × Test Heading) → Model
told b ts hs = record b { types = ts; headings = hs }

module _ (b : Model) (ts us : List (ℕ × Test DeclaredType)) (hs ks : List (ℕ × Test Heading)) where
  abbrev m : Model
  m = told b ts hs

  abbrev o : Model
  o = told b us ks

  -- what a name or a call asks for is known alike
  abbrev pub MeantAlike : Option Meaning → Type 0
  MeantAlike None = Unit {0}
  MeantAlike (Some (meaning.Decl d)) = entry_of d ts ≡ entry_of d us
  MeantAlike (Some (meaning.Function f)) = entry_of f hs ≡ entry_of f ks
  MeantAlike (Some (meaning.Enum e)) = Unit {0}
  MeantAlike (Some (meaning.Case e c)) = Unit {0}

  abbrev pub HeadingAlike : ℕ → Type 0
  HeadingAlike f = entry_of f hs ≡ entry_of f ks

  abbrev pub UseAlike : NameUse → Type 0
  UseAlike (Mention n) = MeantAlike (entry_of n b.names)
  UseAlike (Call n) = AllByRecursion HeadingAlike (entries_of n b.functions)

  abbrev pub Alike : List NameUse → Type 0
  Alike uses = AllByRecursion UseAlike uses

  -- ---- names and calls

  meant_alike : (output : Bool) (at : Span) (x : Option Meaning) → MeantAlike x → meant m output at x ≡ meant o output at x
  unfolding meant
  meant_alike output at None a = refl
  meant_alike output at (Some (meaning.Decl d)) a = same_then (typed_so_far at (entry_of d ts)) (typed_so_far at (entry_of d us)) _ (ap (typed_so_far at) a)
  meant_alike output at (Some (meaning.Function f)) a = same_then (typed_so_far at (entry_of f hs)) (typed_so_far at (entry_of f ks)) _ (ap (typed_so_far at) a)
  meant_alike output at (Some (meaning.Enum e)) a = refl
  meant_alike output at (Some (meaning.Case e c)) a = refl

  mentioned : (h : List Name) (n : Name) → holds n h ≡ false → Alike (mention h n) → UseAlike (Mention n)
  mentioned h n e a = (subst (λ z. Alike (if z then [] else Mention n ∷ [])) e a).0

  named_case : (env : Env) (at : Span) (n : Name) (l : Option Local) (h : List Name) → local_in n env.locals ≡ l → Hides h env → Alike (mention h n) → named_or m env at n l ≡ named_or o env at n l
  named_case env at n (Some l) h e hides a = refl
  named_case env at n None h e hides a = meant_alike env.output at (entry_of n b.names) (mentioned h n (hides n e) a)

  named_alike : (env : Env) (at : Span) (n : Name) (h : List Name) → Hides h env → Alike (mention h n) → named m env at n ≡ named o env at n
  unfolding named
  named_alike env at n h hides a = named_case env at n (local_in n env.locals) h refl hides a

  function_alike : (at : Span) (x : Option Meaning) → MeantAlike x → function_meant m at x ≡ function_meant o at x
  function_alike at None a = refl
  function_alike at (Some (meaning.Decl d)) a = refl
  function_alike at (Some (meaning.Function f)) a = same_then (typed_so_far at (entry_of f hs)) (typed_so_far at (entry_of f ks)) _ (ap (typed_so_far at) a)
  function_alike at (Some (meaning.Enum e)) a = refl
  function_alike at (Some (meaning.Case e c)) a = refl

  bare_case : (env : Env) (at : Span) (n : Name) (l : Option Local) (h : List Name) → local_in n env.locals ≡ l → Hides h env → Alike (mention h n) → bare_or m at n l ≡ bare_or o at n l
  bare_case env at n (Some l) h e hides a = refl
  bare_case env at n None h e hides a = function_alike at (entry_of n b.names) (mentioned h n (hides n e) a)

  bare_alike : (env : Env) (at : Span) (n : Name) (h : List Name) → Hides h env → Alike (mention h n) → bare_call m env at n ≡ bare_call o env at n
  unfolding bare_call
  bare_alike env at n h hides a = bare_case env at n (local_in n env.locals) h refl hides a

  candidate_alike : (at : Span) (f : ℕ) → HeadingAlike f → function_candidate m at f ≡ function_candidate o at f
  candidate_alike at f a = same_then (typed_so_far at (entry_of f hs)) (typed_so_far at (entry_of f ks)) _ (ap (typed_so_far at) a)

  candidates_alike : (at : Span) (n : Name) (args : List PlainType) → UseAlike (Call n) → candidates m at n args ≡ candidates o at n args
  unfolding candidates
  candidates_alike at n args a = same_then (each (function_candidate m at) (entries_of n b.functions)) (each (function_candidate o at) (entries_of n b.functions)) _ (same_all HeadingAlike (function_candidate m at) (function_candidate o at) (candidate_alike at) (entries_of n b.functions) a)

  applied_alike : (at : Span) (n : Name) (es : List Tree) → UseAlike (Call n) → applied m at n es ≡ applied o at n es
  unfolding applied
  applied_alike at n es a = same_then (candidates m at n (map type_of es)) (candidates o at n (map type_of es)) _ (candidates_alike at n (map type_of es) a)

  -- ---- each form

  abbrev pub Same : List Name → Check → Check → Type 0
  Same h c d = (env : Env) → Hides h env → c env ≡ d env

  abbrev pub SameType : List Name → TypeCheck → TypeCheck → Type 0
  SameType h c d = (env : Env) → Hides h env → c env ≡ d env

  abbrev SameLink : List Name → PlacedOp × Check → PlacedOp × Check → Type 0
  SameLink h x y = (x.0 ≡ y.0) × Same h x.1 y.1

  abbrev SameBranch : List Name → Check × Check → Check × Check → Type 0
  SameBranch h x y = Same h x.0 y.0 × Same h x.1 y.1

  abbrev SameBased : List Name → Based Check → Based Check → Type 0
  SameBased h of_bool of_bool = Unit {0}
  SameBased h of_int of_int = Unit {0}
  SameBased h (of_set c) (of_set d) = Same h c d
  SameBased h x y = ⊥

  abbrev SamePiece : List Name → PieceCheck → PieceCheck → Type 0
  SamePiece h (plain_by n) (plain_by k) = n ≡ k
  SamePiece h (shown_by c) (shown_by d) = Same h c d
  SamePiece h x y = ⊥

  record SameGen (h : List Name) (x y : GenCheck) : Type 0 where
    names : x.names ≡ y.names
    set : Same h x.set y.set
    cond : OfBoth (Same (with_bound h x.names)) x.cond y.cond

  abbrev SameGens : List Name → List GenCheck → List GenCheck → Type 0
  SameGens h [] [] = Unit {0}
  SameGens h (x ∷ xs) (y ∷ ys) = SameGen h x y × SameGens (with_bound h x.names) xs ys
  SameGens h xs ys = ⊥

  abbrev with_let_check : List Name → LetCheck → List Name
  with_let_check h (declares_by go n at value) = with_name h n
  with_let_check h (constrains_by go) = h

  abbrev SameLet : List Name → LetCheck → LetCheck → Type 0
  SameLet h (declares_by go n at value) (declares_by ho k to other) = SameType h go ho × (n ≡ k) × (at ≡ to) × OfBoth (Same h) value other
  SameLet h (constrains_by go) (constrains_by ho) = Same h go ho
  SameLet h x y = ⊥

  abbrev SameLets : List Name → List LetCheck → List LetCheck → Type 0
  SameLets h [] [] = Unit {0}
  SameLets h (x ∷ xs) (y ∷ ys) = SameLet h x y × SameLets (with_let_check h x) xs ys
  SameLets h xs ys = ⊥

  parts_alike : (h : List Name) (cs ds : List Check) (env : Env) → Pairs (Same h) cs ds → Hides h env → parts cs env ≡ parts ds env
  parts_alike h cs ds env s hides = same_each (Same h) (part env) (λ c d k. k env hides) cs ds s

  maybe_alike : (h : List Name) (c d : Option Check) (env : Env) → OfBoth (Same h) c d → Hides h env → maybe_part c env ≡ maybe_part d env
  maybe_alike h None None env s hides = refl
  maybe_alike h None (Some d) env s hides = absurd s
  maybe_alike h (Some c) None env s hides = absurd s
  maybe_alike h (Some c) (Some d) env s hides = ap maybe_some (s env hides)

  unary_alike : (h : List Name) (at : Span) (x : UnOp) (c d : Check) → Same h c d → Same h (unary_of at x c) (unary_of at x d)
  unary_alike h at x c d s env hides = same_then (c env) (d env) (λ e. row_node at (prefix_name x) (e ∷ [])) (s env hides)

  left_alike : (h : List Name) (at : Span) (env : Env) (acc : Chained) (x y : PlacedOp × Check) → Hides h env → SameLink h x y → left_next at env acc x ≡ left_next at env acc y
  left_alike h at env acc x y hides s = same_then (x.1 env) (y.1 env) (λ e. from_left at acc (operand_of x.0 e)) (s.1 env hides) ∙ ap (λ p. y.1 env >>= λ e. from_left at acc (operand_of p e)) s.0

  operand_alike : (h : List Name) (env : Env) (x y : PlacedOp × Check) → Hides h env → SameLink h x y → operand env x ≡ operand env y
  operand_alike h env x y hides s = same_then (x.1 env) (y.1 env) (λ e. Ok (operand_of x.0 e)) (s.1 env hides) ∙ ap (λ p. y.1 env >>= λ e. Ok (operand_of p e)) s.0

  grouped_alike : (right : Bool) (h : List Name) (at : Span) (e : Tree) (xs ys : List (PlacedOp × Check)) (env : Env) → Pairs (SameLink h) xs ys → Hides h env → grouped_of right at e xs env ≡ grouped_of right at e ys env
  grouped_alike true h at e xs ys env s hides = same_then (each (operand env) xs) (each (operand env) ys) (λ es. appended at e es) (same_each (SameLink h) (operand env) (λ x y k. operand_alike h env x y hides k) xs ys s)
  grouped_alike false h at e xs ys env s hides =
      same_then (loop (left_next at env) (record { ty = type_of e; done = [] }) xs) (loop (left_next at env) (record { ty = type_of e; done = [] }) ys) (λ c. Ok (chain_node at e c))
      (same_loop (SameLink h) (left_next at env) (λ acc x y k. left_alike h at env acc x y hides k) xs ys s (record { ty = type_of e; done = [] }))

  group_alike : (h : List Name) (xs ys : List (PlacedOp × Check)) → Pairs (SameLink h) xs ys → group_right xs ≡ group_right ys
  group_alike h [] [] s = refl
  group_alike h [] (y ∷ ys) s = absurd s
  group_alike h (x ∷ xs) [] s = absurd s
  group_alike h (x ∷ xs) (y ∷ ys) s = ap (λ (o : PlacedOp). groups_right o.op) s.0.0

  chain_alike : (h : List Name) (at : Span) (c d : Check) (xs ys : List (PlacedOp × Check)) → Same h c d → Pairs (SameLink h) xs ys → Same h (chain_of at c xs) (chain_of at d ys)
  chain_alike h at c d xs ys s ss env hides =
      same_next (c env) (d env) (λ e. grouped_of (group_right xs) at e xs env) (λ e. grouped_of (group_right ys) at e ys env) (s env hides)
      (λ e k. grouped_alike (group_right xs) h at e xs ys env ss hides ∙ ap (λ r. grouped_of r at e ys env) (group_alike h xs ys ss))

  array_alike : (h : List Name) (at : Span) (cs ds : List Check) → Pairs (Same h) cs ds → Same h (array_of at cs) (array_of at ds)
  array_alike h at cs ds s env hides = same_then (parts cs env) (parts ds env) (λ es. listed at es) (parts_alike h cs ds env s hides)

  set_alike : (h : List Name) (at : Span) (cs ds : List Check) → Pairs (Same h) cs ds → Same h (set_of at cs) (set_of at ds)
  set_alike h at cs ds s env hides = same_then (parts cs env) (parts ds env) (λ es. set_literal at es) (parts_alike h cs ds env s hides)

  rows_alike : (h : List Name) (at : Span) (rs qs : List (List Check)) → Pairs (Pairs (Same h)) rs qs → Same h (rows_of at rs) (rows_of at qs)
  rows_alike h at rs qs s env hides = same_then (each (row_parts env) rs) (each (row_parts env) qs) (λ ts. tabled at ts) (same_each (Pairs (Same h)) (row_parts env) (λ r q k. parts_alike h r q env k hides) rs qs s)

  access_alike : (h : List Name) (at : Span) (c d : Check) (cs ds : List Check) → Same h c d → Pairs (Same h) cs ds → Same h (access_of at c cs) (access_of at d ds)
  access_alike h at c d cs ds s ss env hides =
      same_next (c env) (d env) (λ a. parts cs env >>= λ es. accessed at a es) (λ a. parts ds env >>= λ es. accessed at a es) (s env hides)
      (λ a k. same_then (parts cs env) (parts ds env) (λ es. accessed at a es) (parts_alike h cs ds env ss hides))

  abbrev branched : Branched → Tree → Tree → Test Branched
  branched acc c e = Ok (record { conds = acc.conds ++ c ∷ []; thens = acc.thens ++ e ∷ [] })

  branch_alike : (h : List Name) (env : Env) (acc : Branched) (x y : Check × Check) → Hides h env → SameBranch h x y → branch_next env acc x ≡ branch_next env acc y
  branch_alike h env acc x y hides s =
      same_next (x.0 env) (y.0 env) (λ c. x.1 env >>= λ e. branched acc c e) (λ c. y.1 env >>= λ e. branched acc c e) (s.0 env hides)
      (λ c k. same_then (x.1 env) (y.1 env) (λ e. branched acc c e) (s.1 env hides))

  abbrev no_branches : Branched
  no_branches = record { conds = []; thens = [] }

  choice_alike : (h : List Name) (at : Span) (xs ys : List (Check × Check)) (c d : Option Check) → Pairs (SameBranch h) xs ys → OfBoth (Same h) c d → Same h (choice_of at xs c) (choice_of at ys d)
  choice_alike h at xs ys c d ss s env hides =
      same_next (loop (branch_next env) no_branches xs) (loop (branch_next env) no_branches ys) (λ z. maybe_part c env >>= λ e. decided at z.conds z.thens e) (λ z. maybe_part d env >>= λ e. decided at z.conds z.thens e)
      (same_loop (SameBranch h) (branch_next env) (λ acc x y k. branch_alike h env acc x y hides k) xs ys ss no_branches)
      (λ z k. same_then (maybe_part c env) (maybe_part d env) (λ e. decided at z.conds z.thens e) (maybe_alike h c d env s hides))

  -- ---- generators

  abbrev made : Generated → Bound → Tree → Option Tree → Test Generated
  made acc z s c = Ok (record { gens = acc.gens ++ record { slots = z.slots; set = s; cond = c } ∷ []; env = z.env })

  abbrev after_bound : Generated → Tree → Option Check → Bound → Test Generated
  after_bound acc s cond z = maybe_part cond z.env >>= λ c. made acc z s c

  abbrev after_set : ℕ → Generated → List (Name × Span) → Option Check → Tree → Test Generated
  after_set start acc ns cond s = running_type s >>= λ t. bind_names start t ns acc.env >>= λ z. after_bound acc s cond z

  gen_alike : (h : List Name) (start : ℕ) (acc : Generated) (x y : GenCheck) → Hides h acc.env → SameGen h x y → gen_next start acc x ≡ gen_next start acc y
  gen_alike h start acc x y hides s =
      same_next (x.set acc.env) (y.set acc.env) (after_set start acc x.names x.cond) (after_set start acc y.names y.cond) (s.set acc.env hides)
      (λ e k. same_case (running_type e) (λ t. bind_names start t x.names acc.env >>= λ z. after_bound acc e x.cond z) (λ t. bind_names start t y.names acc.env >>= λ z. after_bound acc e y.cond z)
      (λ t j. same_next (bind_names start t x.names acc.env) (bind_names start t y.names acc.env) (after_bound acc e x.cond) (after_bound acc e y.cond) (ap (λ ns. bind_names start t ns acc.env) s.names)
      (λ z i. same_then (maybe_part x.cond z.env) (maybe_part y.cond z.env) (λ c. made acc z e c) (maybe_alike (with_bound h x.names) x.cond y.cond z.env s.cond (given_by (λ (c : Bound). Hides (with_bound h x.names) c.env) (bind_names start t x.names acc.env) z i (generator_hides start t x.names h acc.env hides))))))

  gen_hides : (h : List Name) (start : ℕ) (acc : Generated) (x : GenCheck) → Hides h acc.env → Gives (λ (g : Generated). Hides (with_bound h x.names) g.env) (gen_next start acc x)
  gen_hides h start acc x hides =
      gives_next (λ (g : Generated). Hides (with_bound h x.names) g.env) (x.set acc.env) (after_set start acc x.names x.cond)
      (λ e k. gives_next (λ (g : Generated). Hides (with_bound h x.names) g.env) (running_type e) (λ t. bind_names start t x.names acc.env >>= λ z. after_bound acc e x.cond z)
      (λ t j. gives_next (λ (g : Generated). Hides (with_bound h x.names) g.env) (bind_names start t x.names acc.env) (after_bound acc e x.cond)
      (λ z i. gives_next (λ (g : Generated). Hides (with_bound h x.names) g.env) (maybe_part x.cond z.env) (λ c. made acc z e c)
      (λ c l. given_by (λ (w : Bound). Hides (with_bound h x.names) w.env) (bind_names start t x.names acc.env) z i (generator_hides start t x.names h acc.env hides)))))

  abbrev with_checks : List Name → List GenCheck → List Name
  with_checks h [] = h
  with_checks h (x ∷ xs) = with_checks (with_bound h x.names) xs

  gens_alike : (h : List Name) (start : ℕ) (xs ys : List GenCheck) → SameGens h xs ys → (acc : Generated) → Hides h acc.env → loop (gen_next start) acc xs ≡ loop (gen_next start) acc ys
  gens_alike h start [] [] s acc hides = refl
  gens_alike h start [] (y ∷ ys) s acc hides = absurd s
  gens_alike h start (x ∷ xs) [] s acc hides = absurd s
  gens_alike h start (x ∷ xs) (y ∷ ys) s acc hides =
      same_next (gen_next start acc x) (gen_next start acc y) (λ z. loop (gen_next start) z xs) (λ z. loop (gen_next start) z ys) (gen_alike h start acc x y hides s.0)
      (λ z e. gens_alike (with_bound h x.names) start xs ys s.1 z (given_by (λ (g : Generated). Hides (with_bound h x.names) g.env) (gen_next start acc x) z e (gen_hides h start acc x hides)))

  gens_hide : (h : List Name) (start : ℕ) (xs : List GenCheck) (acc : Generated) → Hides h acc.env → Gives (λ (g : Generated). Hides (with_checks h xs) g.env) (loop (gen_next start) acc xs)
  gens_hide h start [] acc hides = hides
  gens_hide h start (x ∷ xs) acc hides =
      gives_next (λ (g : Generated). Hides (with_checks (with_bound h x.names) xs) g.env) (gen_next start acc x) (λ z. loop (gen_next start) z xs)
      (λ z e. gens_hide (with_bound h x.names) start xs z (given_by (λ (g : Generated). Hides (with_bound h x.names) g.env) (gen_next start acc x) z e (gen_hides h start acc x hides)))

  abbrev none_made : Env → Generated
  none_made env = record { gens = []; env = env }

  comp_alike : (h : List Name) (at : Span) (braces : Bool) (xs ys : List GenCheck) (c d : Check) → SameGens h xs ys → Same (with_checks h xs) c d → Same h (comp_of at braces xs c) (comp_of at braces ys d)
  comp_alike h at braces xs ys c d ss s env hides =
      same_next (generators xs env) (generators ys env) (λ g. c g.env >>= λ e. comprehended at braces g.gens e) (λ g. d g.env >>= λ e. comprehended at braces g.gens e) (gens_alike h env.next xs ys ss (none_made env) hides)
      (λ g k. same_then (c g.env) (d g.env) (λ e. comprehended at braces g.gens e) (s g.env (given_by (λ (z : Generated). Hides (with_checks h xs) z.env) (generators xs env) g k (gens_hide h env.next xs (none_made env) hides))))

  -- ---- written types

  based_alike : (h : List Name) (env : Env) (x y : Based Check) → Hides h env → SameBased h x y → based_part env x ≡ based_part env y
  based_alike h env of_bool of_bool hides s = refl
  based_alike h env of_bool of_int hides s = absurd s
  based_alike h env of_bool (of_set d) hides s = absurd s
  based_alike h env of_int of_bool hides s = absurd s
  based_alike h env of_int of_int hides s = refl
  based_alike h env of_int (of_set d) hides s = absurd s
  based_alike h env (of_set c) of_bool hides s = absurd s
  based_alike h env (of_set c) of_int hides s = absurd s
  based_alike h env (of_set c) (of_set d) hides s = same_then (c env) (d env) (λ e. Ok (of_set e)) (s env hides)

  written_alike : (h : List Name) (at : Span) (var opt set : Bool) (xs ys : List (Based Check)) (x y : Based Check) → Pairs (SameBased h) xs ys → SameBased h x y → SameType h (written_of at var opt set xs x) (written_of at var opt set ys y)
  written_alike h at var opt set xs ys x y ss s env hides =
      same_next (each (based_part env) xs) (each (based_part env) ys) (λ ds. based_part env x >>= λ z. declared at var opt set ds z) (λ ds. based_part env y >>= λ z. declared at var opt set ds z) (same_each (SameBased h) (based_part env) (λ p q k. based_alike h env p q hides k) xs ys ss)
      (λ ds k. same_then (based_part env x) (based_part env y) (λ z. declared at var opt set ds z) (based_alike h env x y hides s))

  -- ---- lets

  value_alike : (h : List Name) (at : Span) (t : PlainType) (x y : Option Check) (env : Env) → OfBoth (Same h) x y → Hides h env → local_value at t x env ≡ local_value at t y env
  value_alike h at t None None env s hides = refl
  value_alike h at t None (Some d) env s hides = absurd s
  value_alike h at t (Some c) None env s hides = absurd s
  value_alike h at t (Some c) (Some d) env s hides = same_then (c env) (d env) (λ e. fitted e t >>= λ v. Ok (Some v)) (s env hides)

  abbrev declares_one : Declared → Name → Span → DeclaredType → Option Tree → Test Declared
  declares_one acc n at t v = Ok (record { items = acc.items ++ typed.declares (decl_of acc.env n at t v) ∷ []; env = bind n t.ty acc.env })

  abbrev constrains_one : Declared → Tree → Test Declared
  constrains_one acc e = Ok (record { items = acc.items ++ typed.constrains e ∷ []; env = acc.env })

  abbrev after_type : ℕ → Declared → Name → Span → Option Check → DeclaredType → Test Declared
  after_type start acc n at value t = new_name start n at acc.env >>= λ u. local_value at t.ty value acc.env >>= λ v. declares_one acc n at t v

  let_alike : (h : List Name) (start : ℕ) (acc : Declared) (x y : LetCheck) → Hides h acc.env → SameLet h x y → let_next start acc x ≡ let_next start acc y
  let_alike h start acc (declares_by go n at value) (declares_by ho k to other) hides s =
      same_next (go acc.env) (ho acc.env) (after_type start acc n at value) (after_type start acc n at other) (s.0 acc.env hides)
      (λ t e. same_case (new_name start n at acc.env) (λ u. local_value at t.ty value acc.env >>= λ v. declares_one acc n at t v) (λ u. local_value at t.ty other acc.env >>= λ v. declares_one acc n at t v)
      (λ u i. same_then (local_value at t.ty value acc.env) (local_value at t.ty other acc.env) (λ v. declares_one acc n at t v) (value_alike h at t.ty value other acc.env s.3 hides)))
      ∙ ap (λ z. ho acc.env >>= after_type start acc z at other) s.1 ∙ ap (λ z. ho acc.env >>= after_type start acc k z other) s.2
  let_alike h start acc (declares_by go n at value) (constrains_by ho) hides s = absurd s
  let_alike h start acc (constrains_by go) (declares_by ho k to other) hides s = absurd s
  let_alike h start acc (constrains_by go) (constrains_by ho) hides s = same_then (go acc.env) (ho acc.env) (λ e. constrains_one acc e) (s acc.env hides)

  let_hides : (h : List Name) (start : ℕ) (acc : Declared) (x : LetCheck) → Hides h acc.env → Gives (λ (d : Declared). Hides (with_let_check h x) d.env) (let_next start acc x)
  let_hides h start acc (declares_by go n at value) hides =
      gives_next (λ (d : Declared). Hides (with_name h n) d.env) (go acc.env) (after_type start acc n at value)
      (λ t e. gives_next (λ (d : Declared). Hides (with_name h n) d.env) (new_name start n at acc.env) (λ u. local_value at t.ty value acc.env >>= λ v. declares_one acc n at t v)
      (λ u i. gives_next (λ (d : Declared). Hides (with_name h n) d.env) (local_value at t.ty value acc.env) (λ v. declares_one acc n at t v) (λ v j. bound_hides h acc.env n t.ty hides)))
  let_hides h start acc (constrains_by go) hides = gives_next (λ (d : Declared). Hides h d.env) (go acc.env) (λ e. constrains_one acc e) (λ e k. hides)

  abbrev with_let_checks : List Name → List LetCheck → List Name
  with_let_checks h [] = h
  with_let_checks h (x ∷ xs) = with_let_checks (with_let_check h x) xs

  lets_alike : (h : List Name) (start : ℕ) (xs ys : List LetCheck) → SameLets h xs ys → (acc : Declared) → Hides h acc.env → loop (let_next start) acc xs ≡ loop (let_next start) acc ys
  lets_alike h start [] [] s acc hides = refl
  lets_alike h start [] (y ∷ ys) s acc hides = absurd s
  lets_alike h start (x ∷ xs) [] s acc hides = absurd s
  lets_alike h start (x ∷ xs) (y ∷ ys) s acc hides =
      same_next (let_next start acc x) (let_next start acc y) (λ z. loop (let_next start) z xs) (λ z. loop (let_next start) z ys) (let_alike h start acc x y hides s.0)
      (λ z e. lets_alike (with_let_check h x) start xs ys s.1 z (given_by (λ (d : Declared). Hides (with_let_check h x) d.env) (let_next start acc x) z e (let_hides h start acc x hides)))

  lets_hide : (h : List Name) (start : ℕ) (xs : List LetCheck) (acc : Declared) → Hides h acc.env → Gives (λ (d : Declared). Hides (with_let_checks h xs) d.env) (loop (let_next start) acc xs)
  lets_hide h start [] acc hides = hides
  lets_hide h start (x ∷ xs) acc hides =
      gives_next (λ (d : Declared). Hides (with_let_checks (with_let_check h x) xs) d.env) (let_next start acc x) (λ z. loop (let_next start) z xs)
      (λ z e. lets_hide (with_let_check h x) start xs z (given_by (λ (d : Declared). Hides (with_let_check h x) d.env) (let_next start acc x) z e (let_hides h start acc x hides)))

  abbrev none_declared : Env → Declared
  none_declared env = record { items = []; env = env }

  let_of_alike : (h : List Name) (at : Span) (xs ys : List LetCheck) (c d : Check) → SameLets h xs ys → Same (with_let_checks h xs) c d → Same h (let_of at xs c) (let_of at ys d)
  let_of_alike h at xs ys c d ss s env hides =
      same_next (loop (let_next env.next) (none_declared env) xs) (loop (let_next env.next) (none_declared env) ys) (λ z. c z.env >>= λ e. let_node at z.items e) (λ z. d z.env >>= λ e. let_node at z.items e) (lets_alike h env.next xs ys ss (none_declared env) hides)
      (λ z k. same_then (c z.env) (d z.env) (λ e. let_node at z.items e) (s z.env (given_by (λ (w : Declared). Hides (with_let_checks h xs) w.env) (loop (let_next env.next) (none_declared env) xs) z k (lets_hide h env.next xs (none_declared env) hides))))

  -- ---- texts

  piece_alike : (h : List Name) (at : Span) (env : Env) (x y : PieceCheck) → Hides h env → SamePiece h x y → piece at env x ≡ piece at env y
  piece_alike h at env (plain_by n) (plain_by k) hides s = ap (λ z. piece at env (plain_by z)) s
  piece_alike h at env (plain_by n) (shown_by d) hides s = absurd s
  piece_alike h at env (shown_by c) (plain_by k) hides s = absurd s
  piece_alike h at env (shown_by c) (shown_by d) hides s = same_then (c env) (d env) (λ e. row_node (place_of e) (codes "show") (e ∷ [])) (s env hides)

  text_alike : (h : List Name) (at : Span) (xs ys : List PieceCheck) → Pairs (SamePiece h) xs ys → Same h (text_of at xs) (text_of at ys)
  text_alike h at xs ys s env hides = same_then (each (piece at env) xs) (each (piece at env) ys) (λ es. texted at es) (same_each (SamePiece h) (piece at env) (λ x y k. piece_alike h at env x y hides k) xs ys s)

  -- ---- calls

  call_alike : (h : List Name) (at : Span) (n : Name) (c d : Check) (cs ds : List Check) → UseAlike (Call n) → Pairs (Same h) (c ∷ cs) (d ∷ ds) → Same h (call_of m at n (c ∷ cs)) (call_of o at n (d ∷ ds))
  call_alike h at n c d cs ds a s env hides =
      same_next (parts (c ∷ cs) env) (parts (d ∷ ds) env) (λ es. applied m at n es) (λ es. applied o at n es) (parts_alike h (c ∷ cs) (d ∷ ds) env s hides) (λ es k. applied_alike at n es a)

  gen_call_alike : (h : List Name) (at : Span) (n : Name) (xs ys : List GenCheck) (c d : Check) → UseAlike (Call n) → SameGens h xs ys → Same (with_checks h xs) c d → Same h (gen_call_of m at n xs c) (gen_call_of o at n ys d)
  gen_call_alike h at n xs ys c d a ss s env hides =
      same_next (comp_of at false xs c env) (comp_of at false ys d env) (λ e. applied m at n (e ∷ [])) (λ e. applied o at n (e ∷ [])) (comp_alike h at false xs ys c d ss s env hides) (λ e k. applied_alike at n (e ∷ []) a)

  -- ---- the names that are hidden after generators and items of a let

  checks_hide : (x : Model) (h : List Name) (gs : source.Gens) → with_checks h (check_gens x gs) ≡ with_gens h gs
  unfolding with_gens check
  checks_hide x h source.no_gens = refl
  checks_hide x h (source.a_gen (source.generator ns e c) gs) = checks_hide x (with_bound h ns) gs

  let_checks_hide : (x : Model) (h : List Name) (ls : source.Lets) → with_let_checks h (check_lets x ls) ≡ with_lets h ls
  unfolding with_lets check
  let_checks_hide x h source.no_lets = refl
  let_checks_hide x h (source.a_let (source.declared (source.declaration t n s e)) ls) = let_checks_hide x (with_name h n) ls
  let_checks_hide x h (source.a_let (source.constrained e) ls) = let_checks_hide x h ls

  -- ---- whole expressions

  mutual
    unfolding check in_tree

    pub tree_alike : (h : List Name) (e : source.Tree) → Alike (in_tree h e) → Same h (check m e) (check o e)
    tree_alike h (source.node at f) a env hides = form_alike h f at a env hides

    form_alike : (h : List Name) (f : source.Shape) (at : Span) → Alike (in_shape h f) → (env : Env) → Hides h env → check_form m f at env ≡ check_form o f at env
    form_alike h (source.int n) at a env hides = refl
    form_alike h (source.bool x) at a env hides = refl
    form_alike h source.absent at a env hides = refl
    form_alike h (source.text n) at a env hides = refl
    form_alike h (source.ident n) at a env hides = named_alike env at n h hides a
    form_alike h (source.interp ps) at a env hides = text_alike h at (check_pieces m ps) (check_pieces o ps) (pieces_alike h ps a) env hides
    form_alike h (source.unary x e) at a env hides = unary_alike h at x (check m e) (check o e) (tree_alike h e a) env hides
    form_alike h (source.chain e ls) at a env hides =
        chain_alike h at (check m e) (check o e) (check_links m ls) (check_links o ls) (tree_alike h e (front_all UseAlike (in_tree h e) (in_links h ls) a)) (links_alike h ls (back_all UseAlike (in_tree h e) (in_links h ls) a)) env hides
    form_alike h (source.call n source.no_trees) at a env hides = bare_alike env at n h hides (front_all UseAlike (mention h n) [] a)
    form_alike h (source.call n (source.a_tree e es)) at a env hides = call_alike h at n (check m e) (check o e) (checks m es) (checks o es) a.0 (trees_alike h (source.a_tree e es) a.1) env hides
    form_alike h (source.gen_call n gs e) at a env hides =
        gen_call_alike h at n (check_gens m gs) (check_gens o gs) (check m e) (check o e) a.0 (gens_of_alike h gs (front_all UseAlike (in_gens h gs) (in_tree (with_gens h gs) e) a.1))
        (subst (λ k. Same k (check m e) (check o e)) (sym (checks_hide m h gs)) (tree_alike (with_gens h gs) e (back_all UseAlike (in_gens h gs) (in_tree (with_gens h gs) e) a.1))) env hides
    form_alike h (source.access e es) at a env hides =
        access_alike h at (check m e) (check o e) (checks m es) (checks o es) (tree_alike h e (front_all UseAlike (in_tree h e) (in_trees h es) a)) (trees_alike h es (back_all UseAlike (in_tree h e) (in_trees h es) a)) env hides
    form_alike h (source.array es) at a env hides = array_alike h at (checks m es) (checks o es) (trees_alike h es a) env hides
    form_alike h (source.rows rs) at a env hides = rows_alike h at (check_rows m rs) (check_rows o rs) (rows_of_alike h rs a) env hides
    form_alike h (source.set es) at a env hides = set_alike h at (checks m es) (checks o es) (trees_alike h es a) env hides
    form_alike h (source.array_comp e gs) at a env hides =
        comp_alike h at false (check_gens m gs) (check_gens o gs) (check m e) (check o e) (gens_of_alike h gs (front_all UseAlike (in_gens h gs) (in_tree (with_gens h gs) e) a))
        (subst (λ k. Same k (check m e) (check o e)) (sym (checks_hide m h gs)) (tree_alike (with_gens h gs) e (back_all UseAlike (in_gens h gs) (in_tree (with_gens h gs) e) a))) env hides
    form_alike h (source.set_comp e gs) at a env hides =
        comp_alike h at true (check_gens m gs) (check_gens o gs) (check m e) (check o e) (gens_of_alike h gs (front_all UseAlike (in_gens h gs) (in_tree (with_gens h gs) e) a))
        (subst (λ k. Same k (check m e) (check o e)) (sym (checks_hide m h gs)) (tree_alike (with_gens h gs) e (back_all UseAlike (in_gens h gs) (in_tree (with_gens h gs) e) a))) env hides
    form_alike h (source.choice bs e) at a env hides =
        choice_alike h at (check_branches m bs) (check_branches o bs) (check_maybe m e) (check_maybe o e) (branches_alike h bs (front_all UseAlike (in_branches h bs) (in_maybe h e) a)) (maybe_of_alike h e (back_all UseAlike (in_branches h bs) (in_maybe h e) a)) env hides
    form_alike h (source.let_in ls e) at a env hides =
        let_of_alike h at (check_lets m ls) (check_lets o ls) (check m e) (check o e) (lets_of_alike h ls (front_all UseAlike (in_lets h ls) (in_tree (with_lets h ls) e) a))
        (subst (λ k. Same k (check m e) (check o e)) (sym (let_checks_hide m h ls)) (tree_alike (with_lets h ls) e (back_all UseAlike (in_lets h ls) (in_tree (with_lets h ls) e) a))) env hides
    form_alike h source.whole at a env hides = refl

    maybe_of_alike : (h : List Name) (e : source.Maybe) → Alike (in_maybe h e) → OfBoth (Same h) (check_maybe m e) (check_maybe o e)
    maybe_of_alike h source.nothing a = tt
    maybe_of_alike h (source.just e) a = tree_alike h e a

    trees_alike : (h : List Name) (es : source.Trees) → Alike (in_trees h es) → Pairs (Same h) (checks m es) (checks o es)
    trees_alike h source.no_trees a = tt
    trees_alike h (source.a_tree e es) a = (tree_alike h e (front_all UseAlike (in_tree h e) (in_trees h es) a), trees_alike h es (back_all UseAlike (in_tree h e) (in_trees h es) a))

    links_alike : (h : List Name) (ls : source.Links) → Alike (in_links h ls) → Pairs (SameLink h) (check_links m ls) (check_links o ls)
    links_alike h source.no_links a = tt
    links_alike h (source.a_link x e ls) a = ((refl, tree_alike h e (front_all UseAlike (in_tree h e) (in_links h ls) a)), links_alike h ls (back_all UseAlike (in_tree h e) (in_links h ls) a))

    rows_of_alike : (h : List Name) (rs : source.Rows) → Alike (in_rows h rs) → Pairs (Pairs (Same h)) (check_rows m rs) (check_rows o rs)
    rows_of_alike h source.no_rows a = tt
    rows_of_alike h (source.a_row r rs) a = (trees_alike h r (front_all UseAlike (in_trees h r) (in_rows h rs) a), rows_of_alike h rs (back_all UseAlike (in_trees h r) (in_rows h rs) a))

    branches_alike : (h : List Name) (bs : source.Branches) → Alike (in_branches h bs) → Pairs (SameBranch h) (check_branches m bs) (check_branches o bs)
    branches_alike h source.no_branches a = tt
    branches_alike h (source.a_branch c e bs) a =
        let both = front_all UseAlike (in_tree h c ++ in_tree h e) (in_branches h bs) a in (
          (tree_alike h c (front_all UseAlike (in_tree h c) (in_tree h e) both), tree_alike h e (back_all UseAlike (in_tree h c) (in_tree h e) both)),
          branches_alike h bs (back_all UseAlike (in_tree h c ++ in_tree h e) (in_branches h bs) a),
        )

    piece_of_alike : (h : List Name) (x : source.Part) → Alike (in_part h x) → SamePiece h (check_piece m x) (check_piece o x)
    piece_of_alike h (source.plain n) a = refl
    piece_of_alike h (source.shown e) a = tree_alike h e a

    pieces_alike : (h : List Name) (ps : source.Parts) → Alike (in_parts h ps) → Pairs (SamePiece h) (check_pieces m ps) (check_pieces o ps)
    pieces_alike h source.no_parts a = tt
    pieces_alike h (source.a_part x ps) a = (piece_of_alike h x (front_all UseAlike (in_part h x) (in_parts h ps) a), pieces_alike h ps (back_all UseAlike (in_part h x) (in_parts h ps) a))

    gen_of_alike : (h : List Name) (g : source.Generator) → Alike (in_generator h g) → SameGen h (check_gen m g) (check_gen o g)
    gen_of_alike h (source.generator ns e c) a = record {
      names = refl;
      set = tree_alike h e (front_all UseAlike (in_tree h e) (in_maybe (with_bound h ns) c) a);
      cond = maybe_of_alike (with_bound h ns) c (back_all UseAlike (in_tree h e) (in_maybe (with_bound h ns) c) a);
    }

    gens_of_alike : (h : List Name) (gs : source.Gens) → Alike (in_gens h gs) → SameGens h (check_gens m gs) (check_gens o gs)
    gens_of_alike h source.no_gens a = tt
    gens_of_alike h (source.a_gen (source.generator ns e c) gs) a = (
      gen_of_alike h (source.generator ns e c) (front_all UseAlike (in_generator h (source.generator ns e c)) (in_gens (with_bound h ns) gs) a),
      gens_of_alike (with_bound h ns) gs (back_all UseAlike (in_generator h (source.generator ns e c)) (in_gens (with_bound h ns) gs) a),
    )

    let_item_alike : (h : List Name) (l : source.Let) → Alike (in_let h l) → SameLet h (check_let m l) (check_let o l)
    let_item_alike h (source.declared (source.declaration t n at e)) a = (type_alike h t (front_all UseAlike (in_written h t) (in_maybe h e) a), refl, refl, maybe_of_alike h e (back_all UseAlike (in_written h t) (in_maybe h e) a))
    let_item_alike h (source.constrained e) a = tree_alike h e a

    lets_of_alike : (h : List Name) (ls : source.Lets) → Alike (in_lets h ls) → SameLets h (check_lets m ls) (check_lets o ls)
    lets_of_alike h source.no_lets a = tt
    lets_of_alike h (source.a_let (source.declared (source.declaration t n at e)) ls) a = (
      let_item_alike h (source.declared (source.declaration t n at e)) (front_all UseAlike (in_written h t ++ in_maybe h e) (in_lets (with_name h n) ls) a),
      lets_of_alike (with_name h n) ls (back_all UseAlike (in_written h t ++ in_maybe h e) (in_lets (with_name h n) ls) a),
    )
    lets_of_alike h (source.a_let (source.constrained e) ls) a = (tree_alike h e (front_all UseAlike (in_tree h e) (in_lets h ls) a), lets_of_alike h ls (back_all UseAlike (in_tree h e) (in_lets h ls) a))

    pub type_alike : (h : List Name) (t : source.Written) → Alike (in_written h t) → SameType h (check_written m t) (check_written o t)
    type_alike h (source.written at ds var opt set x) a env hides =
        written_alike h at var opt set (check_dims m ds) (check_dims o ds) (check_based m x) (check_based o x) (dims_alike h ds (front_all UseAlike (in_dims h ds) (in_based h x) a)) (base_alike h x (back_all UseAlike (in_dims h ds) (in_based h x) a)) env hides

    base_alike : (h : List Name) (x : source.Based) → Alike (in_based h x) → SameBased h (check_based m x) (check_based o x)
    base_alike h source.base_bool a = tt
    base_alike h source.base_int a = tt
    base_alike h (source.base_of e) a = tree_alike h e a

    dims_alike : (h : List Name) (ds : source.Dims) → Alike (in_dims h ds) → Pairs (SameBased h) (check_dims m ds) (check_dims o ds)
    dims_alike h source.no_array a = tt
    dims_alike h (source.array_of xs) a = bases_alike h xs a

    bases_alike : (h : List Name) (xs : source.Bases) → Alike (in_bases h xs) → Pairs (SameBased h) (check_bases m xs) (check_bases o xs)
    bases_alike h source.no_bases a = tt
    bases_alike h (source.a_base x xs) a = (base_alike h x (front_all UseAlike (in_based h x) (in_bases h xs) a), bases_alike h xs (back_all UseAlike (in_based h x) (in_bases h xs) a))
