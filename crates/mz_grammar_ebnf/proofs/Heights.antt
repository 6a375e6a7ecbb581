-- What is derived of a model with at most k tokens open at once is at most `most k` high.
use Rattle.std.proofs.Common.{ℕ, zero, suc, List, [], ◌∷◌, ◌≡◌, ◌≤◌, ◌+◌, ◌-◌, refl, arith, true, false, Bool}
use Rattle.std.specs.Prelude.{All, max}
use Rattle.std.proofs.Math.Nat.{le-max_right, max-le, le_trans}
use Rattle.std.proofs.lemmas.List.Elements.{All-nil, All-cons, All-head, All-tail}
use Rattle.mz_base.specs.declared.fault.Span.{Span}
use Rattle.mz_lexer.specs.declared.token.Token.{Token}
use Rattle.mz_tree.specs.Tree as pure
use Rattle.mz_tree.specs.Tree.{Tree, Generator, Written, Based, Declaration, written, array_type, marked, base_int, node, trees, links, rows_of, branches, parts, gens, lets, bases}
use Rattle.mz_tree.specs.Height.{height, maybe_height, trees_height, links_height, rows_height, branches_height, parts_height, generator_height, gens_height, let_height, lets_height, declaration_height, written_height, based_height, bases_height, most}
use Rattle.mz_tree.specs.Items.{ItemTree, goal_height, declarations_height, item_height}
use Rattle.mz_grammar.specs.Tokens.{place}
use Rattle.mz_grammar.specs.Operators.{level_number}
use Rattle.mz_grammar_ebnf.specs.ModelSyntax as ebnf
use Rattle.mz_grammar_ebnf.specs.ModelSyntax.{Phrase, Meaning, Derives, DerivesModel, with_accesses}
use Rattle.mz_grammar_ebnf.proofs.ModelClaims.{tighter_number, concat_number}

-- the bounds of an atom with its prefixes, and of a head
unfoldable unit_most : ℕ → ℕ
unit_most zero = 1
unit_most (suc k) = most k + suc (suc k)

unfoldable head_most : ℕ → ℕ
head_most zero = 1
head_most (suc k) = suc (most k)

-- an expression's bound is that of an atom and the twelve levels
most_is : (k : ℕ) → most k ≡ unit_most k + 12
unfolding most unit_most
most_is zero = refl
most_is (suc k) = omega arith

more_open : (k n : ℕ) → n ≤ most k → n ≤ most (suc k)
unfolding most
more_open k n h = omega arith

one_form : (k : ℕ) → 1 ≤ head_most k
unfolding head_most
one_form zero = omega arith
one_form (suc k) = omega arith

-- as many accesses as may be open, round a head
atom_most : (k n : ℕ) → n ≤ head_most k + k → n ≤ unit_most k
unfolding head_most unit_most
atom_most zero n h = omega arith
atom_most (suc k) n h = omega arith

head_below : (k b : ℕ) → most k ≤ b → head_most k ≤ suc b
unfolding head_most most
head_below zero b h = omega arith
head_below (suc k) b h = omega arith

-- the greater of two

one_higher : (a b : ℕ) {c : ℕ} → a ≤ c → b ≤ c → suc (max a b) ≤ suc c
one_higher a b {c = c} h g = let k : max a b ≤ c = max-le h g in omega arith

max_sum : (a b n : ℕ) {c : ℕ} → a + n ≤ c → b + n ≤ c → max a b + n ≤ c
max_sum a b n {c = c} h g = let k : max a b ≤ c - n = max-le (omega arith) (omega arith) in omega arith

-- lists of trees

module _ (b : ℕ) where
  trees_high : (es : List Tree) → All (λ e. height e ≤ b) es → trees_height (trees es) ≤ b
  unfolding height
  trees_high [] h = omega arith
  trees_high (e ∷ es) h = max-le (All-head (λ e. height e ≤ b) e es h) (trees_high es (All-tail (λ e. height e ≤ b) e es h))

  rows_high : (rs : List (List Tree)) → All (All (λ e. height e ≤ b)) rs → rows_height (rows_of rs) ≤ b
  unfolding height
  rows_high [] h = omega arith
  rows_high (r ∷ rs) h = max-le (trees_high r (All-head (All (λ e. height e ≤ b)) r rs h)) (rows_high rs (All-tail (All (λ e. height e ≤ b)) r rs h))

  gens_high : (gs : List Generator) → All (λ g. generator_height g ≤ b) gs → gens_height (gens gs) ≤ b
  unfolding height
  gens_high [] h = omega arith
  gens_high (g ∷ gs) h = max-le (All-head (λ g. generator_height g ≤ b) g gs h) (gens_high gs (All-tail (λ g. generator_height g ≤ b) g gs h))

  bases_high : (bs : List Based) → All (λ t. based_height t ≤ b) bs → bases_height (bases bs) ≤ b
  unfolding height
  bases_high [] h = omega arith
  bases_high (t ∷ bs) h = max-le (All-head (λ t. based_height t ≤ b) t bs h) (bases_high bs (All-tail (λ t. based_height t ≤ b) t bs h))

  declarations_high : (ds : List Declaration) → All (λ d. declaration_height d ≤ b) ds → declarations_height ds ≤ b
  declarations_high [] h = omega arith
  declarations_high (d ∷ ds) h = max-le (All-head (λ d. declaration_height d ≤ b) d ds h) (declarations_high ds (All-tail (λ d. declaration_height d ≤ b) d ds h))

  -- written types

  array_type_high : (s : Span) (bs : List Based) (t : Written) → bases_height (bases bs) ≤ b → written_height t ≤ b → written_height (array_type s bs t) ≤ b
  unfolding height
  array_type_high s bs (written t ds v o st base) h g = max-le h (le_trans (le-max_right _ (based_height base)) g)

  marked_high : (s : Span) (var : Bool) (t : Written) → written_height t ≤ b → written_height (marked s var t) ≤ b
  unfolding height
  marked_high s var (written t ds v o st base) h = h

-- what is derived with at most k tokens open at once is at most so high
abbrev High : ℕ → (p : Phrase) → Meaning p → Type 0
High k ebnf.item i = item_height i ≤ most k
High k ebnf.goal g = goal_height g ≤ most k
High k ebnf.cases cs = Unit {0}
High k ebnf.decl d = declaration_height d ≤ most k
High k ebnf.params ds = declarations_height ds ≤ most k
High k ebnf.param d = declaration_height d ≤ most k
High k ebnf.type t = written_height t ≤ most k
High k ebnf.elem t = written_height t ≤ most k
High k ebnf.unmarked t = written_height t ≤ most k
High k ebnf.base b = based_height b ≤ most k
High k (ebnf.anns f) m = Unit {0}
High k ebnf.marks m = Unit {0}
High k ebnf.expr e = height e ≤ most k
High k ebnf.tight e = height e ≤ most k
High k (ebnf.term (ebnf.level l) f) e = height e + level_number l ≤ unit_most k + 13
High k (ebnf.term (ebnf.operand l) f) e = height e + level_number l ≤ unit_most k + 12
High k (ebnf.term ebnf.unit f) e = height e ≤ unit_most k
High k (ebnf.term ebnf.atom f) e = height e ≤ unit_most k
High k (ebnf.term ebnf.head f) e = height e ≤ head_most k
High k (ebnf.operators l f) ls = links_height (links ls) + level_number l ≤ unit_most k + 12
-- round a head or a shorter access
High k ebnf.accesses ess = (s : Span) (e : Tree) (b : ℕ) → height e ≤ b → head_most k ≤ b → height (with_accesses s e ess) ≤ b + k
High k ebnf.text_rest ps = parts_height (parts ps) ≤ most k
High k ebnf.branch b = (height b.0 ≤ most k) × (height b.1 ≤ most k)
High k ebnf.elseifs bs = branches_height (branches bs) ≤ most k
High k (ebnf.perhaps t) e = maybe_height e ≤ most k
High k ebnf.gen g = generator_height g ≤ most k
High k ebnf.let_item l = let_height l ≤ most k
High k ebnf.let_items ls = lets_height (lets ls) ≤ most k
High k ebnf.name n = Unit {0}
High k (ebnf.list s p) xs = All (High k p) xs
High k (ebnf.optional s p) xs = All (High k p) xs

high : {k : ℕ} {p : Phrase} {ts us : List Token} {x : Meaning p} → Derives k p ts x us → High k p x
unfolding height unit_most head_most
high (ebnf.include_item n h0 h1) = omega arith
high (ebnf.decl_item h0) = high h0
high (ebnf.assign_item n h0 h1 h2) = high h2
high (ebnf.constraint_item h0 h1 h2) = high h2
high (ebnf.solve_item h0 h1 h2) = high h2
high (ebnf.satisfy h0) = omega arith
high (ebnf.minimize h0 h1) = high h1
high (ebnf.maximize h0 h1) = high h1
high (ebnf.output_item h0 h1 h2) = high h2
high (ebnf.predicate_item n h0 h1 h2 h3 h4 h5) = max-le (omega arith) (max-le (high h2) (high h5))
high (ebnf.test_item n h0 h1 h2 h3 h4 h5) = max-le (omega arith) (max-le (high h2) (high h5))
high (ebnf.function_item n h0 h1 h2 h3 h4 h5 h6 h7) = max-le (high h1) (max-le (high h4) (high h7))
high (ebnf.annotation_item n h0 h1 h2) = omega arith
high (ebnf.enum_item n h0 h1 h2 h3) = omega arith
high ebnf.no_cases = tt
high (ebnf.some_cases h0 h1 h2 h3) = tt
high (ebnf.declares n h0 h1 h2 h3 h4) = max-le (high h0) (high h4)
high ebnf.no_params = omega arith
high (ebnf.some_params {k = k} {ds = ds} h0 h1 h2) = more_open k _ (declarations_high (most k) ds (high h1))
high (ebnf.a_param n h0 h1 h2 h3) = max-le (high h0) (omega arith)
high (ebnf.array_of {k = k} {ts = ts} {bs = bs} {t = t} h0 h1 h2 h3 h4 h5 h6) = array_type_high (most (suc k)) (place ts) bs t (more_open k _ (bases_high (most k) bs (high h2))) (high h6)
high (ebnf.list_of {k = k} {ts = ts} {t = t} h0 h1 h2) = array_type_high (most k) (place ts) (base_int ∷ []) t (omega arith) (high h2)
high (ebnf.by_elem h0) = high h0
high (ebnf.var_of {k = k} {ts = ts} {t = t} h0 h1) = marked_high (most k) (place ts) true t (high h1)
high (ebnf.par_of {k = k} {ts = ts} {t = t} h0 h1) = marked_high (most k) (place ts) false t (high h1)
high (ebnf.by_unmarked h0) = high h0
high (ebnf.opt_of h0 h1) = max-le (omega arith) (high h1)
high (ebnf.set_of h0 h1 h2) = max-le (omega arith) (high h2)
high (ebnf.by_base h0) = max-le (omega arith) (high h0)
high (ebnf.bool_base h0) = omega arith
high (ebnf.int_base h0) = omega arith
high (ebnf.tight_base h0) = high h0
high ebnf.no_anns = tt
high (ebnf.more_anns h0 h1 h2) = tt
high (ebnf.last_ann h0 h1) = tt
high ebnf.no_marks = tt
high (ebnf.more_marks h0 h1 h2) = tt
high (ebnf.by_level {k = k} h0) = let h = high h0 in let m = most_is k in omega arith
high (ebnf.by_union {k = k} h0) = let h = high h0 in let m = most_is k in omega arith
high (ebnf.alone l h0) = let h = high h0 in omega arith
high (ebnf.chained {e = e} {ls = ls} l h0 h1 h2) = let h = max_sum (height e) (links_height (links ls)) (level_number l) (high h1) (high h2) in omega arith
high (ebnf.compared {x = x} {y = y} l t o h0 h1 h2 h3 h4) = let g = high h4 in let h = max_sum (height x) (max (height y) 0) (level_number l) (high h1) (max_sum (height y) 0 (level_number l) g (omega arith)) in omega arith
high (ebnf.last_operator {e = e} l t o h0 h1 h2) = let g = high h2 in max_sum (height e) 0 (level_number l) g (omega arith)
high (ebnf.more_operators {e = e} {ls = ls} l t o h0 h1 h2 h3) = max_sum (height e) (links_height (links ls)) (level_number l) (high h2) (high h3)
high (ebnf.by_tighter l m h0 h1) = let h = high h1 in let n = tighter_number l m h0 in omega arith
high (ebnf.by_unit l h0 h1) = let h = high h1 in let n = concat_number l h0 in omega arith
high (ebnf.by_atom h0) = high h0
high (ebnf.prefixed {k = k} t o h0 h1 h2) = let h = high h2 in let m = most_is k in omega arith
high (ebnf.an_atom {k = k} {ts = ts} {e = e} {ess = ess} h0 h1 h2) = atom_most k _ (high h1 (place ts) e (head_most k) (high h0) (omega arith))
high (ebnf.a_let_atom {k = k} {e = e} h0) = let h = high h0 in atom_most k (height e) (omega arith)
high (ebnf.no_access {k = k}) = λ s e b h g. omega arith
high (ebnf.more_accesses {k = k} {es = es} {ess = ess} h0 h1 h2 h3) = λ s e b h g.
    let m : most k ≤ b = omega arith in
    let r = high h3 s (node s (pure.access e (trees es))) (suc b) (one_higher (height e) (trees_height (trees es)) h (le_trans (trees_high (most k) es (high h1)) m)) (head_below k b m) in omega arith
high (ebnf.in_parentheses h0 h1 h2) = let h = high h1 in omega arith
high (ebnf.a_number {k = k} z h0) = one_form k
high (ebnf.a_true {k = k} h0) = one_form k
high (ebnf.a_false {k = k} h0) = one_form k
high (ebnf.absent {k = k} h0) = one_form k
high (ebnf.a_text {k = k} n h0) = one_form k
high (ebnf.an_identifier {k = k} n h0) = one_form k
high (ebnf.text_of_parts n h0 h1) = one_higher 0 _ (omega arith) (high h1)
high (ebnf.last_part n h0 h1) = max-le (high h0) (omega arith)
high (ebnf.more_parts n h0 h1 h2) = max-le (high h0) (max-le {a = 0} (omega arith) (high h2))
high (ebnf.a_call {k = k} {es = es} n h0 h1 h2 h3) = let h = trees_high (most k) es (high h2) in omega arith
high (ebnf.a_generator_call {k = k} {gs = gs} {e = e} n h0 h1 h2 h3 h4 h5 h6) = one_higher (gens_height (gens gs)) (height e) (gens_high (most k) gs (high h2)) (high h5)
high (ebnf.array {k = k} {es = es} h0 h1 h2) = let h = trees_high (most k) es (high h1) in omega arith
high (ebnf.array_of_each {k = k} {e = e} {gs = gs} h0 h1 h2 h3 h4) = one_higher (height e) (gens_height (gens gs)) (high h1) (gens_high (most k) gs (high h3))
high (ebnf.rows {k = k} {rs = rs} h0 h1 h2) = let h = rows_high (most k) rs (high h1) in omega arith
high (ebnf.set {k = k} {es = es} h0 h1 h2) = let h = trees_high (most k) es (high h1) in omega arith
high (ebnf.set_of_each {k = k} {e = e} {gs = gs} h0 h1 h2 h3 h4) = one_higher (height e) (gens_height (gens gs)) (high h1) (gens_high (most k) gs (high h3))
high (ebnf.choice h0 h1 h2 h3 h4) = let b = high h1 in one_higher _ _ (max-le b.0 (max-le b.1 (high h2))) (high h3)
high (ebnf.a_branch h0 h1 h2) = (high h0, high h2)
high ebnf.no_elseif = omega arith
high (ebnf.more_elseifs h0 h1 h2) = let b = high h1 in max-le b.0 (max-le b.1 (high h2))
high (ebnf.let_in {k = k} h0 h1 h2 h3 h4 h5) = one_higher _ _ (more_open k _ (high h2)) (high h5)
high ebnf.no_lets = omega arith
high (ebnf.last_let h0) = max-le (high h0) (omega arith)
high (ebnf.more_lets h0 h1 h2) = max-le (high h0) (high h2)
high (ebnf.a_gen h0 h1 h2 h3) = max-le (high h2) (high h3)
high (ebnf.let_decl h0) = high h0
high (ebnf.let_constraint h0 h1 h2) = high h2
high ebnf.without = omega arith
high (ebnf.with_it h0 h1) = high h1
high (ebnf.a_name n h0) = tt
high (ebnf.last {p = p} {k = k} {x = x} h0) = All-cons (High k p) x [] (high h0) (All-nil (High k p))
high (ebnf.trailing {p = p} {k = k} {x = x} h0 h1) = All-cons (High k p) x [] (high h0) (All-nil (High k p))
high (ebnf.more {p = p} {k = k} {x = x} {xs = xs} h0 h1 h2) = All-cons (High k p) x xs (high h0) (high h2)
high (ebnf.none {p = p} {k = k}) = All-nil (High k p)
high (ebnf.some h0) = high h0

pub items_are_high : (k : ℕ) (tokens : List Token) (items : List ItemTree) → DerivesModel k tokens items → All (λ i. item_height i ≤ most k) items
items_are_high k tokens items d = high d
