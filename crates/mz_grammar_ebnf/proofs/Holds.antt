-- What holds of the tokens' names and places holds of all names and places in what the EBNF derives of them.
use Rattle.std.proofs.Common.{◌≡◌, ◌<◌, ℕ, List, [], ◌∷◌, length, refl, ap, subst, ◌∙◌, inl, inr, true, false, Bool}
use Rattle.std.specs.Prelude.{Some, All, Contains}
use Rattle.std.proofs.lemmas.List.Elements.{All-nil, All-cons, All-head, All-tail, All-append, All-weaker, All-contains_itself}
use Rattle.mz_base.specs.declared.fault.Span.{Span}
use Rattle.mz_lexer.specs.declared.token.Token.{Token}
use Rattle.mz_lexer.specs.declared.token.Tok.{Tok}
use Rattle.mz_lexer.specs.declared.token.Tok.TheVariants.{Ident, Text, TextHead, TextMid, TextTail}
use Rattle.mz_lexer.specs.Views.{IsNamed}
use Rattle.mz_tree.specs.Tree as pure
use Rattle.mz_tree.specs.Tree.{Name, Tree, Generator, Written, Based, written, array_type, marked, base_int, node, trees, links, rows_of, branches, parts, gens, lets, bases}
use Rattle.mz_tree.specs.Items.{ItemTree}
use Rattle.mz_tree.specs.Kinds.{IsSpot, OfTree, OfMaybe, OfTrees, OfLinks, OfRows, OfBranches, OfParts, OfGenerator, OfGens, OfLet, OfLets, OfDeclaration, OfWritten, OfBased, OfBases, OfGoal, OfCases, OfItem}
use Rattle.mz_tree.specs.Data.{Value, Given, values, lines}
use Rattle.mz_tree.specs.Named.{names_in, names_in_all, names_in_lines}
use Rattle.mz_grammar.specs.Tokens.{place}
use Rattle.mz_grammar.specs.Data.{Dimensions}
use Rattle.mz_grammar_ebnf.specs.Next.{Next, begins}
use Rattle.mz_grammar_ebnf.specs.TokenParts.{name_of, IsNameOf, IsPlaceOf, IsIdentifierOf, declared_name, DeclaresIdentifier, OfGiven}
use Rattle.mz_grammar_ebnf.specs.ModelSyntax as model
use Rattle.mz_grammar_ebnf.specs.ModelSyntax.{DerivesModel, with_accesses}
use Rattle.mz_grammar_ebnf.specs.DataSyntax as given
use Rattle.mz_grammar_ebnf.specs.DataSyntax.{DerivesFile}

some_inner : {A : Type 0} {x y : A} → Some x ≡ Some y → x ≡ y
some_inner e = cc

-- a token's name, where the tokens' names are of a table
pub known_name : (names : List (List ℕ)) (t : Tok) → IsNamed names t → (n : Name) → name_of t ≡ Some n → n < length names
known_name names (Ident m) h n e = subst (λ k. k < length names) (some_inner e) h
known_name names (Text m) h n e = subst (λ k. k < length names) (some_inner e) h
known_name names (TextHead m) h n e = subst (λ k. k < length names) (some_inner e) h
known_name names (TextMid m) h n e = subst (λ k. k < length names) (some_inner e) h
known_name names (TextTail m) h n e = subst (λ k. k < length names) (some_inner e) h
known_name names _ h n e = absurd (cc)

-- it holds of the token's name, if it has one, and of its place
abbrev pub OfToken : (Name → Type 0) → (Span → Type 0) → Token → Type 0
OfToken Named Placed t = ((n : Name) → name_of t.tok ≡ Some n → Named n) × Placed t.span

-- where this is known of each token, and it tells of the name and the place
module _ (Named : Name → Type 0) (Placed : Span → Type 0) (Seen : Token → Type 0) (tells : (t : Token) → Seen t → OfToken Named Placed t) where
  -- a token, and those that follow it
  next : {k : Tok} {ts us : List Token} → Next k ts us → All Seen ts → ((n : Name) → name_of k ≡ Some n → Named n) × Placed (place ts) × All Seen us
  next (begins {t = t} {us = us} e) h = let first = tells t (All-head Seen t us h) in (λ n g. first.0 n (ap name_of e ∙ g), first.1, All-tail Seen t us h)

  -- Lists of a tree's parts

  trees_hold : (es : List Tree) → All (OfTree Named Placed) es → OfTrees Named Placed (trees es)
  unfolding OfTree
  trees_hold [] h = tt
  trees_hold (e ∷ es) h = (All-head (OfTree Named Placed) e es h, trees_hold es (All-tail (OfTree Named Placed) e es h))

  rows_hold : (rs : List (List Tree)) → All (All (OfTree Named Placed)) rs → OfRows Named Placed (rows_of rs)
  unfolding OfTree
  rows_hold [] h = tt
  rows_hold (r ∷ rs) h = (trees_hold r (All-head (All (OfTree Named Placed)) r rs h), rows_hold rs (All-tail (All (OfTree Named Placed)) r rs h))

  gens_hold : (gs : List Generator) → All (OfGenerator Named Placed) gs → OfGens Named Placed (gens gs)
  unfolding OfTree
  gens_hold [] h = tt
  gens_hold (g ∷ gs) h = (All-head (OfGenerator Named Placed) g gs h, gens_hold gs (All-tail (OfGenerator Named Placed) g gs h))

  bases_hold : (bs : List Based) → All (OfBased Named Placed) bs → OfBases Named Placed (bases bs)
  unfolding OfTree
  bases_hold [] h = tt
  bases_hold (b ∷ bs) h = (All-head (OfBased Named Placed) b bs h, bases_hold bs (All-tail (OfBased Named Placed) b bs h))

  -- What is made of a tree

  array_type_holds : (s : Span) (bs : List Based) (t : Written) → Placed s → OfBases Named Placed (bases bs) → OfWritten Named Placed t → OfWritten Named Placed (array_type s bs t)
  unfolding OfTree
  array_type_holds s bs (written t ds v o st b) at g h = (at, g, h.2)

  marked_holds : (s : Span) (var : Bool) (t : Written) → Placed s → OfWritten Named Placed t → OfWritten Named Placed (marked s var t)
  unfolding OfTree
  marked_holds s var (written t ds v o st b) at h = (at, h.1, h.2)

  accesses_hold : (s : Span) (e : Tree) (ess : List (List Tree)) → Placed s → OfTree Named Placed e → OfRows Named Placed (rows_of ess) → OfTree Named Placed (with_accesses s e ess)
  unfolding OfTree
  accesses_hold s e [] at h g = h
  accesses_hold s e (es ∷ ess) at h g = accesses_hold s (node s (pure.access e (trees es))) ess at (at, (h, g.0)) g.1

  -- Models

  -- what holds of a phrase's meaning
  abbrev Of : (p : model.Phrase) → model.Meaning p → Type 0
  Of model.item i = OfItem Named Placed i
  Of model.goal g = OfGoal Named Placed g
  Of model.cases cs = OfCases Named Placed cs
  Of model.decl d = OfDeclaration Named Placed d
  Of model.params ds = All (OfDeclaration Named Placed) ds
  Of model.param d = OfDeclaration Named Placed d
  Of model.type t = OfWritten Named Placed t
  Of model.elem t = OfWritten Named Placed t
  Of model.unmarked t = OfWritten Named Placed t
  Of model.base b = OfBased Named Placed b
  Of (model.anns f) m = Unit {0}
  Of model.marks m = Unit {0}
  Of model.expr e = OfTree Named Placed e
  Of model.tight e = OfTree Named Placed e
  Of (model.term g f) e = OfTree Named Placed e
  Of (model.operators l f) ls = OfLinks Named Placed (links ls)
  Of model.accesses ess = OfRows Named Placed (rows_of ess)
  Of model.text_rest ps = OfParts Named Placed (parts ps)
  Of model.branch b = OfTree Named Placed b.0 × OfTree Named Placed b.1
  Of model.elseifs bs = OfBranches Named Placed (branches bs)
  Of (model.perhaps t) e = OfMaybe Named Placed e
  Of model.gen g = OfGenerator Named Placed g
  Of model.let_item l = OfLet Named Placed l
  Of model.let_items ls = OfLets Named Placed (lets ls)
  Of model.name n = IsSpot Named Placed n
  Of (model.list s p) xs = All (Of p) xs
  Of (model.optional s p) xs = All (Of p) xs

  -- and of its place, where its tree has that
  abbrev At : model.Phrase → List Token → Type 0
  At model.base ts = Placed (place ts)
  At model.tight ts = Placed (place ts)
  At (model.term g f) ts = Placed (place ts)
  At _ ts = Unit {0}

  model_holds : {k : ℕ} {p : model.Phrase} {ts us : List Token} {x : model.Meaning p} → model.Derives k p ts x us → All Seen ts → Of p x × At p ts × All Seen us
  unfolding OfTree
  model_holds (model.include_item n h0 h1) h = let a = next h0 h in let b = next h1 a.2 in ((b.0 n refl, b.1), tt, b.2)
  model_holds (model.decl_item h0) h = model_holds h0 h
  model_holds (model.assign_item n h0 h1 h2) h = let a = next h0 h in let b = next h1 a.2 in let e = model_holds h2 b.2 in ((a.0 n refl, a.1, e.0), tt, e.2)
  model_holds (model.constraint_item h0 h1 h2) h = let a = next h0 h in let m = model_holds h1 a.2 in let e = model_holds h2 m.2 in (e.0, tt, e.2)
  model_holds (model.solve_item h0 h1 h2) h = let a = next h0 h in let m = model_holds h1 a.2 in let g = model_holds h2 m.2 in ((a.1, g.0), tt, g.2)
  model_holds (model.satisfy h0) h = let a = next h0 h in (tt, tt, a.2)
  model_holds (model.minimize h0 h1) h = let a = next h0 h in let e = model_holds h1 a.2 in (e.0, tt, e.2)
  model_holds (model.maximize h0 h1) h = let a = next h0 h in let e = model_holds h1 a.2 in (e.0, tt, e.2)
  model_holds (model.output_item h0 h1 h2) h = let a = next h0 h in let m = model_holds h1 a.2 in let e = model_holds h2 m.2 in (e.0, tt, e.2)
  model_holds (model.predicate_item n h0 h1 h2 h3 h4 h5) h = let a = next h0 h in let b = next h1 a.2 in let ds = model_holds h2 b.2 in let m = model_holds h3 ds.2 in let c = next h4 m.2 in let e = model_holds h5 c.2 in ((b.0 n refl, b.1, (a.1, tt, tt), ds.0, e.0), tt, e.2)
  model_holds (model.test_item n h0 h1 h2 h3 h4 h5) h = let a = next h0 h in let b = next h1 a.2 in let ds = model_holds h2 b.2 in let m = model_holds h3 ds.2 in let c = next h4 m.2 in let e = model_holds h5 c.2 in ((b.0 n refl, b.1, (a.1, tt, tt), ds.0, e.0), tt, e.2)
  model_holds (model.function_item n h0 h1 h2 h3 h4 h5 h6 h7) h = let a = next h0 h in let t = model_holds h1 a.2 in let c = next h2 t.2 in let b = next h3 c.2 in let ds = model_holds h4 b.2 in let m = model_holds h5 ds.2 in let d = next h6 m.2 in let e = model_holds h7 d.2 in ((b.0 n refl, b.1, t.0, ds.0, e.0), tt, e.2)
  model_holds (model.annotation_item n h0 h1 h2) h = let a = next h0 h in let b = next h1 a.2 in let ds = model_holds h2 b.2 in (b.0 n refl, tt, ds.2)
  model_holds (model.enum_item n h0 h1 h2 h3) h = let a = next h0 h in let b = next h1 a.2 in let m = model_holds h2 b.2 in let cs = model_holds h3 m.2 in ((b.0 n refl, b.1, cs.0), tt, cs.2)
  model_holds model.no_cases h = (tt, tt, h)
  model_holds (model.some_cases h0 h1 h2 h3) h = let a = next h0 h in let b = next h1 a.2 in let ns = model_holds h2 b.2 in let c = next h3 ns.2 in (ns.0, tt, c.2)
  model_holds (model.declares n h0 h1 h2 h3 h4) h = let t = model_holds h0 h in let c = next h1 t.2 in let b = next h2 c.2 in let m = model_holds h3 b.2 in let v = model_holds h4 m.2 in ((t.0, b.0 n refl, b.1, v.0), tt, v.2)
  model_holds model.no_params h = (All-nil (OfDeclaration Named Placed), tt, h)
  model_holds (model.some_params h0 h1 h2) h = let a = next h0 h in let ds = model_holds h1 a.2 in let c = next h2 ds.2 in (ds.0, tt, c.2)
  model_holds (model.a_param n h0 h1 h2 h3) h = let t = model_holds h0 h in let c = next h1 t.2 in let b = next h2 c.2 in let m = model_holds h3 b.2 in ((t.0, b.0 n refl, b.1, tt), tt, m.2)
  model_holds (model.array_of {ts = ts} {bs = bs} {t = t} h0 h1 h2 h3 h4 h5 h6) h = let a = next h0 h in let b = next h1 a.2 in let c = model_holds h2 b.2 in let d = next h4 c.2 in let e = next h5 d.2 in let f = model_holds h6 e.2 in (array_type_holds (place ts) bs t a.1 (bases_hold bs c.0) f.0, tt, f.2)
  model_holds (model.list_of {ts = ts} {t = t} h0 h1 h2) h = let a = next h0 h in let b = next h1 a.2 in let e = model_holds h2 b.2 in (array_type_holds (place ts) (base_int ∷ []) t a.1 (tt, tt) e.0, tt, e.2)
  model_holds (model.by_elem h0) h = model_holds h0 h
  model_holds (model.var_of {ts = ts} {t = t} h0 h1) h = let a = next h0 h in let e = model_holds h1 a.2 in (marked_holds (place ts) true t a.1 e.0, tt, e.2)
  model_holds (model.par_of {ts = ts} {t = t} h0 h1) h = let a = next h0 h in let e = model_holds h1 a.2 in (marked_holds (place ts) false t a.1 e.0, tt, e.2)
  model_holds (model.by_unmarked h0) h = model_holds h0 h
  model_holds (model.opt_of h0 h1) h = let a = next h0 h in let b = model_holds h1 a.2 in ((a.1, tt, b.0), tt, b.2)
  model_holds (model.set_of h0 h1 h2) h = let a = next h0 h in let c = next h1 a.2 in let b = model_holds h2 c.2 in ((a.1, tt, b.0), tt, b.2)
  model_holds (model.by_base h0) h = let b = model_holds h0 h in ((b.1, tt, b.0), tt, b.2)
  model_holds (model.bool_base h0) h = let a = next h0 h in (tt, a.1, a.2)
  model_holds (model.int_base h0) h = let a = next h0 h in (tt, a.1, a.2)
  model_holds (model.tight_base h0) h = model_holds h0 h
  model_holds model.no_anns h = (tt, tt, h)
  model_holds (model.more_anns h0 h1 h2) h = let a = next h0 h in let e = model_holds h1 a.2 in let m = model_holds h2 e.2 in (tt, tt, m.2)
  model_holds (model.last_ann h0 h1) h = let a = next h0 h in let e = model_holds h1 a.2 in (tt, tt, e.2)
  model_holds model.no_marks h = (tt, tt, h)
  model_holds (model.more_marks h0 h1 h2) h = let a = next h0 h in let e = model_holds h1 a.2 in let m = model_holds h2 e.2 in (tt, tt, m.2)
  model_holds (model.by_level h0) h = let e = model_holds h0 h in (e.0, tt, e.2)
  model_holds (model.by_union h0) h = model_holds h0 h
  model_holds (model.alone l h0) h = model_holds h0 h
  model_holds (model.chained l h0 h1 h2) h = let e = model_holds h1 h in let ls = model_holds h2 e.2 in ((e.1, (e.0, ls.0)), e.1, ls.2)
  model_holds (model.compared l t o h0 h1 h2 h3 h4) h = let x = model_holds h1 h in let a = next h3 x.2 in let y = model_holds h4 a.2 in ((x.1, (x.0, (y.1, y.0, tt))), x.1, y.2)
  model_holds (model.last_operator l t o h0 h1 h2) h = let a = next h1 h in let e = model_holds h2 a.2 in ((e.1, e.0, tt), tt, e.2)
  model_holds (model.more_operators l t o h0 h1 h2 h3) h = let a = next h1 h in let e = model_holds h2 a.2 in let ls = model_holds h3 e.2 in ((e.1, e.0, ls.0), tt, ls.2)
  model_holds (model.by_tighter l m h0 h1) h = model_holds h1 h
  model_holds (model.by_unit l h0 h1) h = model_holds h1 h
  model_holds (model.by_atom h0) h = model_holds h0 h
  model_holds (model.prefixed t o h0 h1 h2) h = let a = next h1 h in let e = model_holds h2 a.2 in ((a.1, e.0), a.1, e.2)
  model_holds (model.an_atom {ts = ts} {e = x} {ess = ess} h0 h1 h2) h = let e = model_holds h0 h in let es = model_holds h1 e.2 in let m = model_holds h2 es.2 in (accesses_hold (place ts) x ess e.1 e.0 es.0, e.1, m.2)
  model_holds (model.a_let_atom h0) h = model_holds h0 h
  model_holds model.no_access h = (tt, tt, h)
  model_holds (model.more_accesses {es = es} h0 h1 h2 h3) h = let a = next h0 h in let e = model_holds h1 a.2 in let c = next h2 e.2 in let rest = model_holds h3 c.2 in ((trees_hold es e.0, rest.0), tt, rest.2)
  model_holds (model.in_parentheses h0 h1 h2) h = let a = next h0 h in let e = model_holds h1 a.2 in let c = next h2 e.2 in (e.0, a.1, c.2)
  model_holds (model.a_number z h0) h = let a = next h0 h in ((a.1, tt), a.1, a.2)
  model_holds (model.a_true h0) h = let a = next h0 h in ((a.1, tt), a.1, a.2)
  model_holds (model.a_false h0) h = let a = next h0 h in ((a.1, tt), a.1, a.2)
  model_holds (model.absent h0) h = let a = next h0 h in ((a.1, tt), a.1, a.2)
  model_holds (model.a_text n h0) h = let a = next h0 h in ((a.1, a.0 n refl), a.1, a.2)
  model_holds (model.an_identifier n h0) h = let a = next h0 h in ((a.1, a.0 n refl), a.1, a.2)
  model_holds (model.text_of_parts n h0 h1) h = let a = next h0 h in let ps = model_holds h1 a.2 in ((a.1, (a.0 n refl, ps.0)), a.1, ps.2)
  model_holds (model.last_part n h0 h1) h = let e = model_holds h0 h in let a = next h1 e.2 in ((e.0, (a.0 n refl, tt)), tt, a.2)
  model_holds (model.more_parts n h0 h1 h2) h = let e = model_holds h0 h in let a = next h1 e.2 in let ps = model_holds h2 a.2 in ((e.0, (a.0 n refl, ps.0)), tt, ps.2)
  model_holds (model.a_call {es = es} n h0 h1 h2 h3) h = let a = next h0 h in let b = next h1 a.2 in let e = model_holds h2 b.2 in let c = next h3 e.2 in ((a.1, (a.0 n refl, trees_hold es e.0)), a.1, c.2)
  model_holds (model.a_generator_call {gs = gs} n h0 h1 h2 h3 h4 h5 h6) h = let a = next h0 h in let b = next h1 a.2 in let g = model_holds h2 b.2 in let c = next h3 g.2 in let d = next h4 c.2 in let e = model_holds h5 d.2 in let f = next h6 e.2 in ((a.1, (a.0 n refl, gens_hold gs g.0, e.0)), a.1, f.2)
  model_holds (model.array {es = es} h0 h1 h2) h = let a = next h0 h in let e = model_holds h1 a.2 in let c = next h2 e.2 in ((a.1, trees_hold es e.0), a.1, c.2)
  model_holds (model.array_of_each {gs = gs} h0 h1 h2 h3 h4) h = let a = next h0 h in let e = model_holds h1 a.2 in let b = next h2 e.2 in let g = model_holds h3 b.2 in let c = next h4 g.2 in ((a.1, (e.0, gens_hold gs g.0)), a.1, c.2)
  model_holds (model.rows {rs = rs} h0 h1 h2) h = let a = next h0 h in let e = model_holds h1 a.2 in let c = next h2 e.2 in ((a.1, rows_hold rs e.0), a.1, c.2)
  model_holds (model.set {es = es} h0 h1 h2) h = let a = next h0 h in let e = model_holds h1 a.2 in let c = next h2 e.2 in ((a.1, trees_hold es e.0), a.1, c.2)
  model_holds (model.set_of_each {gs = gs} h0 h1 h2 h3 h4) h = let a = next h0 h in let e = model_holds h1 a.2 in let b = next h2 e.2 in let g = model_holds h3 b.2 in let c = next h4 g.2 in ((a.1, (e.0, gens_hold gs g.0)), a.1, c.2)
  model_holds (model.choice h0 h1 h2 h3 h4) h = let a = next h0 h in let b = model_holds h1 a.2 in let bs = model_holds h2 b.2 in let e = model_holds h3 bs.2 in let c = next h4 e.2 in ((a.1, ((b.0.0, b.0.1, bs.0), e.0)), a.1, c.2)
  model_holds (model.a_branch h0 h1 h2) h = let b = model_holds h0 h in let a = next h1 b.2 in let e = model_holds h2 a.2 in ((b.0, e.0), tt, e.2)
  model_holds model.no_elseif h = (tt, tt, h)
  model_holds (model.more_elseifs h0 h1 h2) h = let a = next h0 h in let b = model_holds h1 a.2 in let bs = model_holds h2 b.2 in ((b.0.0, b.0.1, bs.0), tt, bs.2)
  model_holds (model.let_in h0 h1 h2 h3 h4 h5) h = let a = next h0 h in let b = next h1 a.2 in let ls = model_holds h2 b.2 in let c = next h3 ls.2 in let d = next h4 c.2 in let e = model_holds h5 d.2 in ((a.1, (ls.0, e.0)), a.1, e.2)
  model_holds model.no_lets h = (tt, tt, h)
  model_holds (model.last_let h0) h = let l = model_holds h0 h in ((l.0, tt), tt, l.2)
  model_holds (model.more_lets h0 (inl s) h2) h = let l = model_holds h0 h in let c = next s l.2 in let ls = model_holds h2 c.2 in ((l.0, ls.0), tt, ls.2)
  model_holds (model.more_lets h0 (inr s) h2) h = let l = model_holds h0 h in let c = next s l.2 in let ls = model_holds h2 c.2 in ((l.0, ls.0), tt, ls.2)
  model_holds (model.a_gen h0 h1 h2 h3) h = let ns = model_holds h0 h in let a = next h1 ns.2 in let e = model_holds h2 a.2 in let w = model_holds h3 e.2 in ((ns.0, e.0, w.0), tt, w.2)
  model_holds (model.let_decl h0) h = model_holds h0 h
  model_holds (model.let_constraint h0 h1 h2) h = let a = next h0 h in let m = model_holds h1 a.2 in let e = model_holds h2 m.2 in (e.0, tt, e.2)
  model_holds model.without h = (tt, tt, h)
  model_holds (model.with_it h0 h1) h = let a = next h0 h in let e = model_holds h1 a.2 in (e.0, tt, e.2)
  model_holds (model.a_name n h0) h = let a = next h0 h in ((a.0 n refl, a.1), tt, a.2)
  model_holds (model.last {p = p} {x = x} h0) h = let e = model_holds h0 h in (All-cons (Of p) x [] e.0 (All-nil (Of p)), tt, e.2)
  model_holds (model.trailing {p = p} {x = x} h0 h1) h = let e = model_holds h0 h in let c = next h1 e.2 in (All-cons (Of p) x [] e.0 (All-nil (Of p)), tt, c.2)
  model_holds (model.more {p = p} {x = x} {xs = xs} h0 h1 h2) h = let e = model_holds h0 h in let c = next h1 e.2 in let es = model_holds h2 c.2 in (All-cons (Of p) x xs e.0 es.0, tt, es.2)
  model_holds (model.none {p = p}) h = (All-nil (Of p), tt, h)
  model_holds (model.some h0) h = model_holds h0 h

  -- Data files

  abbrev OfValue : Value → Type 0
  OfValue v = All Named (names_in v)

  values_hold : (vs : List Value) → All OfValue vs → All Named (names_in_all (values vs))
  unfolding names_in
  values_hold [] h = All-nil Named
  values_hold (v ∷ vs) h = All-append Named (names_in v) (names_in_all (values vs)) (All-head OfValue v vs h) (values_hold vs (All-tail OfValue v vs h))

  lines_hold : (ls : List (List Value)) → All (All OfValue) ls → All Named (names_in_lines (lines ls))
  unfolding names_in
  lines_hold [] h = All-nil Named
  lines_hold (l ∷ ls) h = All-append Named (names_in_all (values l)) (names_in_lines (lines ls)) (values_hold l (All-head (All OfValue) l ls h)) (lines_hold ls (All-tail (All OfValue) l ls h))

  abbrev OfData : (p : given.Phrase) → given.Meaning p → Type 0
  OfData given.one v = OfValue v
  OfData given.set v = OfValue v
  OfData given.plain v = OfValue v
  OfData (given.datum d) v = OfValue v
  OfData (given.item d) g = OfGiven Named Placed g
  OfData (given.list s p) xs = All (OfData p) xs
  OfData (given.optional s p) xs = All (OfData p) xs

  abbrev DataAt : given.Phrase → List Token → Type 0
  DataAt (given.item d) ts = Unit {0}
  DataAt (given.list s p) ts = Unit {0}
  DataAt (given.optional s p) ts = Unit {0}
  DataAt _ ts = Placed (place ts)

  data_holds : {k : ℕ} {p : given.Phrase} {ts us : List Token} {x : given.Meaning p} → given.Derives k p ts x us → All Seen ts → OfData p x × DataAt p ts × All Seen us
  unfolding names_in
  data_holds (given.a_true h0) h = let a = next h0 h in (All-nil Named, a.1, a.2)
  data_holds (given.a_false h0) h = let a = next h0 h in (All-nil Named, a.1, a.2)
  data_holds (given.a_number z h0) h = let a = next h0 h in (All-nil Named, a.1, a.2)
  data_holds (given.a_negative n h0 h1) h = let a = next h0 h in let b = next h1 a.2 in (All-nil Named, a.1, b.2)
  data_holds (given.a_name n h0) h = let a = next h0 h in (All-cons Named n [] (a.0 n refl) (All-nil Named), a.1, a.2)
  data_holds (given.braces {xs = xs} h0 h1 h2) h = let a = next h0 h in let v = data_holds h1 a.2 in let c = next h2 v.2 in (values_hold xs v.0, a.1, c.2)
  data_holds (given.range {x = x} {y = y} h0 h1 h2) h = let v = data_holds h0 h in let a = next h1 v.2 in let w = data_holds h2 a.2 in (All-append Named (names_in x) (names_in y) v.0 w.0, v.1, w.2)
  data_holds (given.set_name n h0) h = let a = next h0 h in (All-cons Named n [] (a.0 n refl) (All-nil Named), a.1, a.2)
  data_holds (given.by_one h0) h = data_holds h0 h
  data_holds (given.by_set h0) h = data_holds h0 h
  data_holds (given.absent h0) h = let a = next h0 h in (All-nil Named, a.1, a.2)
  data_holds (given.by_plain h0) h = data_holds h0 h
  data_holds (given.array {xs = xs} h0 h1 h2) h = let a = next h0 h in let v = data_holds h1 a.2 in let c = next h2 v.2 in (values_hold xs v.0, a.1, c.2)
  data_holds (given.rows {ls = ls} h0 h1 h2) h = let a = next h0 h in let v = data_holds h1 a.2 in let c = next h2 v.2 in (lines_hold ls v.0, a.1, c.2)
  data_holds (given.array_nd {ss = ss} {es = es} n h0 h1 h2 h3 h4 h5 h6 h7 h8) h =
      let a = next h0 h in let b = next h2 a.2 in let v = data_holds h3 b.2 in let c = next h4 v.2 in let d = next h5 c.2 in let w = data_holds h6 d.2 in let e = next h7 w.2 in let f = next h8 e.2 in
      (All-append Named (names_in_all (values ss)) (names_in_all (values es)) (values_hold ss v.0) (values_hold es w.0), a.1, f.2)
  data_holds (given.assigns n h0 h1 h2) h = let a = next h0 h in let b = next h1 a.2 in let v = data_holds h2 b.2 in ((a.0 n refl, a.1, v.1, v.0), tt, v.2)
  data_holds (given.last {p = p} {x = x} h0) h = let e = data_holds h0 h in (All-cons (OfData p) x [] e.0 (All-nil (OfData p)), tt, e.2)
  data_holds (given.trailing {p = p} {x = x} h0 h1) h = let e = data_holds h0 h in let c = next h1 e.2 in (All-cons (OfData p) x [] e.0 (All-nil (OfData p)), tt, c.2)
  data_holds (given.more {p = p} {x = x} {xs = xs} h0 h1 h2) h = let e = data_holds h0 h in let c = next h1 e.2 in let es = data_holds h2 c.2 in (All-cons (OfData p) x xs e.0 es.0, tt, es.2)
  data_holds (given.none {p = p}) h = (All-nil (OfData p), tt, h)
  data_holds (given.some h0) h = data_holds h0 h

-- what holds of the tokens' names and places
pub items_hold : (Named : Name → Type 0) (Placed : Span → Type 0) {k : ℕ} {tokens : List Token} {items : List ItemTree} → DerivesModel k tokens items → All (OfToken Named Placed) tokens → All (OfItem Named Placed) items
items_hold Named Placed d h = (model_holds Named Placed (OfToken Named Placed) (λ t seen. seen) d h).0

pub data_items_hold : (Named : Name → Type 0) (Placed : Span → Type 0) {d : Dimensions} {k : ℕ} {tokens : List Token} {items : List Given} → DerivesFile d k tokens items → All (OfToken Named Placed) tokens → All (OfGiven Named Placed) items
data_items_hold Named Placed d h = (data_holds Named Placed (OfToken Named Placed) (λ t seen. seen) d h).0

-- each name and each place is that of a token
own_parts : (tokens : List Token) → All (OfToken (IsNameOf tokens) (IsPlaceOf tokens)) tokens
own_parts tokens = All-weaker (Contains tokens) (OfToken (IsNameOf tokens) (IsPlaceOf tokens)) (λ t c. (λ n e. (t, c, e), (t, c, refl))) tokens (All-contains_itself tokens)

pub items_have_parts : (k : ℕ) (tokens : List Token) (items : List ItemTree) → DerivesModel k tokens items → All (OfItem (IsNameOf tokens) (IsPlaceOf tokens)) items
items_have_parts k tokens items d = items_hold (IsNameOf tokens) (IsPlaceOf tokens) d (own_parts tokens)

pub data_items_have_parts : (d : Dimensions) (k : ℕ) (tokens : List Token) (items : List Given) → DerivesFile d k tokens items → All (OfGiven (IsNameOf tokens) (IsPlaceOf tokens)) items
data_items_have_parts d k tokens items h = data_items_hold (IsNameOf tokens) (IsPlaceOf tokens) h (own_parts tokens)

-- ---- the names of declarations are those of identifiers

-- what follows a phrase is seen as well
rest_seen : (Seen : Token → Type 0) {k : ℕ} {p : model.Phrase} {ts us : List Token} {x : model.Meaning p} → model.Derives k p ts x us → All Seen ts → All Seen us
rest_seen Seen d h = (model_holds (λ n. Unit {0}) (λ s. Unit {0}) Seen (λ t seen. (λ n e. tt, tt)) d h).2

next_seen : (Seen : Token → Type 0) {k : Tok} {ts us : List Token} → Next k ts us → All Seen ts → ((t : Token) × Seen t × (t.tok ≡ k)) × All Seen us
next_seen Seen (begins {t = t} {us = us} e) h = ((t, All-head Seen t us h, e), All-tail Seen t us h)

abbrev Identifies : List Token → (p : model.Phrase) → model.Meaning p → Type 0
Identifies whole model.item i = DeclaresIdentifier whole i
Identifies whole model.decl d = IsIdentifierOf whole (declared_name d)
Identifies whole (model.list s p) xs = All (Identifies whole p) xs
Identifies whole (model.optional s p) xs = All (Identifies whole p) xs
Identifies whole _ x = Unit {0}

identified : (whole : List Token) {k : ℕ} {p : model.Phrase} {ts us : List Token} {x : model.Meaning p} → model.Derives k p ts x us → All (Contains whole) ts → Identifies whole p x
identified whole (model.decl_item h0) h = identified whole h0 h
identified whole (model.declares n h0 h1 h2 h3 h4) h =
    let colon = rest_seen (Contains whole) h0 h in
    let name = (next_seen (Contains whole) h1 colon).1 in
    (next_seen (Contains whole) h2 name).0
identified whole (model.last {p = p} {x = x} h0) h = All-cons (Identifies whole p) x [] (identified whole h0 h) (All-nil (Identifies whole p))
identified whole (model.trailing {p = p} {x = x} h0 h1) h = All-cons (Identifies whole p) x [] (identified whole h0 h) (All-nil (Identifies whole p))
identified whole (model.more {p = p} {x = x} {xs = xs} h0 h1 h2) h =
    let after = (next_seen (Contains whole) h1 (rest_seen (Contains whole) h0 h)).1 in
    All-cons (Identifies whole p) x xs (identified whole h0 h) (identified whole h2 after)
identified whole (model.none {p = p}) h = All-nil (Identifies whole p)
identified whole (model.some h0) h = identified whole h0 h
identified whole _ h = tt

pub declarations_identified : (k : ℕ) (tokens : List Token) (items : List ItemTree) → DerivesModel k tokens items → All (DeclaresIdentifier tokens) items
declarations_identified k tokens items d = identified tokens d (All-contains_itself tokens)
