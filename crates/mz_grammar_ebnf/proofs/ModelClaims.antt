-- What is claimed of the parts of a model that the rules take, and how the claims of terms follow from those of their parts.
use Rattle.std.proofs.Common.{◌≡◌, ◌≤◌, ◌<◌, ℕ, suc, List, [], ◌∷◌, length, refl, sym, ap, ◌∙◌, subst, true, false, Bool, Option, inl, inr, ◌⊎◌, arith}
use Rattle.std.specs.Prelude.{Some, None, nat_eq, if◌then◌else◌, ◌||◌}
use Rattle.std.proofs.lemmas.Bool.{eqb-true}
use Rattle.std.proofs.lemmas.Bool.Decides.{Decides-eqb}
use Rattle.std.proofs.Math.Arith.{lt_of_le-ne}
use Rattle.mz_base.specs.declared.fault.Span.{Span}
use Rattle.mz_base.specs.declared.keyword.Keyword.TheVariants.{KElse, KEndif, KIn, KWhere}
use Rattle.mz_lexer.specs.declared.token.Token.{Token}
use Rattle.mz_lexer.specs.declared.token.Tok.{Tok}
use Rattle.mz_lexer.specs.declared.token.Tok.TheVariants.{Word, Sym, Ident}
use Rattle.mz_lexer.specs.declared.token.Symbol.{Symbol}
use Rattle.mz_lexer.specs.declared.token.Symbol.TheVariants.{SRParen, SLBrack, SRBrack, SLBrace, SRBrace, SRRows, SBar, SComma, SSemi, SColons, SEq}
use Rattle.mz_tree.specs.declared.expr.UnOp.{UnOp}
use Rattle.mz_tree.specs.declared.expr.BinOp.{BinOp}
use Rattle.mz_tree.specs.declared.expr.BinOp.TheVariants as op
use Rattle.mz_tree.specs.declared.expr.PlacedOp.{PlacedOp}
use Rattle.mz_tree.specs.Tree as pure
use Rattle.mz_tree.specs.Tree.{Name, Tree, node, links, op_before}
use Rattle.mz_tree.specs.Items.{ItemTree}
use Rattle.mz_grammar.specs.Tokens.{place, tok_at}
use Rattle.mz_grammar.specs.Look.{is_sym, symbol_number}
use Rattle.mz_grammar.specs.declared.level.Level.{Level}
use Rattle.mz_grammar.specs.declared.level.Level.TheVariants as level_is
use Rattle.mz_grammar.specs.Operators.{operator_of, prefix_of, binary_of, if_level, level_number, is_nonassociative, tighter_level}
use Rattle.mz_grammar.specs.Arguments.{awaits_in}
use Rattle.mz_grammar.specs.Tests.{closing_symbol}
use Rattle.mz_grammar.specs.Parts
use Rattle.mz_grammar.specs.Parts.{Operand, name, member, other, at_of, tree_of, link_of, related, related_by, chained, Place, Value}
use Rattle.mz_grammar.specs.Model.{unless_annotated}
use Rattle.mz_grammar_ebnf.specs.Next.{Next, begins}
use Rattle.mz_grammar_ebnf.specs.ModelSyntax as ebnf
use Rattle.mz_grammar_ebnf.specs.ModelSyntax.{Grade, Ending, closed, with_body, Phrase, Meaning, Derives, list, optional, term, operators, accesses, anns, with_accesses}
use Rattle.mz_grammar_ebnf.proofs.Turned.{Kind, Args, no_some, some_inner}

-- What may follow a term

-- no operator of a level so tight, but one that doesn't associate
abbrev pub Looser : ℕ → List Token → Type 0
Looser n us = (o : Level × BinOp) → operator_of (tok_at us) ≡ Some o → is_nonassociative o.0 ≡ false → level_number o.0 < n

-- no access, and no annotation
abbrev pub Sealed : List Token → Type 0
Sealed us = (is_sym SLBrack (tok_at us) ≡ false) × (is_sym SColons (tok_at us) ≡ false)

-- nothing that the body of a let takes
abbrev pub Ended : List Token → Type 0
Ended us = Looser 1 us × Sealed us

abbrev pub IfBody : Ending → List Token → Type 0
IfBody closed us = Unit {0}
IfBody with_body us = Ended us

pub record Term (g : Grade) (k : ℕ) (ts : List Token) (x : Operand) (us : List Token) : Type 0 where
  pub at : at_of x ≡ place ts
  pub ending : Ending
  pub derived : Derives k (term g ending) ts (tree_of x) us
  pub longest : IfBody ending us
  pub kind : Kind k x ts us

-- an operand with operators after it
pub data Follow (l : Level) (k : ℕ) : List Token → List (PlacedOp × Tree) → List Token → Type 0 where
  no_operator : {ts : List Token} → binary_of l (tok_at ts) ≡ None → Follow l k ts [] ts
  one_operator : {f : Ending} {ts us vs : List Token} {y : Tree} (t : Tok) (o : BinOp) → is_nonassociative l ≡ true → binary_of l (Some t) ≡ Some o → Next t ts us → Derives k (term (ebnf.operand l) f) us y vs → IfBody f vs → Sealed vs → Looser (level_number l) vs → Follow l k ts ((op_before o (place us), y) ∷ []) vs
  some_operators : {f : Ending} {ts us : List Token} {p : PlacedOp × Tree} {ls : List (PlacedOp × Tree)} → is_nonassociative l ≡ false → binary_of l (tok_at ts) ≡ Some p.0.op → Derives k (operators l f) ts (p ∷ ls) us → IfBody f us → Sealed us → Looser (level_number l) us → Follow l k ts (p ∷ ls) us

-- an access after what was read
abbrev pub Accessed : Operand → ℕ → List Token → Operand → List Token → Type 0
Accessed x k ts y us = (ess : List (List Tree)) × (is_sym SLBrack (tok_at ts) ≡ true) × Derives k accesses ts ess us × (y ≡ other (at_of x) (with_accesses (at_of x) (tree_of x) ess))

-- whether there are annotations
abbrev pub Told : Bool → List Token → List Token → Type 0
Told false ts us = us ≡ ts
Told true ts us = (is_sym SLBrack (tok_at us) ≡ false) × (is_sym SColons (tok_at ts) ≡ true)

-- What is claimed of the parts

-- the elements up to the closing symbol
abbrev pub UpTo : Symbol → Symbol → (p : Phrase) → ℕ → List Token → List (Meaning p) → List Token → Type 0
UpTo closing s p k ts xs us = (vs : List Token) × Derives k (optional s p) ts xs vs × Next (Sym closing) vs us

abbrev pub Claim : (n : Place) → ℕ → List Token → Value n → List Token → Type 0
Claim Parts.file k ts x us = Derives k (optional SSemi ebnf.item) ts x us
Claim Parts.more_items k ts x us = (hs : List Token) (i : ItemTree) → Derives k ebnf.item hs i ts → Derives k (optional SSemi ebnf.item) hs (i ∷ x) us
Claim Parts.item k ts x us = Derives k ebnf.item ts x us
Claim Parts.goal k ts x us = Derives k ebnf.goal ts x us
Claim Parts.cases k ts x us = Derives k ebnf.cases ts x us
Claim Parts.case_names k ts x us = UpTo SRBrace SComma ebnf.name k ts x us
Claim Parts.params k ts x us = Derives k ebnf.params ts x us
Claim Parts.param_list k ts x us = UpTo SRParen SComma ebnf.param k ts x us
Claim Parts.param k ts x us = Derives k ebnf.param ts x us
Claim Parts.declaration k ts x us = Derives k ebnf.decl ts x us
Claim (Parts.declared t) k ts x us = (hs : List Token) → Derives k ebnf.type hs t ts → Derives k ebnf.decl hs x us
Claim Parts.value k ts x us = Derives k (ebnf.perhaps (Sym SEq)) ts x us
Claim Parts.type k ts x us = Derives k ebnf.type ts x us
Claim Parts.element k ts x us = Derives k ebnf.elem ts x us
Claim Parts.unmarked k ts x us = Derives k ebnf.unmarked ts x us
Claim Parts.base k ts x us = (x.0 ≡ place ts) × Derives k ebnf.base ts x.1 us
Claim (Parts.index_types n) k ts x us = (vs : List Token) × Derives k (optional SComma ebnf.base) ts x vs × Next (Sym SRBrack) vs us × (length x ≤ n)
Claim Parts.expr k ts x us = Derives k ebnf.expr ts x us × Ended us
Claim (Parts.level l) k ts x us = Term (ebnf.level l) k ts x us × Sealed us × Looser (level_number l) us
Claim (Parts.operand l) k ts x us = Term (ebnf.operand l) k ts x us × Sealed us × Looser (suc (level_number l)) us
Claim (Parts.operators l) k ts x us = Follow l k ts x us
Claim (Parts.more_operators l done) k ts x us = (hs ms : List Token) (t : Tok) (o : BinOp) (y : Operand) → is_nonassociative l ≡ done → binary_of l (Some t) ≡ Some o → Next t hs ms → Term (ebnf.operand l) k ms y ts × Sealed ts × Looser (suc (level_number l)) ts → Follow l k hs (link_of o y ∷ x) us
Claim Parts.unit k ts x us = Term ebnf.unit k ts x us × Sealed us
Claim Parts.atom k ts x us = Term ebnf.atom k ts x us × Sealed us
Claim (Parts.accesses y) k ts x us = (is_sym SLBrack (tok_at us) ≡ false) × (((x ≡ y) × (us ≡ ts)) ⊎ Accessed y k ts x us)
Claim Parts.indices k ts x us = (vs : List Token) × Derives k (list SComma ebnf.expr) ts x vs × Next (Sym SRBrack) vs us
Claim Parts.more_indices k ts x us = UpTo SRBrack SComma ebnf.expr k ts x us
Claim Parts.annotations k ts x us = (f : Ending) × Derives k (anns f) ts tt us × IfBody f us × (is_sym SColons (tok_at us) ≡ false) × Told x ts us
Claim Parts.marks k ts x us = Derives k ebnf.marks ts tt us
Claim Parts.head k ts x us = Term ebnf.head k ts x us
Claim (Parts.named n s) k ts x us = (hs : List Token) → s ≡ place hs → Next (Ident n) hs ts → Term ebnf.head k hs x us
Claim (Parts.arguments t) k ts x us = (vs : List Token) × Args k (awaits_in t) ts x vs × Next (Sym SRParen) vs us
Claim Parts.text_rest k ts x us = Derives k ebnf.text_rest ts x us
Claim (Parts.elements c) k ts x us = UpTo (closing_symbol c) SComma ebnf.expr k ts x us
Claim Parts.array_body k ts x us = (hs : List Token) → Next (Sym SLBrack) hs ts → Derives (suc k) (term ebnf.head closed) hs (node (place hs) x) us
Claim Parts.set_body k ts x us = (hs : List Token) → Next (Sym SLBrace) hs ts → Derives (suc k) (term ebnf.head closed) hs (node (place hs) x) us
Claim Parts.rows_body k ts x us = UpTo SRRows SBar (list SComma ebnf.expr) k ts x us
Claim Parts.more_rows k ts x us = (hs : List Token) (r : List Tree) → Derives k (list SComma ebnf.expr) hs r ts → UpTo SRRows SBar (list SComma ebnf.expr) k hs (r ∷ x) us
Claim Parts.row k ts x us = Derives k (list SComma ebnf.expr) ts x us
Claim Parts.cells k ts x us = (hs : List Token) (e : Tree) → Derives k ebnf.expr hs e ts → Derives k (list SComma ebnf.expr) hs (e ∷ x) us
Claim Parts.generator k ts x us = Derives k ebnf.gen ts x us
Claim Parts.more_names k ts x us = (hs : List Token) (n : Name) (s : Span) → s ≡ place hs → Next (Ident n) hs ts → Derives k (list SComma ebnf.name) hs ((n, s) ∷ x) us
Claim Parts.filter k ts x us = Derives k (ebnf.perhaps (Word KWhere)) ts x us
Claim (Parts.generators c) k ts x us = UpTo (closing_symbol c) SComma ebnf.gen k ts x us
Claim Parts.branch k ts x us = Derives k ebnf.branch ts x us
Claim Parts.branches k ts x us = (vs : List Token) × (ws : List Token) × Derives k ebnf.elseifs ts x.0 vs × Derives k (ebnf.perhaps (Word KElse)) vs x.1 ws × Next (Word KEndif) ws us
Claim Parts.let_items k ts x us = (vs : List Token) × Derives k ebnf.let_items ts x vs × Next (Sym SRBrace) vs us
Claim Parts.let_item k ts x us = Derives k ebnf.let_item ts x us

-- as deep as the room says
pub as_deep : {k r : ℕ} {p : Phrase} {ts us : List Token} {x : Meaning p} → k ≡ r → Derives r p ts x us → Derives k p ts x us
as_deep {p = p} {ts = ts} {us = us} {x = x} e h = subst (λ k. Derives k p ts x us) (sym e) h

pub differ : {b : Bool} → b ≡ false → b ≡ true → ⊥
differ e g = absurd (cc)

-- What follows a term

pub number_low : (l : Level) → level_number l < 13
number_low level_is.Iff = omega arith
number_low _ = omega arith

number_positive : (l : Level) → 0 < level_number l
number_positive level_is.Iff = omega arith
number_positive _ = omega arith

abbrev nonassociative_at : ℕ → Bool
nonassociative_at n = nat_eq n 5 || (nat_eq n 6 || nat_eq n 8)

nonassociative_number : (l : Level) → nonassociative_at (level_number l) ≡ is_nonassociative l
nonassociative_number level_is.Iff = refl
nonassociative_number _ = refl

-- the operator that follows is of another level
other_level : (l : Level) (o : Level × BinOp) → if_level l (Some o) ≡ None → level_number o.0 ≡ level_number l → ⊥
other_level l o e g = go (nat_eq (level_number o.0) (level_number l)) (same (level_number o.0) (level_number l) g) e
  where
    same : (a b : ℕ) → a ≡ b → nat_eq a b ≡ true
    same a b g = (Decides-eqb a b).1 g

    go : (b : Bool) → b ≡ true → (if b then Some o.1 else None) ≡ None → ⊥
    go true h e = absurd (cc)
    go false h e = absurd (cc)

below : (a b : ℕ) → a < suc b → (a ≡ b → ⊥) → a < b
below a b h n = lt_of_le-ne (omega (arith, h)) n

-- what operator of the level a token is
of_level : (l : Level) (q : Option Tok) → if_level l (operator_of q) ≡ binary_of l q
of_level l None = refl
of_level l (Some t) = refl

-- no operator of this level follows
pub looser : (l : Level) (us : List Token) → Looser (suc (level_number l)) us → binary_of l (tok_at us) ≡ None → Looser (level_number l) us
looser l us h e = λ o g s. below (level_number o.0) (level_number l) (h o g s) (other_level l o (sym (ap (if_level l) g) ∙ of_level l (tok_at us) ∙ e))

-- operators of this level don't associate
pub looser_nonassociative : (l : Level) (us : List Token) → Looser (suc (level_number l)) us → is_nonassociative l ≡ true → Looser (level_number l) us
looser_nonassociative l us h e = λ o g s. below (level_number o.0) (level_number l) (h o g s) (λ q. differ (sym (nonassociative_number l) ∙ ap nonassociative_at (sym q) ∙ nonassociative_number o.0 ∙ s) e)

-- the operator of a level
by_level : (l : Level) (q : Option (Level × BinOp)) (o : BinOp) → if_level l q ≡ Some o → (p : Level × BinOp) × (q ≡ Some p) × (level_number p.0 ≡ level_number l) × (p.1 ≡ o)
by_level l None o e = absurd (no_some e)
by_level l (Some p) o e = (p, refl, go (nat_eq (level_number p.0) (level_number l)) refl e, told (nat_eq (level_number p.0) (level_number l)) e)
  where
    go : (b : Bool) → nat_eq (level_number p.0) (level_number l) ≡ b → (if b then Some p.1 else None) ≡ Some o → level_number p.0 ≡ level_number l
    go true h e = eqb-true _ _ h
    go false h e = absurd (no_some e)

    told : (b : Bool) → (if b then Some p.1 else None) ≡ Some o → p.1 ≡ o
    told true e = some_inner e
    told false e = absurd (no_some e)

-- an operator that associates doesn't follow the body of a let
pub no_operator_after : (l : Level) (o : BinOp) (us : List Token) → Ended us → binary_of l (tok_at us) ≡ Some o → is_nonassociative l ≡ false → ⊥
no_operator_after l o us h e s =
    let p = by_level l (operator_of (tok_at us)) o (of_level l (tok_at us) ∙ e) in
    none_below (number_positive p.0.0) (h.0 p.0 p.1 (sym (nonassociative_number p.0.0) ∙ ap nonassociative_at p.2 ∙ nonassociative_number l ∙ s))
  where
    none_below : {n : ℕ} → 0 < n → n < 1 → ⊥
    none_below a h = omega (arith, a, h)

pub is_closed : (l : Level) (o : BinOp) (f : Ending) (us : List Token) → IfBody f us → binary_of l (tok_at us) ≡ Some o → is_nonassociative l ≡ false → f ≡ closed
is_closed l o closed us h e s = refl
is_closed l o with_body us h e s = absurd (no_operator_after l o us h e s)

-- Operators

pub told : (t : Tok) {ts us : List Token} → Next t ts us → tok_at ts ≡ Some t
told t (begins e) = ap Some e

some_more : {l : Level} {k : ℕ} {f : Ending} {ts us vs : List Token} {y : Tree} (t : Tok) (o : BinOp) (ls : List (PlacedOp × Tree)) → is_nonassociative l ≡ false → binary_of l (Some t) ≡ Some o → Next t ts us → Derives k (term (ebnf.operand l) f) us y vs → IfBody f vs → Sealed vs → Looser (suc (level_number l)) vs → (ws : List Token) → Follow l k vs ls ws → Follow l k ts ((op_before o (place us), y) ∷ ls) ws
some_more {l = l} {us = us} {y = y} t o _ s b n d i c w _ (no_operator e) = some_operators {p = (op_before o (place us), y)} s (ap (binary_of l) (told t n) ∙ b) (ebnf.last_operator l t o b n d) i c (looser l _ w e)
some_more t o _ s b n d i c w ws (one_operator u q r e m g j z x) = absurd (differ s r)
some_more {l = l} {k = k} {f = f} {us = us} {vs = vs} {y = y} t o _ s b n d i c w ws (some_operators {p = p} r e g j z x) =
    some_operators {p = (op_before o (place us), y)} s (ap (binary_of l) (told t n) ∙ b) (ebnf.more_operators l t o b n (subst (λ f. Derives k (term (ebnf.operand l) f) us y vs) (is_closed l p.0.op f _ i e s) d) g) j z x

pub follow_one : (l : Level) (t : Tok) (o : BinOp) {k : ℕ} {ts us vs : List Token} (x : Operand) → is_nonassociative l ≡ true → binary_of l (Some t) ≡ Some o → Next t ts us → Claim (Parts.operand l) k us x vs → Follow l k ts (link_of o x ∷ []) vs
follow_one l t o {k = k} {ts = ts} {vs = vs} x s b n h =
    subst (λ (p : Span). Follow l k ts ((op_before o p, tree_of x) ∷ []) vs) (sym h.0.at) (one_operator t o s b n h.0.derived h.0.longest h.1 (looser_nonassociative l _ h.2 s))

pub follow_more : (l : Level) (t : Tok) (o : BinOp) {k : ℕ} {ts us vs ws : List Token} (x : Operand) (ls : List (PlacedOp × Tree)) → is_nonassociative l ≡ false → binary_of l (Some t) ≡ Some o → Next t ts us → Claim (Parts.operand l) k us x vs → Follow l k vs ls ws → Follow l k ts (link_of o x ∷ ls) ws
follow_more l t o {k = k} {ts = ts} {ws = ws} x ls s b n h g =
    subst (λ (p : Span). Follow l k ts ((op_before o p, tree_of x) ∷ ls) ws) (sym h.0.at) (some_more t o ls s b n h.0.derived h.0.longest h.1 h.2 ws g)

-- Chains

related_tree : (n : Name) (s : Span) (o : BinOp) (p : Span) (e : Tree) → tree_of (related_by n s o p e) ≡ node s (pure.chain (node s (pure.ident n)) (links ((op_before o p, e) ∷ [])))
related_tree n s op.Member p e = refl
related_tree n s _ p e = refl

related_at : (n : Name) (s : Span) (o : BinOp) (p : Span) (e : Tree) → at_of (related_by n s o p e) ≡ s
related_at n s op.Member p e = refl
related_at n s _ p e = refl

chained_tree : (x : Operand) (p : PlacedOp × Tree) (ls : List (PlacedOp × Tree)) → tree_of (chained x (p ∷ ls)) ≡ node (at_of x) (pure.chain (tree_of x) (links (p ∷ ls)))
chained_tree (name n s) p [] = related_tree n s p.0.op p.0.start p.1
chained_tree (name n s) p (q ∷ ls) = refl
chained_tree (member n s a e) p [] = refl
chained_tree (member n s a e) p (q ∷ ls) = refl
chained_tree (other s e) p [] = refl
chained_tree (other s e) p (q ∷ ls) = refl

chained_at : (x : Operand) (p : PlacedOp × Tree) (ls : List (PlacedOp × Tree)) → at_of (chained x (p ∷ ls)) ≡ at_of x
chained_at (name n s) p [] = related_at n s p.0.op p.0.start p.1
chained_at (name n s) p (q ∷ ls) = refl
chained_at (member n s a e) p [] = refl
chained_at (member n s a e) p (q ∷ ls) = refl
chained_at (other s e) p [] = refl
chained_at (other s e) p (q ∷ ls) = refl

-- `in` is the one operator that makes a generator
is_member : BinOp → Bool
is_member op.Member = true
is_member _ = false

tells_member : Option (Level × BinOp) → Bool
tells_member None = false
tells_member (Some p) = is_member p.1

member_token : (t : Tok) → tells_member (operator_of (Some t)) ≡ true → t ≡ Word KIn
unfolding tells_member is_member
member_token (Word KIn) e = refl
member_token (Sym SComma) e = absurd (cc)
member_token _ e = absurd (cc)

member_level : (l : Level) → level_number level_is.Member ≡ level_number l → l ≡ level_is.Member
member_level level_is.Member e = refl
member_level level_is.Iff e = absurd (omega (arith, e))
member_level _ e = absurd (omega (arith, e))

by_member : (l : Level) (t : Tok) → binary_of l (Some t) ≡ Some op.Member → (t ≡ Word KIn) × (l ≡ level_is.Member)
unfolding tells_member is_member
by_member l t e =
    let p = by_level l (operator_of (Some t)) op.Member e in
    let w = member_token t (ap tells_member p.1 ∙ ap is_member p.3) in
    let q : Some (level_is.Member, op.Member) ≡ Some p.0 = sym (ap (λ t. operator_of (Some t)) w) ∙ p.1 in
    (w, member_level l (ap (λ p. level_number p.0) (some_inner q) ∙ p.2))

union_only : (m : Level) → tighter_level level_is.Member ≡ Some m → m ≡ level_is.Union
union_only m e = sym (some_inner e)

tight_of : {k : ℕ} {f : Ending} {ts us : List Token} {e : Tree} → Derives k (term (ebnf.operand level_is.Member) f) ts e us → Derives k ebnf.tight ts e us
tight_of {k = k} {f = f} {ts = ts} {us = us} {e = e} (ebnf.by_tighter _ m g d) = ebnf.by_union (subst (λ m. Derives k (term (ebnf.level m) f) ts e us) (union_only m g) d)
tight_of (ebnf.by_unit _ g d) = absurd (no_none g)
  where
    no_none : {A : Type 0} {x : A} → Some x ≡ None → ⊥
    no_none e = absurd (cc)

member_kind : {k : ℕ} {f : Ending} {ts us vs ws : List Token} (l : Level) (t : Tok) (n : Name) (s p : Span) (y : Tree) → Kind k (name n s) ts us → binary_of l (Some t) ≡ Some op.Member → Next t us vs → Derives k (term (ebnf.operand l) f) vs y ws → Kind k (member n s p y) ts ws
member_kind {k = k} {f = f} {us = us} {vs = vs} {ws = ws} l t n s p y h b c d =
    let w = by_member l t b in
    (us, vs, h.0, h.1, subst (λ t. Next t us vs) w.0 c, tight_of (subst (λ l. Derives k (term (ebnf.operand l) f) vs y ws) w.1 d))

related_kind : {k : ℕ} {f : Ending} {ts us vs ws : List Token} (l : Level) (t : Tok) (n : Name) (s : Span) (o : BinOp) (p : Span) (y : Tree) → Kind k (name n s) ts us → binary_of l (Some t) ≡ Some o → Next t us vs → Derives k (term (ebnf.operand l) f) vs y ws → Kind k (related_by n s o p y) ts ws
related_kind l t n s op.Member p y h b c d = member_kind l t n s p y h b c d
related_kind l t n s _ p y h b c d = tt

kind_one : {k : ℕ} {f : Ending} (ts : List Token) {us vs ws : List Token} (l : Level) (t : Tok) (x : Operand) (o : BinOp) (y : Tree) → Kind k x ts us → binary_of l (Some t) ≡ Some o → Next t us vs → Derives k (term (ebnf.operand l) f) vs y ws → Kind k (chained x ((op_before o (place vs), y) ∷ [])) ts ws
kind_one ts {vs = vs} l t (name n s) o y h b c d = related_kind l t n s o (place vs) y h b c d
kind_one ts l t (member n s a e) o y h b c d = tt
kind_one ts l t (other s e) o y h b c d = tt

-- there is an operator at least
some_there : {k : ℕ} {l : Level} {f : Ending} {ts us : List Token} {ls : List (PlacedOp × Tree)} → Derives k (operators l f) ts ls us → ls ≡ [] → ⊥
some_there (ebnf.last_operator _ t o b c d) e = absurd (cc)
some_there (ebnf.more_operators _ t o b c d g) e = absurd (cc)

kind_some : {k : ℕ} {f : Ending} (ts : List Token) {us ws : List Token} (l : Level) (x : Operand) (p : PlacedOp × Tree) (ls : List (PlacedOp × Tree)) → Kind k x ts us → Derives k (operators l f) us (p ∷ ls) ws → Kind k (chained x (p ∷ ls)) ts ws
kind_some ts l (name n s) _ [] h (ebnf.last_operator _ t o b c d) = related_kind l t n s o _ _ h b c d
kind_some ts l (name n s) _ [] h (ebnf.more_operators _ t o b c d g) = absurd (some_there g refl)
kind_some ts l (name n s) p (q ∷ ls) h g = tt
kind_some ts l (member n s a e) p [] h g = tt
kind_some ts l (member n s a e) p (q ∷ ls) h g = tt
kind_some ts l (other s e) p [] h g = tt
kind_some ts l (other s e) p (q ∷ ls) h g = tt

-- Levels

chain_derived : {l : Level} {k : ℕ} {f : Ending} {ts vs : List Token} (x : Operand) (p : PlacedOp × Tree) (ls : List (PlacedOp × Tree)) → at_of x ≡ place ts → Derives k (term (ebnf.level l) f) ts (node (place ts) (pure.chain (tree_of x) (links (p ∷ ls)))) vs → Derives k (term (ebnf.level l) f) ts (tree_of (chained x (p ∷ ls))) vs
chain_derived {l = l} {k = k} {f = f} {ts = ts} {vs = vs} x p ls e h = subst (λ e. Derives k (term (ebnf.level l) f) ts e vs) (sym (chained_tree x p ls ∙ ap (λ s. node s (pure.chain (tree_of x) (links (p ∷ ls)))) e)) h

pub level_claim : (l : Level) (k : ℕ) (ts us vs : List Token) (x : Operand) (ls : List (PlacedOp × Tree)) → Claim (Parts.operand l) k ts x us → Follow l k us ls vs → Claim (Parts.level l) k ts (chained x ls) vs
level_claim l k ts us _ x _ h (no_operator e) = (record { at = h.0.at; ending = h.0.ending; derived = ebnf.alone l h.0.derived; longest = h.0.longest; kind = h.0.kind }, h.1, looser l _ h.2 e)
level_claim l k ts us vs x _ h (one_operator {f = f} {us = zs} {y = y} t o s b n d i c w) =
    let p : PlacedOp × Tree = (op_before o (place zs), y) in
    (record { at = chained_at x p [] ∙ h.0.at; ending = f; derived = chain_derived x p [] h.0.at (ebnf.compared l t o s h.0.derived b n d); longest = i; kind = kind_one ts l t x o y h.0.kind b n d }, c, w)
level_claim l k ts us vs x _ h (some_operators {f = f} {p = p} {ls = more} s e g i c w) =
    (record { at = chained_at x p more ∙ h.0.at; ending = f; derived = chain_derived x p more h.0.at (ebnf.chained l s (subst (λ f. Derives k (term (ebnf.operand l) f) ts (tree_of x) us) (is_closed l p.0.op h.0.ending _ h.0.longest e s) h.0.derived) g); longest = i; kind = kind_some ts l x p more h.0.kind g }, c, w)

-- the operands of a level
abbrev number : Option Level → ℕ
number None = 0
number (Some m) = level_number m

pub tighter_number : (l m : Level) → tighter_level l ≡ Some m → level_number m ≡ suc (level_number l)
tighter_number level_is.Iff m e = sym (ap number e)
tighter_number level_is.Concat m e = absurd (no_some e)
tighter_number _ m e = sym (ap number e)

pub concat_number : (l : Level) → tighter_level l ≡ None → suc (level_number l) ≡ 13
concat_number level_is.Concat e = refl
concat_number level_is.Iff e = absurd (cc)
concat_number _ e = absurd (cc)

pub by_tighter_claim : (l m : Level) (k : ℕ) (ts us : List Token) (x : Operand) → tighter_level l ≡ Some m → Claim (Parts.level m) k ts x us → Claim (Parts.operand l) k ts x us
by_tighter_claim l m k ts us x e h = (record { at = h.0.at; ending = h.0.ending; derived = ebnf.by_tighter l m e h.0.derived; longest = h.0.longest; kind = h.0.kind }, h.1, subst (λ n. Looser n us) (tighter_number l m e) h.2)

pub by_unit_claim : (l : Level) (k : ℕ) (ts us : List Token) (x : Operand) → tighter_level l ≡ None → Claim Parts.unit k ts x us → Claim (Parts.operand l) k ts x us
by_unit_claim l k ts us x e h = (record { at = h.0.at; ending = h.0.ending; derived = ebnf.by_unit l e h.0.derived; longest = h.0.longest; kind = h.0.kind }, h.1, subst (λ n. Looser n us) (sym (concat_number l e)) (λ o g s. number_low o.0))

pub atom_unit : (k : ℕ) (ts us : List Token) (x : Operand) → Claim Parts.atom k ts x us → Claim Parts.unit k ts x us
atom_unit k ts us x h = (record { at = h.0.at; ending = h.0.ending; derived = ebnf.by_atom h.0.derived; longest = h.0.longest; kind = h.0.kind }, h.1)

pub prefix_unit : (k r : ℕ) (ts us vs : List Token) (t : Tok) (o : UnOp) (x : Operand) → k ≡ suc r → prefix_of (Some t) ≡ Some o → Next t ts us → Claim Parts.unit r us x vs → Claim Parts.unit k ts (other (place ts) (node (place ts) (pure.unary o (tree_of x)))) vs
prefix_unit k r ts us vs t o x e b n h = (record { at = refl; ending = h.0.ending; derived = as_deep e (ebnf.prefixed t o b n h.0.derived); longest = h.0.longest; kind = tt }, h.1)

pub expr_claim : (k : ℕ) (ts us : List Token) (x : Operand) → Claim (Parts.level level_is.Iff) k ts x us → Claim Parts.expr k ts (tree_of x) us
expr_claim k ts us x h = (ebnf.by_level h.0.derived, (h.2, h.1))

pub tight_claim : (k : ℕ) (ts us : List Token) (x : Operand) → Claim (Parts.level level_is.Union) k ts x us → Derives k ebnf.tight ts (tree_of x) us
tight_claim k ts us x h = ebnf.by_union h.0.derived

-- Atoms

unless_tree : (b : Bool) (x : Operand) → tree_of (unless_annotated b x) ≡ tree_of x
unless_tree true x = refl
unless_tree false x = refl

unless_at : (b : Bool) (x : Operand) → at_of (unless_annotated b x) ≡ at_of x
unless_at true x = refl
unless_at false x = refl

-- nothing but the body's own follows a let
let_atom : {k : ℕ} {ts us ws : List Token} (h : Operand) (b : Bool) → at_of h ≡ place ts → Derives k (term ebnf.head with_body) ts (tree_of h) us → Ended us → Kind k h ts us → Told b us ws → Claim Parts.atom k ts (unless_annotated b h) ws
let_atom {k = k} {ts = ts} {us = us} {ws = ws} h true e d l q t = absurd (differ l.1.1 t.1)
let_atom {k = k} {ts = ts} {us = us} {ws = ws} h false e d l q t = subst (λ ws. Claim Parts.atom k ts h ws) (sym t) (record { at = e; ending = with_body; derived = ebnf.a_let_atom d; longest = l; kind = q }, l.1)

plain_kind : (k : ℕ) (ts us ws : List Token) (h : Operand) (b : Bool) → Kind k h ts us → Told b us ws → Kind k (unless_annotated b h) ts ws
plain_kind k ts us ws h true q t = tt
plain_kind k ts us ws h false q t = subst (λ ws. Kind k h ts ws) (sym t) q

other_kind : (k : ℕ) (ts ws : List Token) (s : Span) (e : Tree) (b : Bool) → Kind k (unless_annotated b (other s e)) ts ws
other_kind k ts ws s e true = tt
other_kind k ts ws s e false = tt

told_bracket : (b : Bool) (vs ws : List Token) → is_sym SLBrack (tok_at vs) ≡ false → Told b vs ws → is_sym SLBrack (tok_at ws) ≡ false
told_bracket true vs ws e t = t.0
told_bracket false vs ws e t = subst (λ ws. is_sym SLBrack (tok_at ws) ≡ false) (sym t) e

plain_atom : {k : ℕ} {ts us ws : List Token} {g : Ending} (h : Operand) (b : Bool) → at_of h ≡ place ts → Derives k (term ebnf.head closed) ts (tree_of h) us → Kind k h ts us → is_sym SLBrack (tok_at us) ≡ false → Derives k (anns g) us tt ws → IfBody g ws → is_sym SColons (tok_at ws) ≡ false → Told b us ws → Claim Parts.atom k ts (unless_annotated b h) ws
plain_atom {k = k} {ts = ts} {us = us} {ws = ws} {g = g} h b e d q c a i m t =
    (record { at = unless_at b h ∙ e; ending = g; derived = subst (λ x. Derives k (term ebnf.atom g) ts x ws) (sym (unless_tree b h)) (ebnf.an_atom d ebnf.no_access a); longest = i; kind = plain_kind k ts us ws h b q t }, (told_bracket b _ _ c t, m))

accessed_atom : {k : ℕ} {ts us vs ws : List Token} {g : Ending} (h : Operand) (ess : List (List Tree)) (b : Bool) → at_of h ≡ place ts → Derives k (term ebnf.head closed) ts (tree_of h) us → Derives k accesses us ess vs → is_sym SLBrack (tok_at vs) ≡ false → Derives k (anns g) vs tt ws → IfBody g ws → is_sym SColons (tok_at ws) ≡ false → Told b vs ws
    → Claim Parts.atom k ts (unless_annotated b (other (at_of h) (with_accesses (at_of h) (tree_of h) ess))) ws
accessed_atom {k = k} {ts = ts} {us = us} {ws = ws} {g = g} h ess b e d x c a i m t =
    let y = other (at_of h) (with_accesses (at_of h) (tree_of h) ess) in
    (record { at = unless_at b y ∙ e; ending = g; derived = subst (λ x. Derives k (term ebnf.atom g) ts x ws) (sym (unless_tree b y ∙ ap (λ s. with_accesses s (tree_of h) ess) e)) (ebnf.an_atom d x a); longest = i; kind = other_kind k ts ws _ _ b }, (told_bracket b _ _ c t, m))

atom_by : (k : ℕ) (ts us vs ws : List Token) (h x : Operand) (b : Bool) (f : Ending) → at_of h ≡ place ts → Derives k (term ebnf.head f) ts (tree_of h) us → IfBody f us → Kind k h ts us → Claim (Parts.accesses h) k us x vs → Claim Parts.annotations k vs b ws → Claim Parts.atom k ts (unless_annotated b x) ws
atom_by k ts us vs ws h x b closed e d l q a n = elim (a.1) [
  | inl c ↦ subst (λ x. Claim Parts.atom k ts (unless_annotated b x) ws) (sym c.0) (plain_atom h b e d q (subst (λ l. is_sym SLBrack (tok_at l) ≡ false) c.1 a.0) (subst (λ l. Derives k (anns n.0) l tt ws) c.1 n.1) n.2 n.3 (subst (λ l. Told b l ws) c.1 n.4))
  | inr c ↦ subst (λ x. Claim Parts.atom k ts (unless_annotated b x) ws) (sym c.3) (accessed_atom h c.0 b e d c.2 a.0 n.1 n.2 n.3 n.4)
]
atom_by k ts us vs ws h x b with_body e d l q a n = elim (a.1) [
  | inl c ↦ subst (λ x. Claim Parts.atom k ts (unless_annotated b x) ws) (sym c.0) (let_atom h b e d l q (subst (λ l. Told b l ws) c.1 n.4))
  | inr c ↦ absurd (differ l.1.0 c.1)
]

pub atom_claim : (k : ℕ) (ts us vs ws : List Token) (h x : Operand) (b : Bool) → Claim Parts.head k ts h us → Claim (Parts.accesses h) k us x vs → Claim Parts.annotations k vs b ws → Claim Parts.atom k ts (unless_annotated b x) ws
atom_claim k ts us vs ws h x b c a n = atom_by k ts us vs ws h x b c.ending c.at c.derived c.longest c.kind a n

-- Annotations

pub sees : (s : Symbol) {ts us : List Token} → is_sym s (Some (Sym s)) ≡ true → Next (Sym s) ts us → is_sym s (tok_at ts) ≡ true
sees s e (begins g) = rw (g) e

ann_by : (k : ℕ) (ts us vs ws xs : List Token) (h x : Operand) (b : Bool) (f : Ending) → Next (Sym SColons) ts us → at_of h ≡ place us → Derives k (term ebnf.head f) us (tree_of h) vs → IfBody f vs → Claim (Parts.accesses h) k vs x ws → Claim Parts.annotations k ws b xs → Claim Parts.annotations k ts true xs
unfolding symbol_number
ann_by k ts us vs ws xs h x b closed s e d l a n = elim (a.1) [
  | inl c ↦ (n.0, ebnf.more_anns s (ebnf.an_atom d ebnf.no_access ebnf.no_anns) (subst (λ l. Derives k (anns n.0) l tt xs) c.1 n.1), n.2, n.3, (told_bracket b _ _ a.0 n.4, sees SColons refl s))
  | inr c ↦ (n.0, ebnf.more_anns s (ebnf.an_atom d c.2 ebnf.no_anns) n.1, n.2, n.3, (told_bracket b _ _ a.0 n.4, sees SColons refl s))
]
ann_by k ts us vs ws xs h x b with_body s e d l a n = elim (a.1) [
  | inl c ↦ last_by b (subst (λ l. Told b l xs) c.1 n.4)
  | inr c ↦ absurd (differ l.1.0 c.1)
]
  where
    last_by : (b : Bool) → Told b vs xs → Claim Parts.annotations k ts true xs
    last_by true t = absurd (differ l.1.1 t.1)
    last_by false t = subst (λ xs. Claim Parts.annotations k ts true xs) (sym t) (with_body, ebnf.last_ann s (ebnf.a_let_atom d), l, l.1.1, (l.1.0, sees SColons refl s))

pub ann_claim : (k : ℕ) (ts us vs ws xs : List Token) (h x : Operand) (b : Bool) → Next (Sym SColons) ts us → Claim Parts.head k us h vs → Claim (Parts.accesses h) k vs x ws → Claim Parts.annotations k ws b xs → Claim Parts.annotations k ts true xs
ann_claim k ts us vs ws xs h x b s c a n = ann_by k ts us vs ws xs h x b c.ending s c.at c.derived c.longest a n
