-- What the rules of models take is what the EBNF derives.
use Rattle.std.proofs.Common.{◌≡◌, ◌≤◌, ℕ, zero, suc, List, [], ◌∷◌, length, refl, sym, ap, ◌∙◌, subst, true, false, Bool, Option, inl, inr, ◌⊎◌, append-nil, arith}
use Rattle.std.specs.Prelude.{Some, None, ◌&&◌, ◌||◌}
use Rattle.mz_base.specs.declared.fault.Span.{Span}
use Rattle.mz_base.specs.declared.keyword.Keyword.TheVariants.{KAnnotation, KConstraint, KEnum, KFalse, KFunction, KIf, KIn, KInclude, KLet, KOutput, KPredicate, KSolve, KTest, KTrue}
use Rattle.mz_lexer.specs.declared.token.Token.{Token}
use Rattle.mz_lexer.specs.declared.token.Tok.{Tok}
use Rattle.mz_lexer.specs.declared.token.Tok.TheVariants.{Word, Sym, Ident, Int, Text, TextHead, TextMid, TextTail}
use Rattle.mz_lexer.specs.declared.token.Symbol.{Symbol}
use Rattle.mz_lexer.specs.declared.token.Symbol.TheVariants.{SLParen, SLBrack, SRBrack, SLBrace, SLRows, SComma, SSemi, SEq, SAbsent}
use Rattle.mz_tree.specs.Tree as pure
use Rattle.mz_tree.specs.Tree.{Name, Tree, Written, Declaration, Generator, node, generator, written, no_array, base_of, trees, gens}
use Rattle.mz_tree.specs.Items.{ItemTree, function, assign}
use Rattle.mz_grammar.specs.Tokens.{place, tok_at}
use Rattle.mz_grammar.specs.Look.{is_sym, is_symbol, is_keyword, symbol_number}
use Rattle.mz_grammar.specs.RulesPromise.{IsWithin}
use Rattle.mz_grammar.specs.declared.level.Level.{Level}
use Rattle.mz_grammar.specs.declared.level.Level.TheVariants as level_is
use Rattle.mz_grammar.specs.declared.list.Generators.{Generators}
use Rattle.mz_grammar.specs.declared.list.Generators.TheVariants.{Possible}
use Rattle.mz_grammar.specs.Operators.{tighter_level}
use Rattle.mz_grammar.specs.Tests.{ident_in, text_in, middle_in, tail_in, item_in, leaf_in, opener_in}
use Rattle.mz_grammar.specs.Arguments.{awaits_in, trees_of, generators_of}
use Rattle.mz_grammar.specs.Parts
use Rattle.mz_grammar.specs.Parts.{Operand, name, member, other, at_of, tree_of, Argument, guarded, strict, Place}
use Rattle.mz_grammar.specs.Model as model
use Rattle.mz_grammar.specs.Model.{Ruled, rule, leaf_head, opened_head, plain_call, called, guarded_rest, function_rule, by_expression, item_by, operand_by}
use Rattle.mz_grammar_ebnf.specs.Next.{Next}
use Rattle.mz_grammar_ebnf.specs.ModelSyntax as ebnf
use Rattle.mz_grammar_ebnf.specs.ModelSyntax.{Ending, closed, with_body, Derives, DerivesModel, list, optional, term}
use Rattle.mz_grammar_ebnf.proofs.Means as meant
use Rattle.mz_grammar_ebnf.proofs.Means.{Passes, passing, Tells, next_symbol, next_word, next_told, next_telling, Says, said}
use Rattle.mz_grammar_ebnf.proofs.Turned.{Arg, unguarded_arg, guarded_arg, in_arg, no_args, last_arg, more_args, waits_after, weaker, args_after, all_strict, all_turned, exprs, after, some_inner}
use Rattle.mz_grammar_ebnf.proofs.ModelClaims.{Claim, Term, as_deep, no_operator, follow_one, follow_more, level_claim, by_tighter_claim, by_unit_claim, atom_unit, prefix_unit, expr_claim, tight_claim, atom_claim, ann_claim, sees, differ}

abbrev Means : {n : Place} → ℕ → List Token → ℕ → List Token → Ruled n → Type 0
Means start from room ts p = meant.Means Claim start from room ts p

-- Tokens by what they tell

ident_by : (n : Name) (t : Tok) → ident_in t ≡ Some n → t ≡ Ident n
ident_by n (Ident m) e = ap Ident (some_inner e)
ident_by n _ e = absurd (cc)

pub ident : {n : Name} {ts us : List Token} → Tells ident_in n ts us → Next (Ident n) ts us
ident {n = n} c = next_told Ident (ident_by n) c

text_by : (n : Name) (t : Tok) → text_in t ≡ Some n → t ≡ Text n
text_by n (Text m) e = ap Text (some_inner e)
text_by n _ e = absurd (cc)

middle_by : (n : Name) (t : Tok) → middle_in t ≡ Some n → t ≡ TextMid n
middle_by n (TextMid m) e = ap TextMid (some_inner e)
middle_by n _ e = absurd (cc)

tail_by : (n : Name) (t : Tok) → tail_in t ≡ Some n → t ≡ TextTail n
tail_by n (TextTail m) e = ap TextTail (some_inner e)
tail_by n _ e = absurd (cc)

-- tests that are tied
both : {a : Bool} {b : Tok → Bool} {ts us : List Token} → Passes (λ k. a && b k) ts us → (a ≡ true) × Passes b ts us
both {a = true} (passing e) = (refl, passing e)
both {a = false} (passing e) = absurd (cc)

pub either : (a b : Bool) → (a || b) ≡ true → (a ≡ true) ⊎ (b ≡ true)
either true b e = inl refl
either false true e = inr refl
either false false e = absurd (cc)

-- after an element of a list
element : {A B C D : Type 0} {X Y : List Token → Type 0} {s : Symbol} {ts : List Token} → ((us : List Token) → Next (Sym SComma) ts us → X us) → ((us : List Token) → Next (Sym s) ts us → Y us)
    → ((us : List Token) → Passes (is_symbol SComma) ts us → X us) × (A → ((us : List Token) → Passes (is_symbol s) ts us → Y us) × (B → (C → Unit {0}) × (D → Unit {0})))
element h g = (λ us c. h us (next_symbol c), λ e. (λ us c. g us (next_symbol c), λ e. (λ e. tt, λ e. tt)))

-- Heads

head_term : {k : ℕ} {ts us : List Token} {f : pure.Shape} → Derives k (term ebnf.head closed) ts (node (place ts) f) us → Term ebnf.head k ts (other (place ts) (node (place ts) f)) us
head_term d = record { at = refl; ending = closed; derived = d; longest = tt; kind = tt }

-- a rule goes on after a token that tells something, which opens something or not
abbrev Onward : {A : Type 0} {n : Place} → (A → Span → Ruled n) → A → Tok → Type 0
Onward f a t = (k : ℕ) (ts us : List Token) → Next t ts us → Means k ts k us (f a (place ts))

abbrev Inward : {A : Type 0} {n : Place} → (A → Span → Ruled n) → A → Tok → Type 0
Inward f a t = (k r : ℕ) (ts us : List Token) → k ≡ suc r → Next t ts us → Means k ts r us (f a (place ts))

leaf_means : (t : Tok) → Says (Onward leaf_head) (leaf_in t) t
leaf_means (Int z) = λ k ts us c. (refl, head_term (ebnf.a_number z c))
leaf_means (Text n) = λ k ts us c. (refl, head_term (ebnf.a_text n c))
leaf_means (Ident n) = λ k ts us c x vs h. (refl, h ts refl c)
leaf_means (Word KTrue) = λ k ts us c. (refl, head_term (ebnf.a_true c))
leaf_means (Word KFalse) = λ k ts us c. (refl, head_term (ebnf.a_false c))
leaf_means (Sym SAbsent) = λ k ts us c. (refl, head_term (ebnf.absent c))
leaf_means _ = tt

opened_means : (t : Tok) → Says (Inward opened_head) (opener_in t) t
opened_means (TextHead n) = λ k r ts us g c ps vs h. (sym g, head_term (as_deep g (ebnf.text_of_parts n c h)))
opened_means (Word KIf) = λ k r ts us g c b vs h bs ws i. (sym g, head_term (as_deep g (ebnf.choice c h i.2 i.3 i.4)))
opened_means (Word KLet) = λ k r ts us g c. (
  λ q d vs b ls ws h. (
    λ xs i x ys y. (ap suc (sym d) ∙ sym g, record { at = refl; ending = with_body; derived = as_deep (g ∙ ap suc d) (ebnf.let_in c (next_symbol b) h.1 h.2 (next_word i) y.0); longest = y.1; kind = tt }),
    λ e. tt,
  ),
  λ e. tt,
)
opened_means (Sym SLParen) = λ k r ts us g c x vs h. (
  λ ws d. (sym g, record { at = refl; ending = closed; derived = as_deep g (ebnf.in_parentheses c h.0 (next_symbol d)); longest = tt; kind = tt }),
  λ e. (λ e. tt, λ e. tt),
)
opened_means (Sym SLBrack) = λ k r ts us g c f vs h. (sym g, head_term (as_deep g (h ts c)))
opened_means (Sym SLRows) = λ k r ts us g c rs vs h. (sym g, head_term (as_deep g (ebnf.rows c h.1 h.2)))
opened_means (Sym SLBrace) = λ k r ts us g c f vs h. (sym g, head_term (as_deep g (h ts c)))
opened_means _ = tt

-- Calls

-- a call's node is at its name
call_term : {k : ℕ} {hs us : List Token} (s : Span) (f : pure.Shape) → s ≡ place hs → Derives k (term ebnf.head closed) hs (node (place hs) f) us → Term ebnf.head k hs (other s (node s f)) us
call_term {k = k} {hs = hs} {us = us} s f e d = subst (λ s. Term ebnf.head k hs (other s (node s f)) us) (sym e) (head_term d)

name_term : {k : ℕ} {hs us : List Token} (n : Name) (s : Span) → s ≡ place hs → Next (Ident n) hs us → Term ebnf.head k hs (name n s) us
name_term {k = k} {hs = hs} {us = us} n s e c = subst (λ s. Term ebnf.head k hs (name n s) us) (sym e) (record { at = refl; ending = closed; derived = ebnf.an_identifier n c; longest = tt; kind = (refl, c) })

same_room : {r q : ℕ} → suc r ≡ suc q → q ≡ r
same_room d = omega (arith, d)

plain_means : (n : Name) (s : Span) (k r : ℕ) (ts us vs : List Token) (xs : List Argument) (es : Option (List Tree)) → trees_of xs ≡ es → k ≡ suc r → Next (Sym SLParen) ts us → Claim (Parts.arguments Possible) r us xs vs → Means k ts (suc r) vs (plain_call n s es)
plain_means n s k r ts us vs xs None g e c a = tt
plain_means n s k r ts us vs xs (Some es) g e c a = (sym e, λ hs w m. call_term s (pure.call n (trees es)) w (as_deep e (ebnf.a_call n m c (exprs a.1 es g) a.2)))

called_means : (n : Name) (s : Span) (k r : ℕ) (ts us vs : List Token) (xs : List Argument) (gs : Option (List Generator)) → generators_of xs ≡ gs → k ≡ suc r → Next (Sym SLParen) ts us → Claim (Parts.arguments Possible) r us xs vs → Means k ts (suc r) vs (called n s (trees_of xs) gs)
called_means n s k r ts us vs xs None g e c a = (λ p. tt, λ p. plain_means n s k r ts us vs xs (trees_of xs) refl e c a)
called_means n s k r ts us vs xs (Some gs) g e c a = (
  λ q d ws p x ys h. (
    λ zs j. (
      sym d ∙ sym e,
      λ hs w m.
          call_term s (pure.gen_call n (gens gs) x) w (as_deep (e ∙ d) (ebnf.a_generator_call n m c (as_deep (same_room d) (all_turned xs gs a.1 g)) a.2 (next_symbol p) h.0 (next_symbol j))),
    ),
    λ e. tt,
  ),
  λ p. plain_means n s k r ts us vs xs (trees_of xs) refl e c a,
)

-- Arguments

-- a generator, and what comes after it
guarded_means : (t : Generators) (k : ℕ) (ts us : List Token) (x : Argument) → Arg k (awaits_in t) ts x us → Means {n = Parts.arguments t} k ts k us (guarded_rest x)
guarded_means t k ts us x h = element (λ vs c gs ws g. (refl, (g.0, more_args h c (weaker (waits_after x) (all_strict g.1)), g.2))) (λ vs c. (refl, (us, last_arg h, c)))

in_first : (t : Generators) (k : ℕ) (ts us vs ws : List Token) (x : Operand) (w : pure.Maybe) → Passes (λ k. awaits_in t && is_keyword KIn k) ts us → Claim (Parts.level level_is.Union) k us x vs → Claim Parts.filter k vs w ws → Arg k (awaits_in t) ts (strict (generator [] (tree_of x) w)) ws
in_first t k ts us vs ws x w c h i = let p = both c in subst (λ b. Arg k b ts (strict (generator [] (tree_of x) w)) ws) (sym p.0) (in_arg (next_word p.1) (tight_claim k us vs x h) i)

-- Items

function_means : (k : ℕ) (from ts : List Token) (t : Written) → ((n : Name) (f : Ending) (ds : List Declaration) (b : Tree) (us vs ws xs ys : List Token) → Next (Ident n) ts us → Derives k ebnf.params us ds vs → Derives k (ebnf.anns f) vs tt ws → Next (Sym SEq) ws xs → Derives k ebnf.expr xs b ys
    → Derives k ebnf.item from (function (record { name = n; span = place ts; result = t; params = ds; body = b })) ys)
    → Means k from k ts (function_rule t)
function_means k from ts t h = (λ n us c ds vs p m ws a. (λ xs q b ys y. (refl, h n a.0 ds b us vs ws xs ys (ident c) p a.1 (next_symbol q) y.0), λ e. tt), λ e. tt)

-- a type that is an expression
expression_type : {k : ℕ} {ts us : List Token} (x : Operand) → Claim (Parts.level level_is.Union) k ts x us → Derives k ebnf.type ts (written (at_of x) no_array false false false (base_of (tree_of x))) us
expression_type {k = k} {ts = ts} {us = us} x h = subst (λ s. Derives k ebnf.type ts (written s no_array false false false (base_of (tree_of x))) us) (sym h.0.at) (ebnf.by_elem (ebnf.by_unmarked (ebnf.by_base (ebnf.tight_base (tight_claim k ts us x h)))))

by_expression_means : (x : Operand) (k : ℕ) (ts us : List Token) → Claim (Parts.level level_is.Union) k ts x us → Means k ts k us (by_expression x)
by_expression_means (name n s) k ts us h = (
  λ vs q e ws y. (refl, subst (λ s. Derives k ebnf.item ts (assign n s e) ws) (sym h.0.kind.0) (ebnf.assign_item n h.0.kind.1 (next_symbol q) y.0)),
  λ e d vs g. (refl, ebnf.decl_item (g ts (expression_type (name n s) h))),
)
by_expression_means (member n s p e) k ts us h = λ d vs g. (refl, ebnf.decl_item (g ts (expression_type (member n s p e) h)))
by_expression_means (other s e) k ts us h = λ d vs g. (refl, ebnf.decl_item (g ts (expression_type (other s e) h)))

item_means : (t : Tok) → Says (Onward item_by) (item_in t) t
item_means (Word KInclude) = λ k ts us w. (λ n vs c. (refl, ebnf.include_item n w (next_told Text (text_by n) c)), λ e. tt)
item_means (Word KConstraint) = λ k ts us w m vs h x ws y. (refl, ebnf.constraint_item w h y.0)
item_means (Word KSolve) = λ k ts us w m vs h g ws y. (refl, ebnf.solve_item w h y)
item_means (Word KOutput) = λ k ts us w m vs h x ws y. (refl, ebnf.output_item w h y.0)
item_means (Word KPredicate) = λ k ts us w. function_means k ts us _ (λ n f ds b vs ws xs ys zs c p a q y. ebnf.predicate_item n w c p a q y)
item_means (Word KTest) = λ k ts us w. function_means k ts us _ (λ n f ds b vs ws xs ys zs c p a q y. ebnf.test_item n w c p a q y)
item_means (Word KFunction) = λ k ts us w t vs h. (λ ws d. function_means k ts ws t (λ n f ds b xs ys zs hs bs c p a q y. ebnf.function_item n w h (next_symbol d) c p a q y), λ e. tt)
item_means (Word KAnnotation) = λ k ts us w. (λ n vs c ds ws p. (refl, ebnf.annotation_item n w (ident c) p), λ e. tt)
item_means (Word KEnum) = λ k ts us w. (λ n vs c m ws a cs xs h. (refl, ebnf.enum_item n w (ident c) a.1 h), λ e. tt)
item_means _ = tt

-- Pieces of what the parts claim

-- a list that doesn't end at once has an element
some_bases : {k : ℕ} {ts us vs : List Token} {bs : List pure.Based} → Derives k (optional SComma ebnf.base) ts bs us → Next (Sym SRBrack) us vs → is_sym SRBrack (tok_at ts) ≡ false → Derives k (list SComma ebnf.base) ts bs us
unfolding symbol_number
some_bases ebnf.none c e = absurd (differ e (sees SRBrack refl c))
some_bases (ebnf.some h) c e = h

-- accesses
accesses_claim : (x : Operand) (k r : ℕ) (ts us vs ws : List Token) (es : List Tree) (y : Operand) → k ≡ suc r → Next (Sym SLBrack) ts us → Claim Parts.indices r us es vs → Claim (Parts.accesses (model.accessed x es)) r vs y ws → Claim (Parts.accesses x) k ts y ws
unfolding symbol_number
accesses_claim x k r ts us vs ws es y e c i a = elim (a.1) [
  | inl d ↦ (a.0, inr (es ∷ [], sees SLBrack refl c, as_deep e (ebnf.more_accesses c i.1 i.2 (subst (λ l. Derives r ebnf.accesses vs [] l) (sym d.1) ebnf.no_access)), d.0))
  | inr d ↦ (a.0, inr (es ∷ d.0, sees SLBrack refl c, as_deep e (ebnf.more_accesses c i.1 i.2 d.2), d.3))
]

-- the names of a generator, the first one at its place
named_list : {k : ℕ} {hs us : List Token} {ns : List (Name × Span)} (n : Name) (s : Span) → s ≡ place hs → (Unit {0} → Derives k (list SComma ebnf.name) hs ((n, place hs) ∷ ns) us) → Derives k (list SComma ebnf.name) hs ((n, s) ∷ ns) us
named_list {k = k} {hs = hs} {us = us} {ns = ns} n s e h = subst (λ s. Derives k (list SComma ebnf.name) hs ((n, s) ∷ ns) us) (sym e) (h tt)

-- between the items of a let
separated : {ts us : List Token} → Passes (λ k. is_symbol SComma k || is_symbol SSemi k) ts us → ebnf.Separator ts us
separated (passing {t = t} e) = elim (either (is_symbol SComma t.tok) (is_symbol SSemi t.tok) e) [
  | inl c ↦ inl (next_symbol (passing c))
  | inr c ↦ inr (next_symbol (passing c))
]

operand_means : (l : Level) (k : ℕ) (ts : List Token) (o : Option Level) → tighter_level l ≡ o → Means k ts k ts (operand_by {l = l} o)
operand_means l k ts None e = λ x us h. (refl, by_unit_claim l k ts us x e h)
operand_means l k ts (Some m) e = λ x us h. (refl, by_tighter_claim l m k ts us x e h)

one_longer : (a b : ℕ) → a ≤ b → suc a ≤ suc b
one_longer a b h = omega (arith, h)

-- The parts

pub all_mean : (n : Place) (k : ℕ) (ts : List Token) → Means k ts k ts (rule n)
unfolding rule
all_mean Parts.file k ts = (λ e. (refl, ebnf.none), λ e i us h is vs g. (refl, g ts i h))
all_mean Parts.more_items k ts = (λ e. (refl, λ hs i h. ebnf.some (ebnf.last h)), λ e. (λ us c is vs g. (refl, λ hs i h. ebnf.some (after h (next_symbol c) g)), λ e. tt))
all_mean Parts.item k ts = (λ i us c. let t = said (Onward item_by) item_means c in t.1 k ts us t.2, λ e. (λ b d us h. (refl, ebnf.decl_item h), λ b x us h. by_expression_means x k ts us h))
all_mean Parts.goal k ts = (λ us c. (refl, ebnf.satisfy (next_word c)), λ e. (λ us c x vs h. (refl, ebnf.minimize (next_word c) h.0), λ e. (λ us c x vs h. (refl, ebnf.maximize (next_word c) h.0), λ e. tt)))
all_mean Parts.cases k ts = (
  λ us c. (λ r e vs d ns ws h. (λ b. tt, λ b. (sym e, as_deep e (ebnf.some_cases (next_symbol c) (next_symbol d) h.1 h.2))), λ e. (λ b. tt, λ b. tt)),
  λ e. (refl, ebnf.no_cases),
)
all_mean Parts.case_names k ts = (
  λ us c. (refl, (ts, ebnf.none, next_symbol c)),
  λ e. (
    λ n us c. element
        (λ vs d ns ws g. (refl, (g.0, ebnf.some (after (ebnf.a_name n (ident c)) d g.1), g.2)))
        (λ vs d. (refl, (us, ebnf.some (ebnf.last (ebnf.a_name n (ident c))), d))),
    λ e. tt,
  ),
)
all_mean Parts.params k ts = (λ r e us c ds vs h. (sym e, as_deep e (ebnf.some_params (next_symbol c) h.1 h.2)), λ e. (refl, ebnf.no_params))
all_mean Parts.param_list k ts = (
  λ us c. (refl, (ts, ebnf.none, next_symbol c)),
  λ e d us h. element (λ vs c ds ws g. (refl, (g.0, ebnf.some (after h c g.1), g.2))) (λ vs c. (refl, (us, ebnf.some (ebnf.last h), c))),
)
all_mean Parts.param k ts = λ t us h. (λ vs c. (λ n ws d m xs a. (refl, ebnf.a_param n h (next_symbol c) (ident d) a.1), λ e. tt), λ e. tt)
all_mean Parts.declaration k ts = λ t us h d vs g. (refl, g ts h)
all_mean (Parts.declared t) k ts = (λ us c. (λ n vs d m ws a v xs g. (refl, λ hs h. ebnf.declares n h (next_symbol c) (ident d) a.1 g), λ e. tt), λ e. tt)
all_mean Parts.value k ts = (λ us c x vs h. (refl, ebnf.with_it (next_symbol c) h.0), λ e. (refl, ebnf.without))
all_mean Parts.type k ts = (
  λ us c. (
    λ r e vs d. (
      λ b. tt,
      λ b bs ws i. (λ xs f t ys h. (sym e, as_deep e (ebnf.array_of (next_word c) (next_symbol d) (some_bases i.1 i.2 b) i.3 i.2 (next_word f) h)), λ e. tt),
    ),
    λ e. tt,
  ),
  λ e. (λ us c. (λ vs f t ws h. (refl, ebnf.list_of (next_word c) (next_word f) h), λ e. tt), λ e t us h. (refl, ebnf.by_elem h)),
)
all_mean Parts.element k ts = (λ us c t vs h. (refl, ebnf.var_of (next_word c) h), λ e. (λ us c t vs h. (refl, ebnf.par_of (next_word c) h), λ e t us h. (refl, ebnf.by_unmarked h)))
all_mean Parts.unmarked k ts = (
  λ us c. (λ b. tt, λ b x vs h. (refl, ebnf.opt_of (next_word c) h.1)),
  λ e. (
    λ us c. (λ vs f x ws h. (refl, ebnf.set_of (next_word c) (next_word f) h.1), λ e. tt),
    λ e x us h. (refl, subst (λ s. Derives k ebnf.unmarked ts (written s no_array false false false x.1) us) (sym h.0) (ebnf.by_base h.1)),
  ),
)
all_mean Parts.base k ts = (
  λ us c. (refl, (refl, ebnf.bool_base (next_word c))),
  λ e. (λ us c. (refl, (refl, ebnf.int_base (next_word c))), λ e x us h. (refl, (h.0.at, ebnf.tight_base (tight_claim k ts us x h)))),
)
all_mean (Parts.index_types zero) k ts = (λ us c. (refl, (ts, ebnf.none, next_symbol c, omega arith)), λ e. (λ b. tt, λ b. tt))
all_mean (Parts.index_types (suc m)) k ts = (
  λ us c. (refl, (ts, ebnf.none, next_symbol c, omega arith)),
  λ e x us h. element (λ vs c bs ws g. (refl, (g.0, ebnf.some (after h.1 c g.1), g.2, one_longer (length bs) m g.3))) (λ vs c. (refl, (us, ebnf.some (ebnf.last h.1), c, omega arith))),
)
all_mean Parts.expr k ts = λ x us h. (refl, expr_claim k ts us x h)
all_mean (Parts.level l) k ts = λ x us h ls vs g. (refl, level_claim l k ts us vs x ls h g)
all_mean (Parts.operand l) k ts = operand_means l k ts (tighter_level l) refl
all_mean (Parts.operators l) k ts = (λ o us c x vs h ls ws g. let t = next_telling c in (refl, g ts us t.0 o x refl t.1 t.2 h), λ e. (refl, no_operator e))
all_mean (Parts.more_operators l true) k ts = (refl, λ hs ms t o y s b n h. follow_one l t o y s b n h)
all_mean (Parts.more_operators l false) k ts = λ ls us g. (refl, λ hs ms t o y s b n h. follow_more l t o y ls s b n h g)
all_mean Parts.unit k ts = (λ o r g us c x vs h. let t = next_telling c in (sym g, prefix_unit k r ts us vs t.0 o x g t.1 t.2 h), λ e x us h. (refl, atom_unit k ts us x h))
all_mean Parts.atom k ts = λ h us c x vs a b ws n. (refl, atom_claim k ts us vs ws h x b c a n)
all_mean (Parts.accesses x) k ts = (λ r e us c es vs i y ws a. (sym e, accesses_claim x k r ts us vs ws es y e (next_symbol c) i a), λ e. (refl, (e, inl (refl, refl))))
all_mean Parts.indices k ts = (
  λ e. tt,
  λ e x us h. element (λ vs c es ws g. (refl, (g.0, after h.0 c g.1, g.2))) (λ vs c. (refl, (us, ebnf.last h.0, c))),
)
all_mean Parts.more_indices k ts = (λ us c. (refl, (ts, ebnf.none, next_symbol c)), λ e es us h. (refl, (h.0, ebnf.some h.1, h.2)))
all_mean Parts.annotations k ts = (λ us s h vs c x ws a b xs n. (refl, ann_claim k ts us vs ws xs h x b (next_symbol s) c a n), λ e. (refl, (closed, ebnf.no_anns, tt, e, refl)))
all_mean Parts.marks k ts = (λ us s h vs c m ws g. (refl, ebnf.more_marks (next_symbol s) c.derived g), λ e. (refl, ebnf.no_marks))
all_mean Parts.head k ts = (
  λ l us c. let t = said (Onward leaf_head) leaf_means c in t.1 k ts us t.2,
  λ e. (λ o r g us c. let t = said (Inward opened_head) opened_means c in t.1 k r ts us g t.2, λ e. tt),
)
all_mean (Parts.named n s) k ts = (λ r g us c xs vs a. called_means n s k r ts us vs xs (generators_of xs) refl g (next_symbol c) a, λ e. (refl, λ hs w c. name_term n s w c))
all_mean (Parts.arguments t) k ts = (
  λ us c. (refl, (ts, no_args, next_symbol c)),
  λ e. (
    λ us c x vs h w ws i. guarded_means t k ts ws (strict (generator [] (tree_of x) w)) (in_first t k ts us vs ws x w c h i),
    λ e x us h. (
      λ vs c y ws i. guarded_means t k ts ws (guarded x y) (guarded_arg x y h.0.kind (next_word (both c).1) i.0),
      λ e. element
          (λ vs c xs ws g. (refl, (g.0, more_args (unguarded_arg x (expr_claim k ts us x h).0 h.0.kind) c (args_after t x g.1), g.2)))
          (λ vs c. (refl, (us, last_arg (unguarded_arg x (expr_claim k ts us x h).0 h.0.kind), c))),
    ),
  ),
)
all_mean Parts.text_rest k ts = λ x us h. (
  λ n vs c ps ws g. (refl, ebnf.more_parts n h.0 (next_told TextMid (middle_by n) c) g),
  λ e. (λ n vs c. (refl, ebnf.last_part n h.0 (next_told TextTail (tail_by n) c)), λ e. tt),
)
all_mean (Parts.elements c) k ts = (
  λ us d. (refl, (ts, ebnf.none, next_symbol d)),
  λ e x us h. element (λ vs d es ws g. (refl, (g.0, ebnf.some (after h.0 d g.1), g.2))) (λ vs d. (refl, (us, ebnf.some (ebnf.last h.0), d))),
)
all_mean Parts.array_body k ts = (
  λ us c. (refl, λ hs b. ebnf.array b ebnf.none (next_symbol c)),
  λ e x us h. (
    λ vs c g ws i. element
        (λ xs d gs ys j. (refl, λ hs b. ebnf.array_of_each b h.0 (next_symbol c) (after i d j.1) j.2))
        (λ xs d. (refl, λ hs b. ebnf.array_of_each b h.0 (next_symbol c) (ebnf.last i) d)),
    λ e. element (λ vs d es ws g. (refl, λ hs b. ebnf.array b (ebnf.some (after h.0 d g.1)) g.2)) (λ vs d. (refl, λ hs b. ebnf.array b (ebnf.some (ebnf.last h.0)) d)),
  ),
)
all_mean Parts.set_body k ts = (
  λ us c. (refl, λ hs b. ebnf.set b ebnf.none (next_symbol c)),
  λ e x us h. (
    λ vs c g ws i. element
        (λ xs d gs ys j. (refl, λ hs b. ebnf.set_of_each b h.0 (next_symbol c) (after i d j.1) j.2))
        (λ xs d. (refl, λ hs b. ebnf.set_of_each b h.0 (next_symbol c) (ebnf.last i) d)),
    λ e. element (λ vs d es ws g. (refl, λ hs b. ebnf.set b (ebnf.some (after h.0 d g.1)) g.2)) (λ vs d. (refl, λ hs b. ebnf.set b (ebnf.some (ebnf.last h.0)) d)),
  ),
)
all_mean Parts.rows_body k ts = (λ us c. (refl, (ts, ebnf.none, next_symbol c)), λ e. (λ b. tt, λ b r us h rs vs g. (refl, g ts r h)))
all_mean Parts.more_rows k ts = (
  λ us c. (refl, λ hs r h. (ts, ebnf.some (ebnf.last h), next_symbol c)),
  λ e. (
    λ us c. (
      λ vs d. (refl, λ hs r h. (us, ebnf.some (ebnf.trailing h (next_symbol c)), next_symbol d)),
      λ e q vs i rs ws g. (refl, λ hs r h. let j = g us q i in (j.0, ebnf.some (after h (next_symbol c) j.1), j.2)),
    ),
    λ e. tt,
  ),
)
all_mean Parts.row k ts = λ x us h es vs g. (refl, g ts x h.0)
all_mean Parts.cells k ts = (
  λ us c. (λ b. (refl, λ hs e h. ebnf.trailing h (next_symbol c)), λ b x vs h es ws g. (refl, λ hs e i. ebnf.more i (next_symbol c) (g us x h.0))),
  λ e. (refl, λ hs e h. ebnf.last h),
)
all_mean Parts.generator k ts = (λ n us c ns vs m. (λ ws i x xs h w ys f. (refl, ebnf.a_gen (m ts n (place ts) refl (ident c)) (next_word i) (tight_claim k ws xs x h) f), λ e. tt), λ e. tt)
all_mean Parts.more_names k ts = (
  λ us c. (
    λ m vs d ns ws g. (refl, λ hs n s w i. named_list n s w (λ u. ebnf.more (ebnf.a_name n i) (next_symbol c) (g us m (place us) refl (ident d)))),
    λ e. (refl, λ hs n s w i. named_list n s w (λ u. ebnf.trailing (ebnf.a_name n i) (next_symbol c))),
  ),
  λ e. (refl, λ hs n s w i. named_list n s w (λ u. ebnf.last (ebnf.a_name n i))),
)
all_mean Parts.filter k ts = (λ us c x vs h. (refl, ebnf.with_it (next_word c) h.0), λ e. (refl, ebnf.without))
all_mean (Parts.generators c) k ts = (
  λ us d. (refl, (ts, ebnf.none, next_symbol d)),
  λ e x us h. element (λ vs d gs ws g. (refl, (g.0, ebnf.some (after h d g.1), g.2))) (λ vs d. (refl, (us, ebnf.some (ebnf.last h), d))),
)
all_mean Parts.branch k ts = λ x us h. (λ vs c y ws g. (refl, ebnf.a_branch h.0 (next_word c) g.0), λ e. tt)
all_mean Parts.branches k ts = (
  λ us c b vs h bs ws g. (refl, (g.0, g.1, ebnf.more_elseifs (next_word c) h g.2, g.3, g.4)),
  λ e. (
    λ us c x vs h. (λ ws d. (refl, (ts, vs, ebnf.no_elseif, ebnf.with_it (next_word c) h.0, next_word d)), λ e. tt),
    λ e. (λ us c. (refl, (ts, ts, ebnf.no_elseif, ebnf.without, next_word c)), λ e. tt),
  ),
)
all_mean Parts.let_items k ts = (
  λ us c. (refl, (ts, ebnf.no_lets, next_symbol c)),
  λ e l us h. (λ vs c ls ws g. (refl, (g.0, ebnf.more_lets h (separated c) g.1, g.2)), λ e. (λ vs c. (refl, (us, ebnf.last_let h, next_symbol c)), λ e. tt)),
)
all_mean Parts.let_item k ts = (λ us c m vs h x ws g. (refl, ebnf.let_constraint (next_word c) h g.0), λ e d us h. (refl, ebnf.let_decl h))

-- A model

pub models_derived : (room : ℕ) (tokens : List Token) (items : List ItemTree) → IsWithin rule Parts.file room tokens items → DerivesModel room tokens items
models_derived room tokens items h = subst (λ ts. DerivesModel room ts items) (append-nil tokens) (meant.taken_means Claim rule all_mean Parts.file h [] refl)

-- Parts that are read by themselves

pub expressions_derived : (room : ℕ) (tokens : List Token) (e : Tree) → IsWithin rule Parts.expr room tokens e → Derives room ebnf.expr tokens e []
expressions_derived room tokens e h = subst (λ ts. Derives room ebnf.expr ts e []) (append-nil tokens) ((meant.taken_means Claim rule all_mean Parts.expr h [] refl).0)

pub declarations_derived : (room : ℕ) (tokens : List Token) (d : Declaration) → IsWithin rule Parts.declaration room tokens d → Derives room ebnf.decl tokens d []
declarations_derived room tokens d h = subst (λ ts. Derives room ebnf.decl ts d []) (append-nil tokens) (meant.taken_means Claim rule all_mean Parts.declaration h [] refl)

pub types_derived : (room : ℕ) (tokens : List Token) (t : Written) → IsWithin rule Parts.type room tokens t → Derives room ebnf.type tokens t []
types_derived room tokens t h = subst (λ ts. Derives room ebnf.type ts t []) (append-nil tokens) (meant.taken_means Claim rule all_mean Parts.type h [] refl)

pub marks_derived : (room : ℕ) (tokens : List Token) (m : Unit {0}) → IsWithin rule Parts.marks room tokens m → Derives room ebnf.marks tokens tt []
marks_derived room tokens m h = subst (λ ts. Derives room ebnf.marks ts tt []) (append-nil tokens) (meant.taken_means Claim rule all_mean Parts.marks h [] refl)

pub annotations_derived : (room : ℕ) (tokens : List Token) (annotated : Bool) → IsWithin rule Parts.annotations room tokens annotated → (e : Ending) × Derives room (ebnf.anns e) tokens tt []
annotations_derived room tokens annotated h = let a = meant.taken_means Claim rule all_mean Parts.annotations h [] refl in (a.0, subst (λ ts. Derives room (ebnf.anns a.0) ts tt []) (append-nil tokens) a.1)
