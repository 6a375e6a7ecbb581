-- The arguments of a call by what the EBNF derives of them, as expressions and as generators.
use Rattle.std.proofs.Common.{◌≡◌, ℕ, List, [], ◌∷◌, ◌++◌, map, Bool, true, false, Option, refl, sym, ap, ◌∙◌, subst, append-nil}
use Rattle.std.specs.Prelude.{Some, None}
use Rattle.std.specs.Option.{option_map}
use Rattle.mz_base.specs.declared.fault.Span.{Span}
use Rattle.mz_base.specs.declared.keyword.Keyword.TheVariants.{KIn, KWhere}
use Rattle.mz_lexer.specs.declared.token.Token.{Token}
use Rattle.mz_lexer.specs.declared.token.Tok.TheVariants.{Word, Sym, Ident}
use Rattle.mz_lexer.specs.declared.token.Symbol.{Symbol}
use Rattle.mz_lexer.specs.declared.token.Symbol.TheVariants.{SComma}
use Rattle.mz_tree.specs.Tree.{Name, Tree, Maybe, Generator, generator, nothing, just}
use Rattle.mz_grammar.specs.Tokens.{place}
use Rattle.mz_grammar.specs.declared.list.Generators.{Generators}
use Rattle.mz_grammar.specs.declared.list.Generators.TheVariants.{Possible, AwaitingIn, Impossible}
use Rattle.mz_grammar.specs.Parts.{Operand, name, member, other, tree_of, Argument, unguarded, guarded, strict}
use Rattle.mz_grammar.specs.Arguments.{possible_after, awaits_in, trees_of, Role, waiting, bound, unfit, role_of, by_role, generators_behind, generators_of}
use Rattle.mz_grammar_ebnf.specs.Next.{Next}
use Rattle.mz_grammar_ebnf.specs.ModelSyntax as ebnf
use Rattle.mz_grammar_ebnf.specs.ModelSyntax.{Derives, list, optional, perhaps, expr, tight, gen}

-- what was read beside an expression: a name, or a name in a set
abbrev pub Kind : ℕ → Operand → List Token → List Token → Type 0
Kind k (name n s) ts us = (s ≡ place ts) × Next (Ident n) ts us
Kind k (member n s p e) ts us = (vs : List Token) × (ws : List Token) × (s ≡ place ts) × Next (Ident n) ts vs × Next (Word KIn) vs ws × Derives k tight ws e us
Kind k (other s e) ts us = Unit {0}

-- An `in` may come first only where a name waits for it.
pub data Arg (k : ℕ) : Bool → List Token → Argument → List Token → Type 0 where
  unguarded_arg : {b : Bool} {ts us : List Token} (x : Operand) → Derives k expr ts (tree_of x) us → Kind k x ts us → Arg k b ts (unguarded x) us
  guarded_arg : {b : Bool} {ts us vs ws : List Token} (x : Operand) (c : Tree) → Kind k x ts us → Next (Word KWhere) us vs → Derives k expr vs c ws → Arg k b ts (guarded x c) ws
  in_arg : {ts us vs ws : List Token} {e : Tree} {w : Maybe} → Next (Word KIn) ts us → Derives k tight us e vs → Derives k (perhaps (Word KWhere)) vs w ws → Arg k true ts (strict (generator [] e w)) ws
  strict_arg : {b : Bool} {ts us : List Token} {g : Generator} → Derives k gen ts g us → Arg k b ts (strict g) us

-- a name waits after this argument
abbrev pub waits_after : Argument → Bool
waits_after (unguarded (name n s)) = true
waits_after _ = false

pub data Args (k : ℕ) : Bool → List Token → List Argument → List Token → Type 0 where
  no_args : {b : Bool} {ts : List Token} → Args k b ts [] ts
  last_arg : {b : Bool} {ts us : List Token} {a : Argument} → Arg k b ts a us → Args k b ts (a ∷ []) us
  more_args : {b : Bool} {ts us vs ws : List Token} {a : Argument} {rest : List Argument} → Arg k b ts a us → Next (Sym SComma) us vs → Args k (waits_after a) vs rest ws → Args k b ts (a ∷ rest) ws

-- where no `in` may come first, one may

weaker_arg : {k : ℕ} {ts us : List Token} {a : Argument} (b : Bool) → Arg k false ts a us → Arg k b ts a us
weaker_arg b (unguarded_arg x d h) = unguarded_arg x d h
weaker_arg b (guarded_arg x c h w d) = guarded_arg x c h w d
weaker_arg b (strict_arg h) = strict_arg h

pub weaker : {k : ℕ} {ts us : List Token} {all : List Argument} (b : Bool) → Args k false ts all us → Args k b ts all us
weaker b no_args = no_args
weaker b (last_arg h) = last_arg (weaker_arg b h)
weaker b (more_args h c g) = more_args (weaker_arg b h) c g

-- as the rules keep account of it
pub args_after : {k : ℕ} {ts us : List Token} {all : List Argument} (t : Generators) (x : Operand) → Args k (awaits_in (possible_after t x)) ts all us → Args k (waits_after (unguarded x)) ts all us
args_after Impossible (name n s) h = weaker true h
args_after Impossible (member n s p e) h = h
args_after Impossible (other s e) h = h
args_after Possible (name n s) h = h
args_after Possible (member n s p e) h = h
args_after Possible (other s e) h = h
args_after AwaitingIn (name n s) h = h
args_after AwaitingIn (member n s p e) h = h
args_after AwaitingIn (other s e) h = h

-- generators alone
list_strict : {k : ℕ} {ts us : List Token} {gs : List Generator} → Derives k (list SComma gen) ts gs us → Args k false ts (map strict gs) us
list_strict (ebnf.last h) = last_arg (strict_arg h)
list_strict (ebnf.trailing h c) = more_args (strict_arg h) c no_args
list_strict (ebnf.more h c g) = more_args (strict_arg h) c (list_strict g)

pub all_strict : {k : ℕ} {ts us : List Token} {gs : List Generator} → Derives k (optional SComma gen) ts gs us → Args k false ts (map strict gs) us
all_strict ebnf.none = no_args
all_strict (ebnf.some h) = list_strict h

pub no_some : {A : Type 0} {x : A} → None ≡ Some x → ⊥
no_some e = absurd (cc)

pub some_inner : {A : Type 0} {x y : A} → Some x ≡ Some y → x ≡ y
some_inner e = cc

-- what stands before a list that may not be there
given_by : {A : Type 0} {g : A} {gs : List A} (o : Option (List A)) → option_map (λ gs. g ∷ gs) o ≡ Some gs → (rest : List A) × (o ≡ Some rest) × (g ∷ rest ≡ gs)
given_by None e = absurd (no_some e)
given_by (Some rest) e = (rest, refl, cc)

-- an element, its comma, and what is left
pub after : {s : Symbol} {p : ebnf.Phrase} {k : ℕ} {ts us vs ws : List Token} {x : ebnf.Meaning p} {xs : List (ebnf.Meaning p)} → Derives k p ts x us → Next (Sym s) us vs → Derives k (optional s p) vs xs ws → Derives k (list s p) ts (x ∷ xs) ws
after h c ebnf.none = ebnf.trailing h c
after h c (ebnf.some g) = ebnf.more h c g

-- Arguments that are expressions

exprs_last : {k : ℕ} {b : Bool} {ts us : List Token} {a : Argument} (es : List Tree) → Arg k b ts a us → trees_of (a ∷ []) ≡ Some es → Derives k (optional SComma expr) ts es us
exprs_last {k = k} {ts = ts} {us = us} es (unguarded_arg x d h) e = subst (λ es. Derives k (optional SComma expr) ts es us) (some_inner e) (ebnf.some (ebnf.last d))
exprs_last es (guarded_arg x c h w d) e = absurd (no_some e)
exprs_last es (in_arg c h w) e = absurd (no_some e)
exprs_last es (strict_arg h) e = absurd (no_some e)

exprs_more : {k : ℕ} {b : Bool} {ts us vs ws : List Token} {a : Argument} (rest : List Argument) (es : List Tree) → Arg k b ts a us → Next (Sym SComma) us vs → ((es : List Tree) → trees_of rest ≡ Some es → Derives k (optional SComma expr) vs es ws) → trees_of (a ∷ rest) ≡ Some es → Derives k (optional SComma expr) ts es ws
exprs_more {k = k} {ts = ts} {ws = ws} rest es (unguarded_arg x d h) c again e = let r = given_by {g = tree_of x} (trees_of rest) e in subst (λ es. Derives k (optional SComma expr) ts es ws) (r.2) (ebnf.some (after d c (again r.0 r.1)))
exprs_more rest es (guarded_arg x c h w d) f again e = absurd (no_some e)
exprs_more rest es (in_arg c h w) f again e = absurd (no_some e)
exprs_more rest es (strict_arg h) f again e = absurd (no_some e)

pub exprs : {k : ℕ} {b : Bool} {ts us : List Token} {all : List Argument} → Args k b ts all us → (es : List Tree) → trees_of all ≡ Some es → Derives k (optional SComma expr) ts es us
exprs {k = k} {ts = ts} {us = us} no_args es e = subst (λ es. Derives k (optional SComma expr) ts es us) (some_inner e) ebnf.none
exprs (last_arg h) es e = exprs_last es h e
exprs (more_args {rest = rest} h c g) es e = exprs_more rest es h c (exprs g) e

-- Arguments that are generators

-- names that wait, each with its comma
data Commas : List Token → List (Name × Span) → List Token → Type 0 where
  no_commas : {ts : List Token} → Commas ts [] ts
  a_comma : {ts us vs ws : List Token} {ns : List (Name × Span)} (n : Name) → Next (Ident n) ts us → Next (Sym SComma) us vs → Commas vs ns ws → Commas ts ((n, place ts) ∷ ns) ws

one_placed : {start ts us vs : List Token} {ns : List (Name × Span)} (n : Name) → Commas start ns ts → Next (Ident n) ts us → Next (Sym SComma) us vs → Commas start (ns ++ ((n, place ts) ∷ [])) vs
one_placed n no_commas a c = a_comma n a c no_commas
one_placed n (a_comma m b d g) a c = a_comma m b d (one_placed n g a c)

one_more : {start ts us vs : List Token} {ns : List (Name × Span)} (n : Name) (s : Span) → Commas start ns ts → s ≡ place ts → Next (Ident n) ts us → Next (Sym SComma) us vs → Commas start (ns ++ ((n, s) ∷ [])) vs
one_more {start = start} {vs = vs} {ns = ns} n s w e a c = subst (λ s. Commas start (ns ++ ((n, s) ∷ [])) vs) (sym e) (one_placed n w a c)

behind_role : (ns : List (Name × Span)) (a : Argument) (rest : List Argument) → generators_behind ns (a ∷ rest) ≡ by_role ns (role_of a) (λ ms. generators_behind ms rest)
behind_role [] a rest = refl
behind_role (n ∷ ns) a rest = refl

-- names that still wait at the end
none_waits : (ns : List (Name × Span)) (n : Name × Span) → generators_behind (ns ++ (n ∷ [])) [] ≡ None
none_waits [] n = refl
none_waits (m ∷ ns) n = refl

one_name : {k : ℕ} {ts us : List Token} (n : Name) (s : Span) → s ≡ place ts → Next (Ident n) ts us → Derives k (list SComma ebnf.name) ts ((n, s) ∷ []) us
one_name {k = k} {ts = ts} {us = us} n s e c = subst (λ s. Derives k (list SComma ebnf.name) ts ((n, s) ∷ []) us) (sym e) (ebnf.last (ebnf.a_name n c))

names_after : {k : ℕ} {start ts us : List Token} {ns ms : List (Name × Span)} → Commas start ns ts → Derives k (list SComma ebnf.name) ts ms us → Derives k (list SComma ebnf.name) start (ns ++ ms) us
names_after no_commas h = h
names_after (a_comma n a c g) h = ebnf.more (ebnf.a_name n a) c (names_after g h)

-- some names wait, and no more come
names_all : {k : ℕ} {start ts : List Token} {n : Name × Span} {ns : List (Name × Span)} → Commas start (n ∷ ns) ts → Derives k (list SComma ebnf.name) start (n ∷ ns) ts
names_all (a_comma n a c no_commas) = ebnf.trailing (ebnf.a_name n a) c
names_all (a_comma n a c (a_comma m b d g)) = ebnf.more (ebnf.a_name n a) c (names_all (a_comma m b d g))

-- where an `in` may come first, names wait
abbrev Waits : Bool → List (Name × Span) → Type 0
Waits true [] = ⊥
Waits true (n ∷ ns) = Unit {0}
Waits false ns = Unit {0}

now_waits : (ns : List (Name × Span)) (n : Name × Span) → Waits true (ns ++ (n ∷ []))
now_waits [] n = tt
now_waits (m ∷ ns) n = tt

abbrev Gens : ℕ → List Token → List Generator → List Token → Type 0
Gens k ts gs us = Derives k (optional SComma gen) ts gs us

last_bound : {k : ℕ} {start us : List Token} {g : Generator} {gs : List Generator} → Derives k gen start g us → option_map (λ gs. g ∷ gs) (generators_behind [] []) ≡ Some gs → Gens k start gs us
last_bound {k = k} {start = start} {us = us} {g = g} h e = subst (λ gs. Gens k start gs us) (some_inner e) (ebnf.some (ebnf.last h))

more_bound : {k : ℕ} {start us vs ws : List Token} {g : Generator} {gs : List Generator} (rest : List Argument) → Derives k gen start g us → Next (Sym SComma) us vs → ((gs : List Generator) → generators_behind [] rest ≡ Some gs → Gens k vs gs ws)
    → option_map (λ gs. g ∷ gs) (generators_behind [] rest) ≡ Some gs → Gens k start gs ws
more_bound {k = k} {start = start} {ws = ws} {g = g} rest h c again e = let r = given_by {g = g} (generators_behind [] rest) e in subst (λ gs. Gens k start gs ws) r.2 (ebnf.some (after h c (again r.0 r.1)))

-- a bound argument is a generator, with the names that wait
member_bound : {k : ℕ} {start ts us vs : List Token} {ns : List (Name × Span)} (n : Name) (s p : Span) (e : Tree) (w : Maybe) → Commas start ns ts → Kind k (member n s p e) ts us → Derives k (perhaps (Word KWhere)) us w vs → Derives k gen start (generator (ns ++ ((n, s) ∷ [])) e w) vs
member_bound n s p e w c h g = ebnf.a_gen (names_after c (one_name n s h.2 h.3)) h.4 h.5 g

in_bound : {k : ℕ} {start ts us vs ws : List Token} {ns : List (Name × Span)} {e : Tree} {w : Maybe} → Commas start ns ts → Waits true ns → Next (Word KIn) ts us → Derives k tight us e vs → Derives k (perhaps (Word KWhere)) vs w ws → Derives k gen start (generator (ns ++ []) e w) ws
in_bound no_commas l c s w = absurd l
in_bound {k = k} {start = start} {ws = ws} {ns = n ∷ ns} {e = e} {w = m} (a_comma i a d g) l c s w = subst (λ ns. Derives k gen start (generator ns e m) ws) (sym (append-nil (n ∷ ns))) (ebnf.a_gen (names_all (a_comma i a d g)) c s w)

strict_bound : {k : ℕ} {start ts us : List Token} {ns ms : List (Name × Span)} {e : Tree} {w : Maybe} → Commas start ns ts → Derives k gen ts (generator ms e w) us → Derives k gen start (generator (ns ++ ms) e w) us
strict_bound w (ebnf.a_gen h i s c) = ebnf.a_gen (names_after w h) i s c

last_step : {k : ℕ} {b : Bool} {start ts us : List Token} {ns : List (Name × Span)} {a : Argument} {gs : List Generator} → Arg k b ts a us → Commas start ns ts → Waits b ns → by_role ns (role_of a) (λ ms. generators_behind ms []) ≡ Some gs → Gens k start gs us
last_step {ns = ns} (unguarded_arg (name n s) d h) w l e = absurd (no_some (sym (none_waits ns (n, s)) ∙ e))
last_step (unguarded_arg (member n s p t) d h) w l e = last_bound (member_bound n s p t nothing w h ebnf.without) e
last_step (unguarded_arg (other s t) d h) w l e = absurd (no_some e)
last_step (guarded_arg (name n s) c h x d) w l e = absurd (no_some e)
last_step (guarded_arg (member n s p t) c h x d) w l e = last_bound (member_bound n s p t (just c) w h (ebnf.with_it x d)) e
last_step (guarded_arg (other s t) c h x d) w l e = absurd (no_some e)
last_step (in_arg c s x) w l e = last_bound (in_bound w l c s x) e
last_step (strict_arg {g = generator ms t m} h) w l e = last_bound (strict_bound w h) e

-- what the arguments after it say
abbrev Again : ℕ → Bool → List Token → List Argument → List Token → Type 0
Again k b vs rest ws = (start : List Token) (ns : List (Name × Span)) (gs : List Generator) → Commas start ns vs → Waits b ns → generators_behind ns rest ≡ Some gs → Gens k start gs ws

more_step : {k : ℕ} {b : Bool} {start ts us vs ws : List Token} {ns : List (Name × Span)} {a : Argument} {gs : List Generator} (rest : List Argument) → Arg k b ts a us → Next (Sym SComma) us vs → Again k (waits_after a) vs rest ws → Commas start ns ts → Waits b ns → by_role ns (role_of a) (λ ms. generators_behind ms rest) ≡ Some gs → Gens k start gs ws
more_step {start = start} {ns = ns} {gs = gs} rest (unguarded_arg (name n s) d h) c again w l e = again start (ns ++ ((n, s) ∷ [])) gs (one_more n s w h.0 h.1 c) (now_waits ns (n, s)) e
more_step rest (unguarded_arg (member n s p t) d h) c again w l e = more_bound rest (member_bound n s p t nothing w h ebnf.without) c (λ gs. again _ [] gs no_commas tt) e
more_step rest (unguarded_arg (other s t) d h) c again w l e = absurd (no_some e)
more_step rest (guarded_arg (name n s) b h x d) c again w l e = absurd (no_some e)
more_step rest (guarded_arg (member n s p t) b h x d) c again w l e = more_bound rest (member_bound n s p t (just b) w h (ebnf.with_it x d)) c (λ gs. again _ [] gs no_commas tt) e
more_step rest (guarded_arg (other s t) b h x d) c again w l e = absurd (no_some e)
more_step rest (in_arg d s x) c again w l e = more_bound rest (in_bound w l d s x) c (λ gs. again _ [] gs no_commas tt) e
more_step rest (strict_arg {g = generator ms t m} h) c again w l e = more_bound rest (strict_bound w h) c (λ gs. again _ [] gs no_commas tt) e

turned : {k : ℕ} {b : Bool} {ts us : List Token} {all : List Argument} → Args k b ts all us → Again k b ts all us
turned {k = k} (no_args {ts = ts}) start ns gs no_commas l e = subst (λ gs. Gens k ts gs ts) (some_inner e) ebnf.none
turned no_args start ns gs (a_comma n a c g) l e = absurd (no_some e)
turned (last_arg {a = a} h) start ns gs w l e = last_step h w l (sym (behind_role ns a []) ∙ e)
turned (more_args {a = a} {rest = rest} h d g) start ns gs w l e = more_step rest h d (turned g) w l (sym (behind_role ns a rest) ∙ e)

-- of some arguments there is a generator at least
last_filled : (ns : List (Name × Span)) (r : Role) → by_role ns r (λ ms. generators_behind ms []) ≡ Some [] → ⊥
last_filled ns (waiting n s) e = no_some (sym (none_waits ns (n, s)) ∙ e)
last_filled ns (bound ms t c) e = let r = given_by {g = generator (ns ++ ms) t c} (generators_behind [] []) e in absurd (no_prefix r.2)
  where
    no_prefix : {A : Type 0} {x : A} {xs : List A} → x ∷ xs ≡ [] → ⊥
    no_prefix e = absurd (cc)
last_filled ns unfit e = no_some e

more_filled : (ns : List (Name × Span)) (r : Role) (rest : List Argument) → ((ms : List (Name × Span)) → generators_behind ms rest ≡ Some [] → ⊥) → by_role ns r (λ ms. generators_behind ms rest) ≡ Some [] → ⊥
more_filled ns (waiting n s) rest again e = again (ns ++ ((n, s) ∷ [])) e
more_filled ns (bound ms t c) rest again e = let r = given_by {g = generator (ns ++ ms) t c} (generators_behind [] rest) e in absurd (no_prefix r.2)
  where
    no_prefix : {A : Type 0} {x : A} {xs : List A} → x ∷ xs ≡ [] → ⊥
    no_prefix e = absurd (cc)
more_filled ns unfit rest again e = no_some e

filled : (rest : List Argument) (ns : List (Name × Span)) (a : Argument) → generators_behind ns (a ∷ rest) ≡ Some [] → ⊥
filled [] ns a e = last_filled ns (role_of a) (sym (behind_role ns a []) ∙ e)
filled (b ∷ rest) ns a e = more_filled ns (role_of a) (b ∷ rest) (λ ms. filled rest ms b) (sym (behind_role ns a (b ∷ rest)) ∙ e)

some_gens : {k : ℕ} {ts us : List Token} {gs : List Generator} → Gens k ts gs us → (gs ≡ [] → ⊥) → Derives k (list SComma gen) ts gs us
some_gens ebnf.none n = absurd (n refl)
some_gens (ebnf.some h) n = h

pub all_turned : {k : ℕ} {ts us : List Token} (all : List Argument) (gs : List Generator) → Args k false ts all us → generators_of all ≡ Some gs → Derives k (list SComma gen) ts gs us
all_turned [] gs h e = absurd (no_some e)
all_turned {ts = ts} (a ∷ rest) gs h e = some_gens (turned h ts [] gs no_commas tt e) (λ n. filled rest [] a (e ∙ ap Some n))
