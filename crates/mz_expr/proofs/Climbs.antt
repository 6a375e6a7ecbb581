-- Reading an expression level by level is reading it by the grammar.
use Rattle.std.proofs.Common.{◌≡◌, ◌⊎◌, inl, inr, ℕ, zero, suc, ◌+◌, ◌*◌, ◌<◌, ◌≤◌, List, [], ◌∷◌, ◌++◌, refl, sym, ap, subst, ◌∙◌, arith, true, false, Bool, Option}
use Rattle.std.proofs.lemmas.Bool.{eqb-true, leb-true, ltb-true, le-leb, lt-ltb, ne_eqb, cases_order, agree_below_at}
use Rattle.std.specs.Prelude.{Ok, Some, None, if◌then◌else◌, ◌&&◌, nat_lt, nat_le, nat_eq}
use Rattle.mz_base.specs.declared.fault.Span.{Span}
use Rattle.mz_base.specs.declared.stop.Stop.{Stop}
use Rattle.mz_base.specs.declared.stop.Stop.TheVariants.{Refused, Memory}
use Rattle.mz_lexer.specs.declared.token.Token.{Token}
use Rattle.mz_lexer.specs.declared.token.Tok.{Tok}
use Rattle.mz_tree.specs.declared.expr.BinOp.{BinOp}
use Rattle.mz_grammar.specs.Tokens.{tok_at}
use Rattle.mz_grammar.specs.RulesPromise.{Stops}
use Rattle.mz_grammar.specs.RulesReading.{Read, mapped, ◌>>=◌}
use Rattle.mz_grammar.proofs.Steps.{grouped, same_then, itself}
use Rattle.mz_grammar.specs.declared.level.Level.{Level}
use Rattle.mz_grammar.specs.declared.level.Level.TheVariants as level
use Rattle.mz_grammar.specs.Operators.{operator_of, if_level, binary_of, level_number, tighter_level}
use Rattle.mz_grammar.specs.Parts as parts
use Rattle.mz_grammar.specs.Parts.{Operand, chained}
use Rattle.mz_grammar.specs.Reading.{reads, operand_rank}
use Rattle.mz_grammar.proofs.Equations.{level_reads, operand_reads, operators_reads}
use Rattle.mz_expr.specs.declared.parser.descent.Entry.{Entry}
use Rattle.mz_expr.specs.declared.parser.descent.Entry.TheVariants as entry_is
use Rattle.mz_expr_operands.specs.Levels.{if_within, next_level}
use Rattle.mz_expr.specs.StepsClimb.{numbered, levels, with_operators, climbing}
use Rattle.mz_expr.specs.Descent.{extent}

-- a level more
climbing_more : (ks : List Level) (l : Level) (x : Operand) (room : ℕ) (ts : List Token) → climbing (ks ++ (l ∷ [])) x room ts ≡ (climbing ks x room ts >>= λ y. with_operators l y.0 room y.1)
unfolding climbing
climbing_more [] l x room ts = itself (with_operators l x room ts)
climbing_more (k ∷ ks) l x room ts =
    same_then (with_operators k x room ts) _ _ (λ y. climbing_more ks l y.0 room y.1)
    ∙ grouped (with_operators k x room ts) (λ y. climbing ks y.0 room y.1) (λ y. with_operators l y.0 room y.1)

-- an expression of this level is what comes before the operators, with the operators of these levels after it
abbrev Climbs : Level → List Level → Type 0
Climbs l ks = (room : ℕ) (ts : List Token) → reads (parts.level l) room ts ≡ (reads parts.unit room ts >>= λ x. climbing ks x.0 room x.1)

tightest : Climbs level.Concat (level.Concat ∷ [])
unfolding climbing
tightest room ts = level_reads level.Concat room ts ∙ ap (λ o. o >>= λ x. with_operators level.Concat x.0 room x.1) (operand_reads level.Concat room ts)
    ∙ same_then (reads parts.unit room ts) _ _ (λ x. sym (itself (with_operators level.Concat x.0 room x.1)))

looser : (l k : Level) (ks : List Level) → tighter_level l ≡ Some k → Climbs k ks → Climbs l (ks ++ (l ∷ []))
looser l k ks next climbs room ts =
    level_reads l room ts
    ∙ ap (λ o. o >>= λ x. with_operators l x.0 room x.1) (operand_reads l room ts ∙ rw next (climbs room ts))
    ∙ sym (grouped (reads parts.unit room ts) (λ x. climbing ks x.0 room x.1) (λ x. with_operators l x.0 room x.1))
    ∙ same_then (reads parts.unit room ts) _ _ (λ x. sym (climbing_more ks l x.0 room x.1))

abbrev pub all_levels : Level → List Level
all_levels l = levels 13 (level_number l)

power : Climbs level.Power (all_levels level.Power)
unfolding levels
power = looser level.Power level.Concat _ refl tightest

product : Climbs level.Product (all_levels level.Product)
unfolding levels
product = looser level.Product level.Power _ refl power

sum : Climbs level.Sum (all_levels level.Sum)
unfolding levels
sum = looser level.Sum level.Product _ refl product

range : Climbs level.Range (all_levels level.Range)
unfolding levels
range = looser level.Range level.Sum _ refl sum

union : Climbs level.Union (all_levels level.Union)
unfolding levels
union = looser level.Union level.Range _ refl range

member : Climbs level.Member (all_levels level.Member)
unfolding levels
member = looser level.Member level.Union _ refl union

compare : Climbs level.Compare (all_levels level.Compare)
unfolding levels
compare = looser level.Compare level.Member _ refl member

conjunction : Climbs level.And (all_levels level.And)
unfolding levels
conjunction = looser level.And level.Compare _ refl compare

disjunction : Climbs level.Or (all_levels level.Or)
unfolding levels
disjunction = looser level.Or level.And _ refl conjunction

implication : Climbs level.Imp (all_levels level.Imp)
unfolding levels
implication = looser level.Imp level.Or _ refl disjunction

equivalence : Climbs level.Iff (all_levels level.Iff)
unfolding levels
equivalence = looser level.Iff level.Imp _ refl implication

pub climbs : (l : Level) → Climbs l (all_levels l)
unfolding levels
climbs level.Iff = equivalence
climbs level.Imp = implication
climbs level.Or = disjunction
climbs level.And = conjunction
climbs level.Compare = compare
climbs level.Member = member
climbs level.Union = union
climbs level.Range = range
climbs level.Sum = sum
climbs level.Product = product
climbs level.Power = power
climbs level.Concat = tightest

number_bound : (l : Level) → level_number l < 13
number_bound level.Iff = omega arith
number_bound _ = omega arith

number_positive : (l : Level) → 0 < level_number l
number_positive level.Iff = omega arith
number_positive _ = omega arith

numbered_number : (l : Level) → numbered (level_number l) ≡ l
numbered_number level.Iff = refl
numbered_number _ = refl

number_numbered : (n : ℕ) → 0 < n → n < 13 → level_number (numbered n) ≡ n
number_numbered zero a h = absurd (omega (arith, a))
number_numbered (suc n) a h = eqb-true (level_number (numbered (suc n))) (suc n) (agree_below_at (λ j. nat_eq (level_number (numbered (suc j))) (suc j)) (λ j. true) 12 n refl (omega (arith, h)))

-- the operator of a level, from the operator with its level
binary_level : (l : Level) (o : Option Tok) → binary_of l o ≡ if_level l (operator_of o)
binary_level l None = refl
binary_level l (Some t) = refl

-- a token that is no operator of a level
not_here : (k : Level) (ks : List Level) (x : Operand) (room : ℕ) (ts : List Token) → if_level k (operator_of (tok_at ts)) ≡ None → climbing (k ∷ ks) x room ts ≡ climbing ks x room ts
unfolding climbing
not_here k ks x room ts none = ap (λ o. mapped (λ ls. chained x ls) o >>= λ y. climbing ks y.0 room y.1) (let e = operators_reads k room ts in rw (binary_level k (tok_at ts) ∙ none) at e)

-- a token that is an operator of none of these levels
none_follows : (n last : ℕ) (x : Operand) (room : ℕ) (ts : List Token) → ((j : ℕ) → last ≤ j → j < n → if_level (numbered j) (operator_of (tok_at ts)) ≡ None) → climbing (levels n last) x room ts ≡ Ok (x, ts)
unfolding levels climbing
none_follows zero last x room ts none = refl
none_follows (suc n) last x room ts none = go (nat_le last n) refl (λ h. none n (leb-true last n h) (omega arith)) (none_follows n last x room ts (λ j a b. none j a (omega (arith, b))))
  where
    go : (b : Bool) → nat_le last n ≡ b → (nat_le last n ≡ true → if_level (numbered n) (operator_of (tok_at ts)) ≡ None) → climbing (levels n last) x room ts ≡ Ok (x, ts) → climbing (if b then numbered n ∷ levels n last else []) x room ts ≡ Ok (x, ts)
    go false e here rest = refl
    go true e here rest = not_here (numbered n) (levels n last) x room ts (here e) ∙ rest

-- a token that is an operator of one of these levels, and so of none that is tighter
jump : (n last : ℕ) (k : Level) (x : Operand) (room : ℕ) (ts : List Token) → level_number k < n → last ≤ level_number k → ((j : ℕ) → level_number k < j → j < n → if_level (numbered j) (operator_of (tok_at ts)) ≡ None) →
    climbing (levels n last) x room ts ≡ climbing (k ∷ levels (level_number k) last) x room ts
unfolding levels
jump zero last k x room ts below above none = absurd (omega (arith, below))
jump (suc n) last k x room ts below above none =
    rw (le-leb last n (omega (arith, below, above))) (go (cases_order (level_number k) n) (λ h. jump n last k x room ts h above (λ j a b. none j a (omega (arith, b)))))
  where
    go : (level_number k ≡ n) ⊎ ((level_number k < n) ⊎ (n < level_number k)) → (level_number k < n → climbing (levels n last) x room ts ≡ climbing (k ∷ levels (level_number k) last) x room ts) →
        climbing (numbered n ∷ levels n last) x room ts ≡ climbing (k ∷ levels (level_number k) last) x room ts
    go (inl e) further = rw (sym e, numbered_number k) refl
    go (inr (inl h)) further = not_here (numbered n) (levels n last) x room ts (none n h (omega arith)) ∙ further h
    go (inr (inr h)) further = absurd (omega (arith, h, below))

-- the operator is of its level alone
other_level : (o : Level × BinOp) (j : ℕ) → 0 < j → j < 13 → (level_number o.0 ≡ j → ⊥) → if_level (numbered j) (Some o) ≡ None
other_level o j some bound other = rw (number_numbered j some bound, ne_eqb (level_number o.0) j other) refl

within : (l : Level) (done : ℕ) (o : Level × BinOp) → level_number l ≤ level_number o.0 → level_number o.0 < done → if_within l done (Some o) ≡ Some o.0
within l done o above below = rw (le-leb (level_number l) (level_number o.0) above, lt-ltb (level_number o.0) done below) refl

none_within : (l : Level) (done : ℕ) (o : Option (Level × BinOp)) → done ≤ 13 → if_within l done o ≡ None → (j : ℕ) → level_number l ≤ j → j < done → if_level (numbered j) o ≡ None
none_within l done None bound none j above below = refl
none_within l done (Some o) bound none j above below = let some = number_positive l in other_level o j (omega (arith, some, above)) (omega (arith, below, bound)) (λ e. go e)
  where
    go : level_number o.0 ≡ j → ⊥
    go e = let some = within l done o (omega (arith, above, e)) (omega (arith, below, e)) in absurd (cc (some, none))

-- What next_level found.
record Found (l : Level) (done : ℕ) (o : Option (Level × BinOp)) (k : Level) : Type 0 where
  above : level_number l ≤ level_number k
  below : level_number k < done
  alone : (j : ℕ) → level_number k < j → j < 13 → if_level (numbered j) o ≡ None

found : (l : Level) (done : ℕ) (o : Option (Level × BinOp)) (k : Level) → if_within l done o ≡ Some k → Found l done o k
found l done None k is = absurd (cc is)
found l done (Some o) k is = go (nat_le (level_number l) (level_number o.0)) (nat_lt (level_number o.0) done) refl refl is
  where
    go : (a b : Bool) → nat_le (level_number l) (level_number o.0) ≡ a → nat_lt (level_number o.0) done ≡ b → (if a && b then Some o.0 else None) ≡ Some k → Found l done (Some o) k
    go true true a b e = let same : o.0 ≡ k = cc e in record {
      above = subst (λ m. level_number l ≤ level_number m) same (leb-true _ _ a);
      below = subst (λ m. level_number m < done) same (ltb-true _ _ b);
      alone = λ j past bound. other_level o j (omega (arith, past)) bound (λ e. absurd (omega (arith, past, e, ap level_number same)));
    }
    go true false a b e = absurd (cc e)
    go false c a b e = absurd (cc e)

taken : (l : Level) (done : ℕ) (k : Level) (x : Operand) (room : ℕ) (ts : List Token) → done ≤ 13 → next_level l done (tok_at ts) ≡ Some k →
    climbing (levels done (level_number l)) x room ts ≡ (with_operators k x room ts >>= λ y. climbing (levels (level_number k) (level_number l)) y.0 room y.1)
unfolding climbing
taken l done k x room ts bound is =
    let f = found l done (operator_of (tok_at ts)) k is in
    jump done (level_number l) k x room ts f.below f.above (λ j a b. f.alone j a (omega (arith, b, bound)))

-- the loop's start, its step and its ends
pub climb_starts : (l : Level) (x : Operand) (room after : ℕ) (ts next : List Token) → reads parts.unit room ts ≡ Ok (x, next) → after ≡ room → reads (parts.level l) room ts ≡ climbing (all_levels l) x after next
climb_starts l x room after ts next sub same_room = rw same_room (climbs l room ts ∙ ap (λ o. o >>= λ y. climbing (all_levels l) y.0 room y.1) sub)

pub climb_step : (l : Level) (done : ℕ) (k : Level) (x y : Operand) (room after : ℕ) (rest next : List Token) (all : Read Operand) → done ≤ 13 →
    climbing (levels done (level_number l)) x room rest ≡ all → next_level l done (tok_at rest) ≡ Some k → with_operators k x room rest ≡ Ok (y, next) → after ≡ room →
    climbing (levels (level_number k) (level_number l)) y after next ≡ all
unfolding climbing
climb_step l done k x y room after rest next all bound so_far is sub same_room =
    rw same_room (sym (ap (λ o. o >>= λ z. climbing (levels (level_number k) (level_number l)) z.0 room z.1) sub) ∙ sym (taken l done k x room rest bound is) ∙ so_far)

pub climb_stops : (l : Level) (done : ℕ) (k : Level) (x : Operand) (room : ℕ) (rest : List Token) (all : Read Operand) → done ≤ 13 →
    climbing (levels done (level_number l)) x room rest ≡ all → next_level l done (tok_at rest) ≡ Some k → (end : Span) (next : List Token) (stop : Stop) → Stops end next stop (with_operators k x room rest) → Stops end next stop all
unfolding climbing
climb_stops l done k x room rest all bound so_far is end next Memory sub = tt
climb_stops l done k x room rest all bound so_far is end next (Refused f) sub =
    (sym so_far ∙ taken l done k x room rest bound is ∙ ap (λ o. o >>= λ z. climbing (levels (level_number k) (level_number l)) z.0 room z.1) sub.0, sub.1)

pub climb_end : (l : Level) (done : ℕ) (x : Operand) (room : ℕ) (rest : List Token) (all : Read Operand) → done ≤ 13 →
    climbing (levels done (level_number l)) x room rest ≡ all → next_level l done (tok_at rest) ≡ None → all ≡ Ok (x, rest)
climb_end l done x room rest all bound so_far none = sym so_far ∙ none_follows done (level_number l) x room rest (none_within l done (operator_of (tok_at rest)) bound none)

-- the levels that were read go below the first
rank_number : (l : Level) → operand_rank l + 2 * level_number l ≡ 27
unfolding operand_rank
rank_number level.Iff = refl
rank_number _ = refl

-- a level that is taken lies within
pub level_within : (l : Level) (done : ℕ) (k : Level) (ts : List Token) (room most : ℕ) (entry : Entry) → next_level l done (tok_at ts) ≡ Some k →
    extent room (entry_is.Level l) ≤ extent most entry → extent room (entry_is.Level k) ≤ extent most entry
level_within l done k ts room most entry is h =
    let f = found l done (operator_of (tok_at ts)) k is in let a = rank_number l in let b = rank_number k in let c = f.above in omega (arith, a, b, c, h)

pub number_below : (l : Level) (done : ℕ) (k : Level) (ts : List Token) → next_level l done (tok_at ts) ≡ Some k → level_number k < done
number_below l done k ts is = let f = found l done (operator_of (tok_at ts)) k is in f.below

pub unit_below : (room most : ℕ) (l : Level) (entry : Entry) → extent room (entry_is.Level l) ≤ extent most entry → extent room entry_is.Unit ≤ extent most entry
unit_below room most l entry h = let a = rank_number l in let b = number_bound l in omega (arith, a, b, h)
