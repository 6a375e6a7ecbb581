-- The facts of all parts of a data file.
use Rattle.std.proofs.Common.{arith, ◌<◌, ◌≡◌, ℕ, zero, suc, List, [], ◌∷◌, ◌++◌, refl, sym, ap, subst, true, false, Bool, Option, append-nil}
use Rattle.std.specs.Prelude.{Some, None}
use Rattle.mz_base.specs.declared.fault.Span.{Span}
use Rattle.mz_lexer.specs.declared.token.Token.{Token}
use Rattle.mz_lexer.specs.declared.token.Tok.{Tok}
use Rattle.mz_lexer.specs.declared.token.Tok.TheVariants.{Sym}
use Rattle.mz_lexer.specs.declared.token.Symbol.TheVariants.{SRParen, SLBrack, SRBrack, SRBrace, SRRows, SComma, SDots, SEq}
use Rattle.mz_tree.specs.Tree.{Name}
use Rattle.mz_tree.specs.Data as pure
use Rattle.mz_tree.specs.Data.{is_name}
use Rattle.mz_grammar.specs.Rules.{keeps, give, leave, part, Runs, gives, skips, finds, parts, kept}
use Rattle.mz_grammar.specs.Look.{is_sym, symbol_number}
use Rattle.mz_grammar.specs.RulesReading.{step, read_by, Falls}
use Rattle.mz_grammar.proofs.Viable.{where_so, never, before_end, last, tokens, maybe, done_by, goes_in, goes_out, goes_over, MayTake, Goes, Done, may_take}
use Rattle.mz_grammar.specs.Tests.{is_end}
use Rattle.mz_grammar.specs.Data.{Place, Value, Ruled, rule, rank, width, symbol, opening, file, item, datum, named, sized, index_sets, plains, rows, row, plain, range, set, bounds, ones, one}
use Rattle.mz_grammar.proofs.DataPartEnds.{EndsValue, takes_token, sign, a_number, an_identifier, TakesToken, CanComplete, Completion, Facts}

-- a part with nothing behind it
goes_last : {n m : Place} {f : Value m → Ruled n} (us : List Token) {x : Value m} {y : Value n} {next : Option Tok} → Goes rule (rule m) us x next → Goes rule (f x) [] y next → Goes rule (part m f) us y next
goes_last {n = n} {m = m} {f = f} us {y = y} {next = next} h g = subst (λ us. Goes rule {n = n} (part m f) us y next) (append-nil us) (goes_in rule us [] h g)

-- Index sets, this many

sets : ℕ → List Token
sets zero = []
sets (suc n) = an_identifier ∷ (sign SComma ∷ sets n)

name_is_a_set : Runs rule set 0 (rule set) (an_identifier ∷ []) (pure.ident 0) (Some (Sym SComma))
unfolding rule symbol_number
name_is_a_set = skips refl (parts (an_identifier ∷ []) [] (skips refl (finds kept refl gives)) (parts [] [] (skips refl gives) gives))

-- they may stand before what is no comma
sets_stand : (n : ℕ) (next : Option Tok) → is_sym SComma next ≡ false → (vs : List pure.Value) × Goes rule (rule (index_sets n)) (sets n) vs next
unfolding rule symbol_number sets
sets_stand zero next e = ([], (0, skips e gives))
sets_stand (suc n) next e =
    let h = sets_stand n next e in
    (pure.ident 0 ∷ h.0, goes_in rule (an_identifier ∷ []) (sign SComma ∷ sets n) (0, name_is_a_set) (goes_over rule keeps refl (goes_last (sets n) h.1 (0, gives))))

more_sets : (n : ℕ) (v : pure.Value) → MayTake rule {n = index_sets (suc n)} (part (index_sets n) λ vs. give (v ∷ vs)) (sets n)
more_sets n v = let h = sets_stand n None refl in (v ∷ h.0, goes_last (sets n) h.1 (0, gives))

comma_and_sets : (n : ℕ) (v : pure.Value) → MayTake rule {n = index_sets (suc n)} (symbol SComma (part (index_sets n) λ vs. give (v ∷ vs))) (sign SComma ∷ sets n)
unfolding symbol_number
comma_and_sets n v = let h = more_sets n v in (h.0, goes_over rule keeps refl h.1)

-- the elements of an array with index sets, of which there are none
elements : List Token
elements = sign SLBrack ∷ sign SRBrack ∷ sign SRParen ∷ []

elements_stand : (n : ℕ) (ss : List pure.Value) → MayTake rule {n = sized n} (opening SLBrack (part plains λ vs. leave (symbol SRParen (give (pure.array_nd (pure.values ss) (pure.values vs)))))) elements
unfolding step read_by rule symbol_number elements
elements_stand n ss = may_take rule {n = sized n} _ elements tt

sized_stands : (n : ℕ) → MayTake rule (rule (sized n)) (sets n ++ elements)
unfolding rule symbol_number elements
sized_stands n =
    let h = sets_stand n (Some (Sym SLBrack)) refl in
    let g = elements_stand n h.0 in
    (g.0, goes_in rule (sets n) elements h.1 g.1)

in_parentheses : (d : Option ℕ) (name n : ℕ) → MayTake rule {n = named d name} (part (sized n) λ v. leave (give v)) (sets n ++ elements)
in_parentheses d name n = let h = sized_stands n in (h.0, goes_last (sets n ++ elements) h.1 (goes_out rule (0, gives)))

-- Values that go by what their first token is

name_stands : (o : Option ℕ) (n : Name) (d : Name → Option ℕ) (s : Span) → Done rule {n = datum d} (part (named o n) λ v. give (s, v)) []
unfolding step read_by rule symbol_number
name_stands None n d s = tt
name_stands (Some m) n d s = tt

bounds_stand : (free : Bool) (v : pure.Value) → Done rule {n = set} (part (bounds free v) λ w. give w) (sign SDots ∷ a_number ∷ [])
unfolding step read_by rule symbol_number
bounds_stand true v = tt
bounds_stand false v = tt

ends_value_end : EndsValue None
ends_value_end = (refl, refl)

facts : (n : Place) → Facts n
unfolding step read_by rule rank symbol_number
facts (file d) = record {
  falls = (tt, (omega arith, λ i. (tt, tt)));
  takes = tt;
  complete = ([], tt);
  can_complete = (
    before_end (λ o h. ap is_end h),
    tt,
    never tt,
    λ i a. (
      maybe [] tt ends_value_end (λ o h. subst EndsValue (sym h) ends_value_end),
      (before_end (λ o h. ap is_end h), tt, never tt, (λ t e s. (([], tt), λ is b. (last (λ o h. h), tt)), never tt, tt)),
    ),
  );
}
facts (item d) = record {
  falls = tt;
  takes = tt;
  complete = (an_identifier ∷ sign SEq ∷ a_number ∷ [], tt);
  can_complete = (λ t n e s. ((sign SEq ∷ a_number ∷ [], tt), (λ t e s. ((a_number ∷ [], tt), λ v a. (last (λ o h. h), tt)), never tt, tt)), never tt, tt);
}
facts (datum d) = record {
  falls = (omega arith, λ v. tt);
  takes = tt;
  complete = (a_number ∷ [], tt);
  can_complete = (
    λ t e s. ((sign SRBrack ∷ [], tt), λ vs a. (maybe [] tt tt (λ o h. tt), tt)),
    never tt,
    (
      λ t e s. ((sign SRRows ∷ [], tt), λ ls a. (maybe [] tt tt (λ o h. tt), tt)),
      never tt,
      (λ t n e s. (([], name_stands (d n) n d s), λ v a. (last (λ o h. h), tt)), never tt, λ v a. (last (λ o h. h), tt)),
    ),
  );
}
facts (named None n) = record {
  falls = (tt, (omega arith, λ v. tt));
  takes = tt;
  complete = ([], tt);
  can_complete = (never tt, tt, before_end (λ o h. h.1), λ v a. (last (λ o h. h), tt));
}
facts (named (Some d) n) = record {
  falls = (omega arith, λ v. tt);
  takes = tt;
  complete = ([], tt);
  can_complete = (
    λ t e s. ((sets d ++ elements, done_by rule {n = named (Some d) n} _ _ (in_parentheses (Some d) n d)), λ v a. (maybe [] tt tt (λ o h. tt), tt)),
    before_end (λ o h. h.1),
    λ v a. (last (λ o h. h), tt),
  );
}
facts (sized n) = record {
  falls = (omega arith, λ ss. tt);
  takes = λ ss. tt;
  complete = (sets n ++ elements, done_by rule (rule (sized n)) _ (sized_stands n));
  can_complete = λ ss a. (
    tokens (sign SLBrack ∷ sign SRBrack ∷ sign SRParen ∷ []) tt refl tt,
    (λ t e s. ((sign SRBrack ∷ sign SRParen ∷ [], tt), λ vs b. (tokens (sign SRParen ∷ []) tt tt tt, (λ t e s. (([], tt), tt), never tt, tt))), never tt, tt),
  );
}
facts (index_sets zero) = record {
  falls = tt;
  takes = tt;
  complete = (sets 0, done_by rule (rule (index_sets 0)) _ (sets_stand 0 None refl));
  can_complete = (λ t e s. (([], tt), tt), before_end (λ o h. h), tt);
}
facts (index_sets (suc n)) = record {
  falls = (omega arith, λ v. tt);
  takes = tt;
  complete = (sets (suc n), done_by rule (rule (index_sets (suc n))) _ (sets_stand (suc n) None refl));
  can_complete = λ v a. (
    tokens (sign SComma ∷ sets n) (done_by rule {n = index_sets (suc n)} _ _ (comma_and_sets n v)) (refl, refl) tt,
    (λ t e s. ((sets n, done_by rule {n = index_sets (suc n)} _ _ (more_sets n v)), λ vs b. (last (λ o h. h), tt)), never tt, tt),
  );
}
facts plains = record {
  falls = (omega arith, λ v. tt);
  takes = tt;
  complete = (sign SRBrack ∷ [], tt);
  can_complete = (
    λ t e s. (([], tt), tt),
    never tt,
    λ v a. (
      tokens (sign SRBrack ∷ []) tt (refl, refl) tt,
      (λ t e s. ((sign SRBrack ∷ [], tt), λ vs b. (last (λ o h. tt), tt)), never tt, (λ t e s. (([], tt), tt), never tt, tt)),
    ),
  );
}
facts rows = record {
  falls = (omega arith, λ l. tt);
  takes = tt;
  complete = (sign SRRows ∷ [], tt);
  can_complete = (
    λ t e s. (([], tt), tt),
    never tt,
    λ l a. (
      tokens (sign SRRows ∷ []) tt ((refl, refl), refl, refl) tt,
      (λ t e s. ((sign SRRows ∷ [], tt), λ ls b. (last (λ o h. tt), tt)), never tt, (λ t e s. (([], tt), tt), never tt, tt)),
    ),
  );
}
facts row = record {
  falls = (omega arith, λ v. tt);
  takes = tt;
  complete = (a_number ∷ [], tt);
  can_complete = λ v a. (
    maybe [] tt ends_value_end (λ o h. h.0),
    (λ t e s. ((a_number ∷ [], tt), (before_end (λ o h. h.2), tt, never tt, λ vs b. (last (λ o h. h), tt))), before_end (λ o h. h.1), tt),
  );
}
facts plain = record {
  falls = (omega arith, λ v. (omega arith, λ w. tt));
  takes = tt;
  complete = (a_number ∷ [], tt);
  can_complete = (
    λ t e s. ((sign SRBrace ∷ [], tt), λ vs a. (maybe [] tt tt (λ o h. tt), tt)),
    never tt,
    (λ t e s. (([], tt), tt), never tt, λ v a. (maybe [] tt tt (λ o h. tt), λ w b. (last (λ o h. h), tt))),
  );
}
facts (range v) = record {
  falls = tt;
  takes = tt;
  complete = ([], tt);
  can_complete = (λ t e s. ((a_number ∷ [], tt), λ w a. (last (λ o h. tt), tt)), before_end (λ o h. h.0), tt);
}
facts set = record {
  falls = (omega arith, λ v. (omega arith, λ w. tt));
  takes = tt;
  complete = (an_identifier ∷ [], tt);
  can_complete = (
    λ t e s. ((sign SRBrace ∷ [], tt), λ vs a. (maybe [] tt tt (λ o h. tt), tt)),
    never tt,
    λ v a. (maybe (sign SDots ∷ a_number ∷ []) (bounds_stand (is_name v.1) v.1) tt (λ o h. tt), λ w b. (last (λ o h. h), tt)),
  );
}
facts (bounds true v) = record {
  falls = tt;
  takes = tt;
  complete = ([], tt);
  can_complete = (λ t e s. ((a_number ∷ [], tt), λ w a. (last (λ o h. tt), tt)), before_end (λ o h. h.0), tt);
}
facts (bounds false v) = record {
  falls = tt;
  takes = tt;
  complete = (sign SDots ∷ a_number ∷ [], tt);
  can_complete = (λ t e s. ((a_number ∷ [], tt), λ w a. (last (λ o h. tt), tt)), never tt, tt);
}
facts ones = record {
  falls = (omega arith, λ v. tt);
  takes = tt;
  complete = (sign SRBrace ∷ [], tt);
  can_complete = (
    λ t e s. (([], tt), tt),
    never tt,
    λ v a. (
      tokens (sign SRBrace ∷ []) tt tt tt,
      (λ t e s. ((sign SRBrace ∷ [], tt), λ vs b. (last (λ o h. tt), tt)), never tt, (λ t e s. (([], tt), tt), never tt, tt)),
    ),
  );
}
facts one = record {
  falls = tt;
  takes = tt;
  complete = (a_number ∷ [], tt);
  can_complete = (λ t e s. ((a_number ∷ [], tt), (λ t z e s. (([], tt), tt), never tt, tt)), never tt, (λ t v e s. (([], tt), tt), never tt, tt));
}

pub low : (n : Place) → rank n < width
unfolding rank
low (file d) = omega arith
low _ = omega arith

pub falls : (n : Place) → Falls rank (rank n) (rule n)
falls n = (facts n).falls

pub takes : (n : Place) → takes_token n ≡ true → TakesToken (rule n)
takes n e = where_so (takes_token n) e (facts n).takes

pub complete : (n : Place) → Completion (rule n)
complete n = (facts n).complete

pub can_complete : (n : Place) → CanComplete (rule n)
can_complete n = (facts n).can_complete
