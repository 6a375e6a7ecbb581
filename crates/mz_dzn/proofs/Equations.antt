-- How each part of a data file is read, by its rule.
use Rattle.std.proofs.Common.{◌≡◌, ℕ, zero, suc, ◌<◌, ◌-◌, List, [], ◌∷◌, refl, ap, ◌∙◌, Bool, true, false, Option, Result, arith}
use Rattle.std.specs.Prelude.{Ok, Some, None, if◌then◌else◌}
use Rattle.mz_lexer.specs.declared.token.Token.{Token}
use Rattle.mz_base.specs.declared.fault.Span.{Span}
use Rattle.mz_lexer.specs.declared.token.Symbol.{Symbol}
use Rattle.mz_lexer.specs.declared.token.Symbol.TheVariants.{SLParen, SRParen, SLBrack, SLBrace, SRBrace, SRBrack, SLRows, SRRows, SBar, SComma, SSemi, SDots, SEq, SMinus, SAbsent}
use Rattle.mz_tree.specs.Tree.{Name}
use Rattle.mz_tree.specs.Data as pure
use Rattle.mz_grammar.specs.Tokens.{tok_at, behind, place}
use Rattle.mz_grammar.specs.Look.{is_sym}
use Rattle.mz_grammar.specs.Rules.{syntax, too_deep}
use Rattle.mz_grammar.specs.RulesReading.{Read, Reader, Stuck, stuck, ◌>>=◌, on, open_at, mapped, with_prefix, listed, step}
use Rattle.mz_grammar.proofs.Laws
use Rattle.mz_grammar.proofs.Steps.{grouped, same_then, same_if}
use Rattle.mz_grammar.specs.Tests.{ident_of, is_end, ends_row}
use Rattle.mz_grammar.specs.Data.{Dimensions, Place, Placed, rule, rank, width, reads, file, item, datum, named, sized, index_sets, plains, rows, row, plain, range, set, bounds, ones, one, literal_of, negated_of}
use Rattle.mz_grammar.proofs.DataFacts.{low, falls}
use Rattle.mz_dzn.specs.Steps.{goes_on_at, row_goes_on_at, file_goes_on_at, braces_at, brackets_at, array_at, table_at}

pub by_rule : (n : Place) (room : ℕ) (ts : List Token) → reads n room ts ≡ step reads (rule n) room ts
unfolding reads
by_rule n room ts = Laws.by_rule rule rank width low falls n room ts

-- Pieces of rules

-- a test, and what is read behind either way
if_then : {A B : Type 0} (b : Bool) (p q : Result A Stuck) (f : A → Read B) → (if b then (p >>= f) else (q >>= f)) ≡ ((if b then p else q) >>= f)
if_then true p q f = refl
if_then false p q f = refl

-- what follows an element of a list
more : {A : Type 0} → Reader (List A) → A → Bool × List Token → Read (List A)
more next x b = if b.0 then with_prefix (x ∷ []) (next b.1) else Ok (x ∷ [], b.1)

element_reads : {A : Type 0} (separator closing : Symbol) (next : Reader (List A)) (x : A) (ts : List Token) → (if is_sym separator (tok_at ts)
    then with_prefix (x ∷ []) (next (behind ts))
    else (if is_sym closing (tok_at ts) then Ok (x ∷ [], behind ts) else stuck syntax ts)) ≡ listed (goes_on_at separator closing) next x ts
unfolding goes_on_at more
element_reads separator closing next x ts =
    same_if (is_sym separator (tok_at ts)) refl (if_then (is_sym closing (tok_at ts)) (Ok (false, behind ts)) (stuck syntax ts) (more next x))
    ∙ if_then (is_sym separator (tok_at ts)) (Ok (true, behind ts)) _ (more next x)

brackets_reads : {A : Type 0} (f : List pure.Value × List Token → Read A) (room : ℕ) (ts : List Token) → (if is_sym SLBrack (tok_at ts) then open_at room ts (λ r. reads plains r (behind ts) >>= f) else stuck syntax ts) ≡ (brackets_at room ts >>= f)
brackets_reads f zero ts = if_then (is_sym SLBrack (tok_at ts)) (stuck too_deep ts) (stuck syntax ts) f
brackets_reads f (suc r) ts = if_then (is_sym SLBrack (tok_at ts)) (reads plains r (behind ts)) (stuck syntax ts) f

-- Values

pub one_reads : (room : ℕ) (ts : List Token) → reads one room ts ≡ (if is_sym SMinus (tok_at ts)
    then on (negated_of (tok_at (behind ts))) (stuck syntax (behind ts)) (λ z. Ok ((place ts, pure.int z), behind (behind ts)))
    else on (literal_of (tok_at ts)) (stuck syntax ts) (λ v. Ok ((place ts, v), behind ts)))
unfolding step rule
one_reads room ts = by_rule one room ts

pub range_reads : (v : pure.Value) (room : ℕ) (ts : List Token) → reads (range v) room ts ≡ (if is_sym SDots (tok_at ts)
    then (reads one room (behind ts) >>= λ w. Ok (pure.range v w.0.1, w.1))
    else Ok (v, ts))
unfolding step rule
range_reads v room ts = by_rule (range v) room ts

pub bounds_reads : (free : Bool) (v : pure.Value) (room : ℕ) (ts : List Token) → reads (bounds free v) room ts ≡ (if is_sym SDots (tok_at ts)
    then (reads one room (behind ts) >>= λ w. Ok (pure.range v w.0.1, w.1))
    else (if free then Ok (v, ts) else stuck syntax ts))
unfolding step rule
bounds_reads true v room ts = by_rule (bounds true v) room ts
bounds_reads false v room ts = by_rule (bounds false v) room ts

pub set_reads : (room : ℕ) (ts : List Token) → reads set room ts ≡ (if is_sym SLBrace (tok_at ts)
    then braces_at room ts
    else (reads one room ts >>= λ v. mapped (λ w. w) (reads (bounds (pure.is_name v.0.1) v.0.1) room v.1)))
unfolding step rule
set_reads room ts = by_rule set room ts

placed : (at : Span) (room : ℕ) (ts : List Token) → open_at {A = Placed} room ts (λ r. mapped (λ vs. (at, pure.set (pure.values vs))) (reads ones r (behind ts))) ≡ mapped (λ v. (at, v)) (braces_at room ts)
placed at zero ts = refl
placed at (suc r) ts = grouped (reads ones r (behind ts)) (λ vs. Ok (pure.set (pure.values vs.0), vs.1)) (λ v. Ok ((at, v.0), v.1))

pub plain_reads : (room : ℕ) (ts : List Token) → reads plain room ts ≡ (if is_sym SLBrace (tok_at ts)
    then mapped (λ v. (place ts, v)) (braces_at room ts)
    else (if is_sym SAbsent (tok_at ts)
    then Ok ((place ts, pure.absent), behind ts)
    else (reads one room ts >>= λ v. reads (range v.0.1) room v.1 >>= λ w. Ok ((v.0.0, w.0), w.1))))
unfolding step rule
plain_reads room ts = by_rule plain room ts ∙ same_if (is_sym SLBrace (tok_at ts)) (placed (place ts) room ts) refl

-- Lists

pub ones_reads : (room : ℕ) (ts : List Token) → reads ones room ts ≡ (if is_sym SRBrace (tok_at ts)
    then Ok ([], behind ts)
    else (reads one room ts >>= λ v. listed (goes_on_at SComma SRBrace) (reads ones room) v.0.1 v.1))
unfolding step rule
ones_reads room ts = by_rule ones room ts ∙ same_if (is_sym SRBrace (tok_at ts)) refl (same_then (reads one room ts) _ _ (λ v. element_reads SComma SRBrace (reads ones room) v.0.1 v.1))

pub plains_reads : (room : ℕ) (ts : List Token) → reads plains room ts ≡ (if is_sym SRBrack (tok_at ts)
    then Ok ([], behind ts)
    else (reads plain room ts >>= λ v. listed (goes_on_at SComma SRBrack) (reads plains room) v.0.1 v.1))
unfolding step rule
plains_reads room ts = by_rule plains room ts ∙ same_if (is_sym SRBrack (tok_at ts)) refl (same_then (reads plain room ts) _ _ (λ v. element_reads SComma SRBrack (reads plains room) v.0.1 v.1))

pub rows_reads : (room : ℕ) (ts : List Token) → reads rows room ts ≡ (if is_sym SRRows (tok_at ts)
    then Ok ([], behind ts)
    else (reads row room ts >>= λ l. listed (goes_on_at SBar SRRows) (reads rows room) l.0 l.1))
unfolding step rule
rows_reads room ts = by_rule rows room ts ∙ same_if (is_sym SRRows (tok_at ts)) refl (same_then (reads row room ts) _ _ (λ l. element_reads SBar SRRows (reads rows room) l.0 l.1))

pub row_reads : (room : ℕ) (ts : List Token) → reads row room ts ≡ (reads plain room ts >>= λ v. listed row_goes_on_at (reads row room) v.0.1 v.1)
unfolding step rule row_goes_on_at more
row_reads room ts = by_rule row room ts ∙ same_then (reads plain room ts) _ _ (λ v.
    same_if (is_sym SComma (tok_at v.1)) (if_then (ends_row (tok_at (behind v.1))) (Ok (false, behind v.1)) (Ok (true, behind v.1)) (more (reads row room) v.0.1)) refl
    ∙ if_then (is_sym SComma (tok_at v.1)) _ (Ok (false, v.1)) (more (reads row room) v.0.1))

-- Arrays with index sets

-- by how many sets are left
pub index_sets_none : (d room : ℕ) (ts : List Token) → d ≡ 0 → reads (index_sets d) room ts ≡ (if is_sym SComma (tok_at ts) then Ok ([], behind ts) else Ok ([], ts))
unfolding step rule
index_sets_none d room ts e = ap (λ k. reads (index_sets k) room ts) e ∙ by_rule (index_sets 0) room ts

pub index_sets_more : (d room : ℕ) (ts : List Token) → 0 < d → reads (index_sets d) room ts ≡ (reads set room ts >>= λ v. if is_sym SComma (tok_at v.1)
    then with_prefix (v.0 ∷ []) (reads (index_sets (d - 1)) room (behind v.1))
    else stuck syntax v.1)
unfolding step rule
index_sets_more d room ts l = let e : d ≡ suc (d - 1) = omega arith in ap (λ k. reads (index_sets k) room ts) e ∙ by_rule (index_sets (suc (d - 1))) room ts

pub sized_reads : (d room : ℕ) (ts : List Token) → reads (sized d) room ts ≡ (reads (index_sets d) room ts >>= λ ss. brackets_at room ss.1 >>= λ vs. if is_sym SRParen (tok_at vs.1)
    then Ok (pure.array_nd (pure.values ss.0) (pure.values vs.0), behind vs.1)
    else stuck syntax vs.1)
unfolding step rule
sized_reads d room ts = by_rule (sized d) room ts ∙ same_then (reads (index_sets d) room ts) _ _ (λ ss. brackets_reads _ room ss.1)

pub named_reads : (o : Option ℕ) (n : Name) (room : ℕ) (ts : List Token) → reads (named o n) room ts ≡ (if is_sym SLParen (tok_at ts)
    then on o (stuck syntax ts) (λ m. open_at room ts (λ r. mapped (λ v. v) (reads (sized m) r (behind ts))))
    else mapped (λ v. v) (reads (range (pure.ident n)) room ts))
unfolding step rule
named_reads None n room ts = by_rule (named None n) room ts
named_reads (Some m) n room ts = by_rule (named (Some m) n) room ts

-- Items

pub datum_reads : (d : Dimensions) (room : ℕ) (ts : List Token) → reads (datum d) room ts ≡ (if is_sym SLBrack (tok_at ts)
    then array_at room ts
    else (if is_sym SLRows (tok_at ts)
    then table_at room ts
    else on (ident_of (tok_at ts)) (mapped (λ v. v) (reads plain room ts)) (λ n. mapped (λ v. (place ts, v)) (reads (named (d n) n) room (behind ts)))))
unfolding step rule
datum_reads d room ts = by_rule (datum d) room ts

pub item_reads : (d : Dimensions) (room : ℕ) (ts : List Token) → reads (item d) room ts ≡ on (ident_of (tok_at ts)) (stuck syntax ts) (λ n. if is_sym SEq (tok_at (behind ts))
    then mapped (λ v. record { name = n; span = place ts; at = v.0; value = v.1 }) (reads (datum d) room (behind (behind ts)))
    else stuck syntax (behind ts))
unfolding step rule
item_reads d room ts = by_rule (item d) room ts

pub file_reads : (d : Dimensions) (room : ℕ) (ts : List Token) → reads (file d) room ts ≡ (if is_end (tok_at ts)
    then Ok ([], ts)
    else (reads (item d) room ts >>= λ i. listed file_goes_on_at (reads (file d) room) i.0 i.1))
unfolding step rule file_goes_on_at more
file_reads d room ts = by_rule (file d) room ts ∙ same_if (is_end (tok_at ts)) refl (same_then (reads (item d) room ts) _ _ (λ i.
    same_if (is_end (tok_at i.1)) refl (if_then (is_sym SSemi (tok_at i.1)) (Ok (true, behind i.1)) (stuck syntax i.1) (more (reads (file d) room) i.0))
    ∙ if_then (is_end (tok_at i.1)) (Ok (false, i.1)) _ (more (reads (file d) room) i.0)))
