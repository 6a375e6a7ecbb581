-- The rules of items keep to what makes each prefix of tokens viable.
use Rattle.std.proofs.Common.{arith, ◌≡◌, [], ◌∷◌, refl, sym, ap, subst, true, false, Bool, Option}
use Rattle.std.specs.Prelude.{None, ◌||◌}
use Rattle.mz_lexer.specs.declared.token.Tok.{Tok}
use Rattle.mz_lexer.specs.declared.token.Tok.TheVariants.{Text}
use Rattle.mz_base.specs.declared.keyword.Keyword.TheVariants.{KConstraint, KInt, KSatisfy}
use Rattle.mz_lexer.specs.declared.token.Symbol.TheVariants.{SLParen, SLBrace, SRBrace, SColon, SEq, SConcat}
use Rattle.mz_base.specs.declared.fault.Span.{Span}
use Rattle.mz_grammar.specs.Look.{is_sym, symbol_number, keyword_number}
use Rattle.mz_grammar.specs.RulesReading.{step, read_by, Falls}
use Rattle.mz_grammar.proofs.Viable.{never, before_end, last, tokens, maybe, brought}
use Rattle.mz_grammar.specs.Parts
use Rattle.mz_grammar.specs.Parts.{Operand}
use Rattle.mz_tree.specs.Tree.{Written}
use Rattle.mz_grammar.specs.Parts.{name}
use Rattle.mz_grammar.specs.Tests.{ItemKind, an_include, a_constraint, a_solve, an_output, a_predicate, a_test, a_function, an_annotation, an_enum, is_end}
use Rattle.mz_grammar.specs.Model.{rule, function_rule, by_expression, item_by}
use Rattle.mz_grammar.specs.Reading.{rank, operand_rank}
use Rattle.mz_grammar.proofs.PartEnds.{Facts, made, sign, keyword, no_way, EndsItem, TakesToken, CanComplete, Completion, Done, a_number, an_identifier, ends_item_end, ends_item_number, ends_item_colon, ends_item_satisfy, plain_equals}

-- Items with a keyword

can_complete_function : (t : Written) → CanComplete (function_rule t)
unfolding step read_by rule symbol_number keyword_number
can_complete_function t = (
  λ k n e' s. (
    (sign SEq ∷ a_number ∷ [], tt),
    λ ds a. (
      tokens (sign SEq ∷ a_number ∷ []) tt plain_equals (λ m. tt),
      λ m b. (
        brought (sign SEq ∷ a_number ∷ []) (λ m. tt) tt refl refl,
        (λ k e' q. ((a_number ∷ [], tt), λ e c. (last (λ o h. h), tt)), never tt, tt),
      ),
    ),
  ),
  never tt,
  tt,
)

can_complete_kind : (k : ItemKind) (s : Span) → Completion (item_by k s) × CanComplete (item_by k s)
unfolding step read_by rule symbol_number keyword_number
can_complete_kind an_include i = ((made (Text 0) ∷ [], tt), (λ t n e s. (([], tt), tt), never tt, tt))
can_complete_kind a_constraint c = ((a_number ∷ [], tt), λ m a. (tokens (a_number ∷ []) tt ends_item_number tt, λ e b. (last (λ o h. h), tt)))
can_complete_kind a_solve s = ((keyword KSatisfy ∷ [], tt), λ m a. (tokens (keyword KSatisfy ∷ []) tt ends_item_satisfy tt, λ g b. (last (λ o h. h), tt)))
can_complete_kind an_output c = ((a_number ∷ [], tt), λ m a. (tokens (a_number ∷ []) tt ends_item_number tt, λ e b. (last (λ o h. h), tt)))
can_complete_kind a_predicate s = ((an_identifier ∷ sign SEq ∷ a_number ∷ [], tt), can_complete_function _)
can_complete_kind a_test s = ((an_identifier ∷ sign SEq ∷ a_number ∷ [], tt), can_complete_function _)
can_complete_kind a_function f = (
  (keyword KInt ∷ sign SColon ∷ an_identifier ∷ sign SEq ∷ a_number ∷ [], tt),
  λ t a. (
    tokens (sign SColon ∷ an_identifier ∷ sign SEq ∷ a_number ∷ []) tt ends_item_colon tt,
    (λ k e' c. ((an_identifier ∷ sign SEq ∷ a_number ∷ [], tt), can_complete_function t), never tt, tt),
  ),
)
can_complete_kind an_annotation w = ((an_identifier ∷ [], tt), (λ k n e' s. (([], tt), λ ds a. (last (λ o h. h.0), tt)), never tt, tt))
can_complete_kind an_enum w = ((an_identifier ∷ [], tt), (λ k n e' s. (([], tt), λ m a. (maybe [] tt ends_item_end (λ o h. h), λ cs b. (last (λ o h. h), tt))), never tt, tt))

-- Declarations and assignments

takes_by_expression : (x : Operand) → TakesToken (by_expression x)
takes_by_expression (name n s) = tt
takes_by_expression _ = tt

done_by_expression : (x : Operand) → Done (by_expression x) (sign SColon ∷ an_identifier ∷ [])
unfolding step read_by rule symbol_number keyword_number
done_by_expression (name n s) = tt
done_by_expression _ = tt

can_complete_by_expression : (x : Operand) → CanComplete (by_expression x)
unfolding step read_by rule symbol_number keyword_number
can_complete_by_expression (name n s) = (λ t e q. ((a_number ∷ [], tt), λ x a. (last (λ o h. h), tt)), never tt, λ d a. (last (λ o h. h), tt))
can_complete_by_expression _ = λ d a. (last (λ o h. h), tt)

by_expression_falls : (x : Operand) → Falls rank 32 (by_expression x)
unfolding rank
by_expression_falls (name n s) = (omega arith, λ d. tt)
by_expression_falls _ = (omega arith, λ d. tt)

pub item_facts : Facts Parts.item
unfolding step read_by rule rank operand_rank symbol_number keyword_number
item_facts = record {
  falls = ((omega arith, λ d. tt), (omega arith, by_expression_falls));
  takes = (tt, tt);
  complete = (keyword KConstraint ∷ a_number ∷ [], tt);
  can_complete = (
    λ t k e. can_complete_kind k,
    never (tt, tt),
    (
      never tt,
      λ d a. (last (λ o h. h), tt),
      never tt,
      λ x a. (tokens (sign SColon ∷ an_identifier ∷ []) (done_by_expression x) ends_item_colon (takes_by_expression x), can_complete_by_expression x),
    ),
  );
}

-- Goals and the names of an enum

pub goal_facts : Facts Parts.goal
unfolding step read_by rule rank symbol_number keyword_number
goal_facts = record {
  falls = tt;
  takes = tt;
  complete = (keyword KSatisfy ∷ [], tt);
  can_complete = (
    λ t e s. (([], tt), tt),
    never tt,
    (λ t e s. ((a_number ∷ [], tt), λ x a. (last (λ o h. h), tt)), never tt, (λ k e' s. ((a_number ∷ [], tt), λ x a. (last (λ o h. h), tt)), never tt, tt)),
  );
}

-- neither of two
neither : (a b : Bool) → a ≡ false → b ≡ false → (a || b) ≡ false
neither true b h g = absurd (cc)
neither false b h g = g

pub cases_facts : Facts Parts.cases
unfolding step read_by rule rank symbol_number keyword_number
cases_facts = record {
  falls = tt;
  takes = tt;
  complete = ([], tt);
  can_complete = (
    λ t e q. (
      (sign SLBrace ∷ sign SRBrace ∷ [], tt),
      (
        λ t e s. (
          (sign SRBrace ∷ [], tt),
          λ ns a. (maybe [] tt tt (λ o h. tt), (never tt, tt, before_end (λ o h. neither (is_sym SConcat o) (is_sym SLParen o) h.4 h.0.0), tt)),
        ),
        never (tt, tt),
        (never tt, tt, never tt, tt),
      ),
    ),
    before_end (λ o h. h.3),
    tt,
  );
}

pub case_names_facts : Facts Parts.case_names
unfolding step read_by rule rank symbol_number keyword_number
case_names_facts = record {
  falls = tt;
  takes = tt;
  complete = (sign SRBrace ∷ [], tt);
  can_complete = (
    λ t e s. (([], tt), tt),
    never tt,
    (λ k n e' s. ((sign SRBrace ∷ [], tt), (λ k e' s. ((sign SRBrace ∷ [], tt), (λ ns a. (last (λ o h. h), tt))), never (tt, tt), (λ k e' s. (([], tt), tt), never (tt, tt), no_way))), never tt, tt),
  );
}

-- Files

ends_item_none : (o : Option Tok) → o ≡ None → EndsItem o
ends_item_none o e = subst EndsItem (sym e) ends_item_end

pub file_facts : Facts Parts.file
unfolding step read_by rule rank symbol_number keyword_number
file_facts = record {
  falls = (tt, (omega arith, λ i. (omega arith, λ is. tt)));
  takes = tt;
  complete = ([], tt);
  can_complete = (before_end (λ o e. ap is_end e), tt, never tt, λ i a. (maybe [] tt ends_item_end ends_item_none, λ is b. (last (λ o h. h), tt)));
}

pub more_items_facts : Facts Parts.more_items
unfolding step read_by rule rank symbol_number keyword_number
more_items_facts = record {
  falls = (tt, tt);
  takes = tt;
  complete = ([], tt);
  can_complete = (before_end (λ o e. ap is_end e), tt, never tt, (λ k e' s. (([], tt), λ is a. (last (λ o h. h), tt)), never tt, tt));
}
