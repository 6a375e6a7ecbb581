-- The rules of declarations and types keep to what makes each prefix of tokens viable.
use Rattle.std.proofs.Common.{arith, ℕ, zero, suc, [], ◌∷◌}
use Rattle.mz_base.specs.declared.keyword.Keyword.TheVariants.{KInt, KOf}
use Rattle.mz_lexer.specs.declared.token.Symbol.TheVariants.{SRParen, SLBrack, SRBrack, SColon}
use Rattle.mz_grammar.specs.Rules.{give, part}
use Rattle.mz_grammar.specs.Look.{symbol_number, keyword_number}
use Rattle.mz_grammar.specs.RulesReading.{step, read_by}
use Rattle.mz_grammar.proofs.Viable.{never, before_end, last, tokens, maybe}
use Rattle.mz_grammar.specs.declared.list.Closing.TheVariants.{Paren, Bracket}
use Rattle.mz_grammar.specs.Parts
use Rattle.mz_tree.specs.Tree.{Written, Based}
use Rattle.mz_grammar.specs.Model.{rule, index_types_rule}
use Rattle.mz_grammar.specs.Reading.{rank, operand_rank}
use Rattle.mz_grammar.proofs.PartEnds.{Facts, sign, keyword, no_way, Done, a_number, an_identifier, after_element, ends_item_end, ends_item_closing, ends_item_colon}

-- Declarations

pub declaration_facts : Facts Parts.declaration
unfolding step read_by rule rank symbol_number keyword_number
declaration_facts = record {
  falls = (omega arith, λ t. (omega arith, λ d. tt));
  takes = tt;
  complete = (keyword KInt ∷ sign SColon ∷ an_identifier ∷ [], tt);
  can_complete = λ t a. (tokens (sign SColon ∷ an_identifier ∷ []) tt ends_item_colon tt, λ d b. (last (λ o h. h), tt));
}

pub declared_facts : (t : Written) → Facts (Parts.declared t)
unfolding step read_by rule rank symbol_number keyword_number
declared_facts t = record {
  falls = tt;
  takes = tt;
  complete = (sign SColon ∷ an_identifier ∷ [], tt);
  can_complete = (λ k e' c. ((an_identifier ∷ [], tt), (λ k n e' s. (([], tt), λ m a. (maybe [] tt ends_item_end (λ o h. h), λ v b. (last (λ o h. h), tt))), never tt, tt)), never tt, tt);
}

pub value_facts : Facts Parts.value
unfolding step read_by rule rank symbol_number keyword_number
value_facts = record {
  falls = tt;
  takes = tt;
  complete = ([], tt);
  can_complete = (λ t e s. ((a_number ∷ [], tt), λ x a. (last (λ o h. h), tt)), before_end (λ o h. h.3), tt);
}

-- Types

pub type_facts : Facts Parts.type
unfolding step read_by rule rank symbol_number keyword_number
type_facts = record {
  falls = (omega arith, λ t. tt);
  takes = tt;
  complete = (keyword KInt ∷ [], tt);
  can_complete = (
    λ t e s. (
      (sign SLBrack ∷ keyword KInt ∷ sign SRBrack ∷ keyword KOf ∷ keyword KInt ∷ [], tt),
      (
        λ k e' b. (
          (keyword KInt ∷ sign SRBrack ∷ keyword KOf ∷ keyword KInt ∷ [], tt),
          (
            never tt,
            tt,
            never tt,
            λ bs a. (tokens (keyword KOf ∷ keyword KInt ∷ []) tt tt tt, (λ k e' f. ((keyword KInt ∷ [], tt), λ t c. (last (λ o h. h), tt)), never tt, tt)),
          ),
        ),
        never tt,
        tt,
      ),
    ),
    never tt,
    (
      λ t e s. ((keyword KOf ∷ keyword KInt ∷ [], tt), (λ k e' f. ((keyword KInt ∷ [], tt), λ t a. (last (λ o h. h), tt)), never tt, tt)),
      never tt,
      λ t a. (last (λ o h. h), tt),
    ),
  );
}

done_index_types : (n : ℕ) → Done (index_types_rule n) (sign SRBrack ∷ [])
unfolding step symbol_number
done_index_types zero = tt
done_index_types (suc n) = tt

more_index_types : (k n : ℕ) (b : Based) → Done {n = Parts.index_types k} (part (Parts.index_types n) λ bs. give (b ∷ bs)) (sign SRBrack ∷ [])
unfolding step read_by rule symbol_number keyword_number
more_index_types k zero b = tt
more_index_types k (suc n) b = tt

pub index_types_facts : (n : ℕ) → Facts (Parts.index_types n)
unfolding step rule rank symbol_number
index_types_facts zero = record {
  falls = (tt, tt);
  takes = (tt, tt);
  complete = (sign SRBrack ∷ [], done_index_types 0);
  can_complete = (λ k e' s. (([], tt), tt), never (tt, tt), no_way);
}
index_types_facts (suc n) = record {
  falls = (omega arith, λ b. (tt, tt));
  takes = tt;
  complete = (sign SRBrack ∷ [], done_index_types (suc n));
  can_complete = (
    λ t e s. (([], tt), tt),
    never tt,
    λ b a. (after_element _ _ _ Bracket _ _ (ends_item_closing Bracket), (λ k e' s. ((sign SRBrack ∷ [], more_index_types (suc n) n b.1), (λ bs c. (last (λ o h. h), tt))), never (tt, tt), (λ k e' s. (([], tt), tt), never (tt, tt), no_way))),
  );
}

pub element_facts : Facts Parts.element
unfolding step read_by rule rank symbol_number keyword_number
element_facts = record {
  falls = (omega arith, λ t. tt);
  takes = tt;
  complete = (keyword KInt ∷ [], tt);
  can_complete = (
    λ t e s. ((keyword KInt ∷ [], tt), λ t a. (last (λ o h. h), tt)),
    never tt,
    (λ t e s. ((keyword KInt ∷ [], tt), λ t a. (last (λ o h. h), tt)), never tt, λ t a. (last (λ o h. h), tt)),
  );
}

pub unmarked_facts : Facts Parts.unmarked
unfolding step read_by rule rank symbol_number keyword_number
unmarked_facts = record {
  falls = (omega arith, λ b. tt);
  takes = tt;
  complete = (keyword KInt ∷ [], tt);
  can_complete = (
    λ t e s. ((keyword KInt ∷ [], tt), (never tt, tt, never tt, λ b a. (last (λ o h. h), tt))),
    never tt,
    (
      λ t e s. ((keyword KOf ∷ keyword KInt ∷ [], tt), (λ k e' f. ((keyword KInt ∷ [], tt), λ b a. (last (λ o h. h), tt)), never tt, tt)),
      never tt,
      λ b a. (last (λ o h. h), tt),
    ),
  );
}

pub base_facts : Facts Parts.base
unfolding step read_by rule rank operand_rank symbol_number keyword_number
base_facts = record {
  falls = (omega arith, λ x. tt);
  takes = tt;
  complete = (keyword KInt ∷ [], tt);
  can_complete = (λ t e s. (([], tt), tt), never tt, (λ t e s. (([], tt), tt), never tt, λ x a. (last (λ o h. h), tt)));
}

-- Parameters

pub params_facts : Facts Parts.params
unfolding step read_by rule rank symbol_number keyword_number
params_facts = record {
  falls = tt;
  takes = tt;
  complete = ([], tt);
  can_complete = (λ t e s. ((sign SRParen ∷ [], tt), λ ds a. (maybe [] tt tt (λ o h. tt), tt)), before_end (λ o h. h.0), tt);
}

pub param_list_facts : Facts Parts.param_list
unfolding step read_by rule rank symbol_number keyword_number
param_list_facts = record {
  falls = (omega arith, λ d. (tt, tt));
  takes = tt;
  complete = (sign SRParen ∷ [], tt);
  can_complete = (
    λ t e s. (([], tt), tt),
    never tt,
    λ d a. (after_element _ _ _ Paren _ _ (ends_item_closing Paren), (λ k e' s. ((sign SRParen ∷ [], tt), (λ ds b. (last (λ o h. h), tt))), never (tt, tt), (λ k e' s. (([], tt), tt), never (tt, tt), no_way))),
  );
}

pub param_facts : Facts Parts.param
unfolding step read_by rule rank symbol_number keyword_number
param_facts = record {
  falls = (omega arith, λ t. tt);
  takes = tt;
  complete = (keyword KInt ∷ sign SColon ∷ an_identifier ∷ [], tt);
  can_complete = λ t a. (
    tokens (sign SColon ∷ an_identifier ∷ []) tt ends_item_colon tt,
    (λ k e' c. ((an_identifier ∷ [], tt), (λ k n e' s. (([], tt), λ m b. (last (λ o h. h), tt)), never tt, tt)), never tt, tt),
  );
}
