-- The rules of lists, of `if` and of `let` keep to what makes each prefix of tokens viable.
use Rattle.std.proofs.Common.{arith, [], ◌∷◌, refl}
use Rattle.std.specs.Prelude.{Some}
use Rattle.mz_lexer.specs.declared.token.Tok.TheVariants.{Word, Sym}
use Rattle.mz_base.specs.declared.keyword.Keyword.TheVariants.{KConstraint, KEndif, KIn, KThen}
use Rattle.mz_lexer.specs.declared.token.Symbol.TheVariants.{SRBrack, SRBrace, SRRows}
use Rattle.mz_grammar.specs.Rules.{give, part}
use Rattle.mz_grammar.specs.Look.{symbol_number, keyword_number}
use Rattle.mz_grammar.specs.RulesReading.{step, read_by}
use Rattle.mz_grammar.proofs.Viable.{never, before_end, last, tokens, maybe}
use Rattle.mz_tree.specs.Tree.{Tree, Generator}
use Rattle.mz_grammar.specs.declared.list.Closing.{Closing}
use Rattle.mz_grammar.specs.declared.list.Closing.TheVariants.{Paren, Bracket, Elements, Brace}
use Rattle.mz_grammar.specs.Parts
use Rattle.mz_grammar.specs.Model.{rule, elements_rule, generators_rule}
use Rattle.mz_grammar.specs.Reading.{rank}
use Rattle.mz_grammar.proofs.PartEnds.{Facts, sign, keyword, no_way, EndsRow, EndsNames, Done, a_number, an_identifier, closing, after_element, ends_item_end, ends_item_closing, ends_item_endif, ends_item_then, ends_item_number}

-- Elements

pub done_elements : (c : Closing) → Done (elements_rule c) (closing c ∷ [])
unfolding step symbol_number
done_elements Paren = tt
done_elements Bracket = tt
done_elements Elements = tt
done_elements Brace = tt

more_elements : (c : Closing) (e : Tree) → Done {n = Parts.elements c} (part (Parts.elements c) λ es. give (e ∷ es)) (closing c ∷ [])
unfolding step read_by rule symbol_number keyword_number
more_elements Paren e = tt
more_elements Bracket e = tt
more_elements Elements e = tt
more_elements Brace e = tt

pub elements_facts : (c : Closing) → Facts (Parts.elements c)
unfolding step read_by rule rank symbol_number keyword_number
elements_facts c = record {
  falls = (omega arith, λ e. (tt, tt));
  takes = tt;
  complete = (closing c ∷ [], done_elements c);
  can_complete = (
    λ t e s. (([], tt), tt),
    never tt,
    λ e a. (after_element _ _ _ c _ _ (ends_item_closing c), (λ k e' s. ((closing c ∷ [], more_elements c e), (λ es b. (last (λ o h. h), tt))), never (tt, tt), (λ k e' s. (([], tt), tt), never (tt, tt), no_way))),
  );
}

-- Generators

pub done_generators : (c : Closing) → Done (generators_rule c) (closing c ∷ [])
unfolding step symbol_number
done_generators Paren = tt
done_generators Bracket = tt
done_generators Elements = tt
done_generators Brace = tt

more_generators : (c : Closing) (g : Generator) → Done {n = Parts.generators c} (part (Parts.generators c) λ gs. give (g ∷ gs)) (closing c ∷ [])
unfolding step read_by rule symbol_number keyword_number
more_generators Paren g = tt
more_generators Bracket g = tt
more_generators Elements g = tt
more_generators Brace g = tt

pub generators_facts : (c : Closing) → Facts (Parts.generators c)
unfolding step read_by rule rank symbol_number keyword_number
generators_facts c = record {
  falls = (omega arith, λ g. (tt, tt));
  takes = tt;
  complete = (closing c ∷ [], done_generators c);
  can_complete = (
    λ t e s. (([], tt), tt),
    never tt,
    λ g a. (after_element _ _ _ c _ _ (ends_item_closing c), (λ k e' s. ((closing c ∷ [], more_generators c g), (λ gs b. (last (λ o h. h), tt))), never (tt, tt), (λ k e' s. (([], tt), tt), never (tt, tt), no_way))),
  );
}

ends_names_in : EndsNames (Some (Word KIn))
ends_names_in = (refl, refl)

pub generator_facts : Facts Parts.generator
unfolding step read_by rule rank symbol_number keyword_number
generator_facts = record {
  falls = tt;
  takes = tt;
  complete = (an_identifier ∷ keyword KIn ∷ a_number ∷ [], tt);
  can_complete = (
    λ k x e' s. (
      (keyword KIn ∷ a_number ∷ [], tt),
      λ ns a. (
        tokens (keyword KIn ∷ a_number ∷ []) tt ends_names_in tt,
        (λ k e' i. ((a_number ∷ [], tt), λ r b. (maybe [] tt ends_item_end (λ o h. h), λ w c. (last (λ o h. h), tt))), never tt, tt),
      ),
    ),
    never tt,
    tt,
  );
}

pub more_names_facts : Facts Parts.more_names
unfolding step read_by rule rank symbol_number keyword_number
more_names_facts = record {
  falls = tt;
  takes = tt;
  complete = ([], tt);
  can_complete = (
    λ t e s. (([], tt), (λ u n f s. (([], tt), λ ns a. (last (λ o h. h), tt)), before_end (λ o h. h.1), tt)),
    before_end (λ o h. h.0),
    tt,
  );
}

pub filter_facts : Facts Parts.filter
unfolding step read_by rule rank symbol_number keyword_number
filter_facts = record {
  falls = tt;
  takes = tt;
  complete = ([], tt);
  can_complete = (λ t e s. ((a_number ∷ [], tt), λ x a. (last (λ o h. h), tt)), before_end (λ o h. h.2), tt);
}

-- Array and set literals

pub array_body_facts : Facts Parts.array_body
unfolding step read_by rule rank symbol_number keyword_number
array_body_facts = record {
  falls = (omega arith, λ e. (tt, tt));
  takes = tt;
  complete = (sign SRBrack ∷ [], tt);
  can_complete = (
    λ t e s. (([], tt), tt),
    never tt,
    λ e a. (
      tokens (sign SRBrack ∷ []) tt (ends_item_closing Bracket) (tt, tt),
      (
        λ t f s. (
          (an_identifier ∷ keyword KIn ∷ a_number ∷ sign SRBrack ∷ [], tt),
          λ g b. (after_element _ _ _ Bracket _ _ (ends_item_closing Bracket), (λ k e' s. ((sign SRBrack ∷ [], tt), (λ gs c. (last (λ o h. h), tt))), never (tt, tt), (λ k e' s. (([], tt), tt), never (tt, tt), no_way))),
        ),
        never (tt, tt),
        (λ k e' s. ((sign SRBrack ∷ [], tt), (λ es b. (last (λ o h. h), tt))), never (tt, tt), (λ k e' s. (([], tt), tt), never (tt, tt), no_way)),
      ),
    ),
  );
}

pub set_body_facts : Facts Parts.set_body
unfolding step read_by rule rank symbol_number keyword_number
set_body_facts = record {
  falls = (omega arith, λ e. (tt, tt));
  takes = tt;
  complete = (sign SRBrace ∷ [], tt);
  can_complete = (
    λ t e s. (([], tt), tt),
    never tt,
    λ e a. (
      tokens (sign SRBrace ∷ []) tt (ends_item_closing Brace) (tt, tt),
      (
        λ t f s. (
          (an_identifier ∷ keyword KIn ∷ a_number ∷ sign SRBrace ∷ [], tt),
          λ g b. (after_element _ _ _ Brace _ _ (ends_item_closing Brace), (λ k e' s. ((sign SRBrace ∷ [], tt), (λ gs c. (last (λ o h. h), tt))), never (tt, tt), (λ k e' s. (([], tt), tt), never (tt, tt), no_way))),
        ),
        never (tt, tt),
        (λ k e' s. ((sign SRBrace ∷ [], tt), (λ es b. (last (λ o h. h), tt))), never (tt, tt), (λ k e' s. (([], tt), tt), never (tt, tt), no_way)),
      ),
    ),
  );
}

-- Rows

row_end : EndsRow (Some (Sym SRRows))
unfolding symbol_number
row_end = (((refl, refl, refl), refl, refl, refl, refl), refl, refl)

pub rows_body_facts : Facts Parts.rows_body
unfolding step read_by rule rank symbol_number keyword_number
rows_body_facts = record {
  falls = (tt, (omega arith, λ r. (omega arith, λ rs. tt)));
  takes = (tt, tt);
  complete = (sign SRRows ∷ [], tt);
  can_complete = (
    λ t e s. (([], tt), tt),
    never (tt, tt),
    (never tt, tt, never tt, λ r a. (tokens (sign SRRows ∷ []) tt row_end tt, λ rs b. (last (λ o h. h), tt))),
  );
}

pub more_rows_facts : Facts Parts.more_rows
unfolding step read_by rule rank symbol_number keyword_number
more_rows_facts = record {
  falls = tt;
  takes = tt;
  complete = (sign SRRows ∷ [], tt);
  can_complete = (
    λ t e s. (([], tt), tt),
    never tt,
    (
      λ k e' s. (
        (sign SRRows ∷ [], tt),
        (λ t e c. (([], tt), tt), never tt, λ r a. (tokens (sign SRRows ∷ []) tt row_end tt, λ rs b. (last (λ o h. h), tt))),
      ),
      never tt,
      tt,
    ),
  );
}

pub row_facts : Facts Parts.row
unfolding step read_by rule rank symbol_number keyword_number
row_facts = record {
  falls = (omega arith, λ e. (omega arith, λ es. tt));
  takes = tt;
  complete = (a_number ∷ [], tt);
  can_complete = λ e a. (maybe [] tt ends_item_end (λ o h. h.0), λ es b. (last (λ o h. h), tt));
}

pub cells_facts : Facts Parts.cells
unfolding step read_by rule rank symbol_number keyword_number
cells_facts = record {
  falls = tt;
  takes = tt;
  complete = ([], tt);
  can_complete = (
    λ t e s. (
      (a_number ∷ [], tt),
      (before_end (λ o h. h.1), tt, never tt, λ x a. (maybe [] tt ends_item_end (λ o h. h.0), λ es b. (last (λ o h. h), tt))),
    ),
    before_end (λ o h. h.2),
    tt,
  );
}

-- `if`

pub branch_facts : Facts Parts.branch
unfolding step read_by rule rank symbol_number keyword_number
branch_facts = record {
  falls = (omega arith, λ c. tt);
  takes = tt;
  complete = (a_number ∷ keyword KThen ∷ a_number ∷ [], tt);
  can_complete = λ e a. (
    tokens (keyword KThen ∷ a_number ∷ []) tt ends_item_then tt,
    (λ k e' t. ((a_number ∷ [], tt), λ x b. (last (λ o h. h), tt)), never tt, tt),
  );
}

pub branches_facts : Facts Parts.branches
unfolding step read_by rule rank symbol_number keyword_number
branches_facts = record {
  falls = tt;
  takes = tt;
  complete = (keyword KEndif ∷ [], tt);
  can_complete = (
    λ t e s. ((a_number ∷ keyword KThen ∷ a_number ∷ keyword KEndif ∷ [], tt), λ b a. (tokens (keyword KEndif ∷ []) tt ends_item_endif tt, λ bs c. (last (λ o h. h), tt))),
    never tt,
    (
      λ t e s. ((a_number ∷ keyword KEndif ∷ [], tt), λ x a. (tokens (keyword KEndif ∷ []) tt ends_item_endif tt, (λ k e' t. (([], tt), tt), never tt, tt))),
      never tt,
      (λ k e' s. (([], tt), tt), never tt, tt),
    ),
  );
}

-- `let`

pub let_items_facts : Facts Parts.let_items
unfolding step read_by rule rank symbol_number keyword_number
let_items_facts = record {
  falls = (omega arith, λ l. tt);
  takes = tt;
  complete = (sign SRBrace ∷ [], tt);
  can_complete = (
    λ t e s. (([], tt), tt),
    never tt,
    λ l a. (
      tokens (sign SRBrace ∷ []) tt (ends_item_closing Brace) tt,
      (λ t e s. ((sign SRBrace ∷ [], tt), λ ls b. (last (λ o h. h), tt)), never tt, (λ k e' s. (([], tt), tt), never tt, tt)),
    ),
  );
}

pub let_item_facts : Facts Parts.let_item
unfolding step read_by rule rank symbol_number keyword_number
let_item_facts = record {
  falls = (omega arith, λ d. tt);
  takes = tt;
  complete = (keyword KConstraint ∷ a_number ∷ [], tt);
  can_complete = (
    λ t e s. ((a_number ∷ [], tt), λ m a. (tokens (a_number ∷ []) tt ends_item_number tt, λ x b. (last (λ o h. h), tt))),
    never tt,
    λ d a. (last (λ o h. h), tt),
  );
}
