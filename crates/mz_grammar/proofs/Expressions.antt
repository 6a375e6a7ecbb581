-- The rules of expressions keep to what makes each prefix of tokens viable.
use Rattle.std.proofs.Common.{arith, [], ◌∷◌, true, false, Bool, Option}
use Rattle.std.specs.Prelude.{Some, None}
use Rattle.mz_lexer.specs.declared.token.Tok.TheVariants.{TextTail}
use Rattle.mz_base.specs.declared.keyword.Keyword.TheVariants.{KEndif, KIn, KThen}
use Rattle.mz_lexer.specs.declared.token.Symbol.TheVariants.{SRParen, SRBrack, SLBrace, SRBrace, SRRows}
use Rattle.mz_grammar.specs.Rules.{give, part}
use Rattle.mz_grammar.specs.Look.{symbol_number, keyword_number}
use Rattle.mz_grammar.specs.RulesReading.{step, read_by, Falls}
use Rattle.mz_grammar.proofs.Viable.{never, before_end, last, tokens, maybe}
use Rattle.mz_base.specs.declared.fault.Span.{Span}
use Rattle.mz_tree.specs.declared.expr.BinOp.{BinOp}
use Rattle.mz_grammar.specs.declared.level.Level.{Level}
use Rattle.mz_grammar.specs.declared.level.Level.TheVariants as level_is
use Rattle.mz_grammar.specs.declared.list.Closing.TheVariants.{Paren, Bracket}
use Rattle.mz_grammar.specs.Operators.{is_nonassociative, tighter_level}
use Rattle.mz_grammar.specs.Parts
use Rattle.mz_grammar.specs.Parts.{Operand, tree_of, link_of}
use Rattle.mz_grammar.specs.Tests.{Leaf, an_ident, Opener, a_piece, an_if, a_let, a_paren, a_bracket, a_table, a_brace}
use Rattle.mz_grammar.specs.Model.{Ruled, rule, operand_by, operand_rule, leaf_head, opened_head}
use Rattle.mz_grammar.specs.Reading.{rank, operand_rank}
use Rattle.mz_grammar.proofs.PartEnds.{Facts, made, sign, keyword, no_way, TakesToken, CanComplete, Completion, Done, a_number, after_element, ends_item_end, plain_end, ends_item_closing, ends_item_endif, ends_item_tail, no_operator}

-- Levels

takes_operand : (l : Level) → TakesToken (operand_rule l)
takes_operand l = by (tighter_level l)
  where
    by : (k : Option Level) → TakesToken (operand_by {l = l} k)
    by None = tt
    by (Some k) = tt

operand_falls : (l : Level) → Falls rank (operand_rank l) (operand_rule l)
unfolding rank operand_rank
operand_falls level_is.Concat = (omega arith, λ x. tt)
operand_falls _ = (omega arith, λ x. tt)

-- `0` is an operand of each level
done_operand : (l : Level) → Done (operand_rule l) (a_number ∷ [])
unfolding step read_by rule symbol_number keyword_number
done_operand level_is.Iff = tt
done_operand level_is.Imp = tt
done_operand level_is.Or = tt
done_operand level_is.And = tt
done_operand level_is.Compare = tt
done_operand level_is.Member = tt
done_operand level_is.Union = tt
done_operand level_is.Range = tt
done_operand level_is.Sum = tt
done_operand level_is.Product = tt
done_operand level_is.Power = tt
done_operand level_is.Concat = tt

pub operand_facts : (l : Level) → Facts (Parts.operand l)
unfolding rule rank
operand_facts l = record { falls = operand_falls l; takes = takes_operand l; complete = (a_number ∷ [], done_operand l); can_complete = by (tighter_level l) }
  where
    by : (k : Option Level) → CanComplete (operand_by {l = l} k)
    by None = λ x a. (last (λ o h. h), tt)
    by (Some k) = λ x a. (last (λ o h. h), tt)

done_level : (l : Level) → Done (rule (Parts.level l)) (a_number ∷ [])
unfolding step read_by rule symbol_number keyword_number
done_level level_is.Iff = tt
done_level level_is.Imp = tt
done_level level_is.Or = tt
done_level level_is.And = tt
done_level level_is.Compare = tt
done_level level_is.Member = tt
done_level level_is.Union = tt
done_level level_is.Range = tt
done_level level_is.Sum = tt
done_level level_is.Product = tt
done_level level_is.Power = tt
done_level level_is.Concat = tt

pub level_facts : (l : Level) → Facts (Parts.level l)
unfolding step read_by rule rank symbol_number keyword_number
level_facts l = record {
  falls = (omega arith, λ x. (omega arith, λ ls. tt));
  takes = tt;
  complete = (a_number ∷ [], done_level l);
  can_complete = λ x a. (maybe [] tt ends_item_end (λ o h. h), λ ls b. (last (λ o h. h), tt));
}

pub expr_facts : Facts Parts.expr
unfolding step read_by rule rank operand_rank symbol_number keyword_number
expr_facts = record {
  falls = (omega arith, λ x. tt);
  takes = tt;
  complete = (a_number ∷ [], tt);
  can_complete = λ x a. (last (λ o h. h), tt);
}

-- after an operand, which may be the last
pub more_operators_facts : (l : Level) (done : Bool) → Facts (Parts.more_operators l done)
unfolding step read_by rule rank symbol_number keyword_number
more_operators_facts l true = record { falls = tt; takes = tt; complete = ([], tt); can_complete = tt }
more_operators_facts l false = record { falls = (omega arith, λ ls. tt); takes = tt; complete = ([], tt); can_complete = λ ls a. (last (λ o h. h), tt) }

-- after an operator
abbrev behind_operator : (l : Level) → BinOp → Operand → Ruled (Parts.operators l)
behind_operator l op x = part (Parts.more_operators l (is_nonassociative l)) λ ls. give (link_of op x ∷ ls)

done_operator : (l : Level) (op : BinOp) → Done {n = Parts.operators l} (part (Parts.operand l) λ x. behind_operator l op x) (a_number ∷ [])
unfolding step read_by rule symbol_number keyword_number
done_operator level_is.Iff op = tt
done_operator level_is.Imp op = tt
done_operator level_is.Or op = tt
done_operator level_is.And op = tt
done_operator level_is.Compare op = tt
done_operator level_is.Member op = tt
done_operator level_is.Union op = tt
done_operator level_is.Range op = tt
done_operator level_is.Sum op = tt
done_operator level_is.Product op = tt
done_operator level_is.Power op = tt
done_operator level_is.Concat op = tt

done_behind_operator : (l : Level) (op : BinOp) (x : Operand) → Done (behind_operator l op x) []
unfolding step read_by rule symbol_number keyword_number
done_behind_operator level_is.Iff op x = tt
done_behind_operator level_is.Imp op x = tt
done_behind_operator level_is.Or op x = tt
done_behind_operator level_is.And op x = tt
done_behind_operator level_is.Compare op x = tt
done_behind_operator level_is.Member op x = tt
done_behind_operator level_is.Union op x = tt
done_behind_operator level_is.Range op x = tt
done_behind_operator level_is.Sum op x = tt
done_behind_operator level_is.Product op x = tt
done_behind_operator level_is.Power op x = tt
done_behind_operator level_is.Concat op x = tt

pub operators_facts : (l : Level) → Facts (Parts.operators l)
unfolding step read_by rule rank symbol_number keyword_number
operators_facts l = record {
  falls = tt;
  takes = tt;
  complete = ([], tt);
  can_complete = (
    λ t op e s. ((a_number ∷ [], done_operator l op), λ x a. (maybe [] (done_behind_operator l op x) ends_item_end (λ o h. h), λ ls b. (last (λ o h. h), tt))),
    before_end (λ o h. no_operator l o h.1),
    tt,
  );
}

-- Units and atoms

pub unit_facts : Facts Parts.unit
unfolding step read_by rule rank symbol_number keyword_number
unit_facts = record {
  falls = (omega arith, λ x. tt);
  takes = tt;
  complete = (a_number ∷ [], tt);
  can_complete = (λ t op e s. ((a_number ∷ [], tt), λ x a. (maybe [] tt ends_item_end (λ o h. h), tt)), never tt, λ x a. (last (λ o h. h), tt));
}

pub atom_facts : Facts Parts.atom
unfolding step read_by rule rank symbol_number keyword_number
atom_facts = record {
  falls = (omega arith, λ h. (omega arith, λ x. (omega arith, λ a. tt)));
  takes = tt;
  complete = (a_number ∷ [], tt);
  can_complete = λ h a. (maybe [] tt ends_item_end (λ o h. h), λ x b. (maybe [] tt plain_end (λ o h. h.0), λ m c. (last (λ o h. h), tt)));
}

pub accesses_facts : (x : Operand) → Facts (Parts.accesses x)
unfolding step read_by rule rank symbol_number keyword_number
accesses_facts x = record {
  falls = tt;
  takes = tt;
  complete = ([], tt);
  can_complete = (
    λ t e s. ((a_number ∷ sign SRBrack ∷ [], tt), λ es a. (maybe [] tt tt (λ o h. tt), λ y b. (maybe [] tt plain_end (λ o h. h), tt))),
    before_end (λ o h. h.1),
    tt,
  );
}

pub indices_facts : Facts Parts.indices
unfolding step read_by rule rank symbol_number keyword_number
indices_facts = record {
  falls = (tt, (omega arith, λ e. (tt, tt)));
  takes = (tt, tt);
  complete = (a_number ∷ sign SRBrack ∷ [], tt);
  can_complete = (
    never tt,
    tt,
    never tt,
    λ e a. (after_element _ _ _ Bracket _ _ (ends_item_closing Bracket), (λ k e' s. ((sign SRBrack ∷ [], tt), (λ es b. (last (λ o h. h), tt))), never (tt, tt), (λ k e' s. (([], tt), tt), never (tt, tt), no_way))),
  );
}

pub more_indices_facts : Facts Parts.more_indices
unfolding step read_by rule rank symbol_number keyword_number
more_indices_facts = record {
  falls = (omega arith, λ es. tt);
  takes = tt;
  complete = (sign SRBrack ∷ [], tt);
  can_complete = (λ t e s. (([], tt), tt), never tt, λ es a. (last (λ o h. h), tt));
}

pub annotations_facts : Facts Parts.annotations
unfolding step read_by rule rank symbol_number keyword_number
annotations_facts = record {
  falls = tt;
  takes = tt;
  complete = ([], tt);
  can_complete = (
    λ t e s. ((a_number ∷ [], tt), λ h a. (maybe [] tt ends_item_end (λ o h. h), λ x b. (maybe [] tt plain_end (λ o h. h.0), λ m c. (last (λ o h. h), tt)))),
    before_end (λ o h. h.0.2),
    tt,
  );
}

pub marks_facts : Facts Parts.marks
unfolding step read_by rule rank symbol_number keyword_number
marks_facts = record {
  falls = tt;
  takes = tt;
  complete = ([], tt);
  can_complete = (λ t e s. ((a_number ∷ [], tt), λ h a. (maybe [] tt ends_item_end (λ o h. h), λ m b. (last (λ o h. h), tt))), before_end (λ o h. h.0.2), tt);
}

-- Heads

can_complete_leaf : (l : Leaf) (s : Span) → Completion (leaf_head l s) × CanComplete (leaf_head l s)
unfolding step read_by rule symbol_number keyword_number
can_complete_leaf (an_ident n) s = (([], tt), λ x a. (last (λ o h. h.0), tt))
can_complete_leaf _ s = (([], tt), tt)

can_complete_opened : (b : Opener) (s : Span) → Completion (opened_head b s) × CanComplete (opened_head b s)
unfolding step read_by rule symbol_number keyword_number
can_complete_opened (a_piece n) s = ((a_number ∷ made (TextTail 0) ∷ [], tt), λ ps a. (maybe [] tt tt (λ o h. tt), tt))
can_complete_opened an_if s = ((a_number ∷ keyword KThen ∷ a_number ∷ keyword KEndif ∷ [], tt), λ b a. (tokens (keyword KEndif ∷ []) tt ends_item_endif tt, λ bs c. (maybe [] tt tt (λ o h. tt), tt)))
can_complete_opened a_let s = (
  (sign SLBrace ∷ sign SRBrace ∷ keyword KIn ∷ a_number ∷ [], tt),
  (
    λ k e' b. (
      (sign SRBrace ∷ keyword KIn ∷ a_number ∷ [], tt),
      λ ls a. (tokens (keyword KIn ∷ a_number ∷ []) tt tt tt, (λ k e' i. ((a_number ∷ [], tt), λ e c. (maybe [] tt ends_item_end (λ o h. h), tt)), never tt, tt)),
    ),
    never tt,
    tt,
  ),
)
can_complete_opened a_paren s = (
  (a_number ∷ sign SRParen ∷ [], tt),
  λ e a. (tokens (sign SRParen ∷ []) tt (ends_item_closing Paren) (tt, tt), (λ t e c. (([], tt), tt), never (tt, tt), (never tt, tt, never tt, tt))),
)
can_complete_opened a_bracket s = ((sign SRBrack ∷ [], tt), λ f a. (maybe [] tt tt (λ o h. tt), tt))
can_complete_opened a_table s = ((sign SRRows ∷ [], tt), λ f a. (maybe [] tt tt (λ o h. tt), tt))
can_complete_opened a_brace s = ((sign SRBrace ∷ [], tt), λ f a. (maybe [] tt tt (λ o h. tt), tt))

pub head_facts : Facts Parts.head
unfolding step read_by rule rank symbol_number keyword_number
head_facts = record {
  falls = tt;
  takes = tt;
  complete = (a_number ∷ [], tt);
  can_complete = (λ t l e. can_complete_leaf l, never tt, (λ t b e. can_complete_opened b, never tt, tt));
}

-- Pieces of a text

pub text_rest_facts : Facts Parts.text_rest
unfolding step read_by rule rank symbol_number keyword_number
text_rest_facts = record {
  falls = (omega arith, λ e. tt);
  takes = tt;
  complete = (a_number ∷ made (TextTail 0) ∷ [], tt);
  can_complete = λ e a. (
    tokens (made (TextTail 0) ∷ []) tt ends_item_tail tt,
    (λ t n f s. ((a_number ∷ made (TextTail 0) ∷ [], tt), λ ps b. (last (λ o h. h), tt)), never tt, (λ t n f s. (([], tt), tt), never tt, tt)),
  );
}
