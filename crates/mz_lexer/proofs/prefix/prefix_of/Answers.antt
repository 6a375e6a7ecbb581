use Rattle.mz_lexer.proofs.prefix.prefix_of.Goals as goal

pub returns-then-is_digit-clause-named : goal.returns-then-is_digit-clause-named
returns-then-is_digit-clause-named c = c.number_prefix.ensures.named c.args.names.now

pub returns-then-second_byte-eq42-clause-named : goal.returns-then-second_byte-eq42-clause-named
returns-then-second_byte-eq42-clause-named c = c.comment_prefix.ensures.named c.args.names.now

pub returns-clause-named : goal.returns-clause-named
returns-clause-named c = c.symbol_prefix.ensures.named c.args.names.now
