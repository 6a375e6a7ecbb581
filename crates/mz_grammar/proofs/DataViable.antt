-- Some data file begins with the tokens before a fault, and so what a reader of data files answers is what it promises.
use Rattle.std.proofs.Common.{◌≡◌, ℕ, List, sym, true, Option, true≢false}
use Rattle.std.specs.Prelude.{None, Result}
use Rattle.mz_base.specs.declared.fault.Span.{Span}
use Rattle.mz_base.specs.declared.stop.Stop.{Stop}
use Rattle.mz_lexer.specs.declared.token.Token.{Token}
use Rattle.mz_lexer.specs.declared.token.Tok.{Tok}
use Rattle.mz_grammar.specs.Rules.{Runs}
use Rattle.mz_grammar.specs.RulesPromise.{Gives, Answers}
use Rattle.mz_grammar.proofs.Answering
use Rattle.mz_grammar.proofs.Viable as ways
use Rattle.mz_grammar.specs.Data.{Place, Value, rule, rank, width, reads}
use Rattle.mz_grammar.proofs.DataFacts.{low, falls, takes, complete, can_complete}
use Rattle.mz_grammar.proofs.DataPartEnds.{MayEndBefore, takes_token, IsUsable, far, aim}

bring : (n : Place) → far n ≡ true → (q : ℕ) (us : List Token) (x : Value n) (next : Option Tok) → Runs rule n q (rule n) us x next → ways.Brought rule MayEndBefore takes_token IsUsable far aim takes complete can_complete n us
bring n e q us x next h = absurd (true≢false (sym e))

-- what gives the reading keeps the promise, for a part that may stand at the end
pub answers : {X : Type 0} (n : Place) (view : X → Value n) (room : ℕ) (end : Span) (old new : List Token) (result : Result X Stop) → MayEndBefore n None → Gives view end new result (reads n room old) → Answers rule n view room end old new result
unfolding reads
answers n view room end old new result may_end g = Answering.answers rule rank width low falls MayEndBefore takes_token IsUsable far aim takes complete can_complete bring n view room end old new result may_end g
