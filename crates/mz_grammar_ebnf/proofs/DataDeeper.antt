-- What is derived of a data file with at most k tokens open at once is so with at most suc k.
use Rattle.std.proofs.Common.{ℕ, suc, List}
use Rattle.mz_lexer.specs.declared.token.Token.{Token}
use Rattle.mz_grammar_ebnf.specs.DataSyntax as ebnf
use Rattle.mz_grammar_ebnf.specs.DataSyntax.{Phrase, Meaning, Derives}

pub deeper : {k : ℕ} {p : Phrase} {ts us : List Token} {x : Meaning p} → Derives k p ts x us → Derives (suc k) p ts x us
deeper (ebnf.a_true h0) = ebnf.a_true h0
deeper (ebnf.a_false h0) = ebnf.a_false h0
deeper (ebnf.a_number z h0) = ebnf.a_number z h0
deeper (ebnf.a_negative n h0 h1) = ebnf.a_negative n h0 h1
deeper (ebnf.a_name n h0) = ebnf.a_name n h0
deeper (ebnf.braces h0 h1 h2) = ebnf.braces h0 (deeper h1) h2
deeper (ebnf.range h0 h1 h2) = ebnf.range (deeper h0) h1 (deeper h2)
deeper (ebnf.set_name n h0) = ebnf.set_name n h0
deeper (ebnf.by_one h0) = ebnf.by_one (deeper h0)
deeper (ebnf.by_set h0) = ebnf.by_set (deeper h0)
deeper (ebnf.absent h0) = ebnf.absent h0
deeper (ebnf.by_plain h0) = ebnf.by_plain (deeper h0)
deeper (ebnf.array h0 h1 h2) = ebnf.array h0 (deeper h1) h2
deeper (ebnf.rows h0 h1 h2) = ebnf.rows h0 (deeper h1) h2
deeper (ebnf.array_nd n h0 h1 h2 h3 h4 h5 h6 h7 h8) = ebnf.array_nd n h0 h1 h2 (deeper h3) h4 h5 (deeper h6) h7 h8
deeper (ebnf.assigns n h0 h1 h2) = ebnf.assigns n h0 h1 (deeper h2)
deeper (ebnf.last h0) = ebnf.last (deeper h0)
deeper (ebnf.trailing h0 h1) = ebnf.trailing (deeper h0) h1
deeper (ebnf.more h0 h1 h2) = ebnf.more (deeper h0) h1 (deeper h2)
deeper ebnf.none = ebnf.none
deeper (ebnf.some h0) = ebnf.some (deeper h0)
