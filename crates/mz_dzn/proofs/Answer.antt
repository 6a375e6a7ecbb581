-- What an answer tells of a data file.
use Rattle.std.proofs.Common.{◌≡◌, ℕ, ◌≤◌, List, [], map, ap, ◌∙◌, subst}
use Rattle.std.specs.Prelude.{Ok, Err, Result, IfErr}
use Rattle.mz_base.specs.declared.limit.TheConstants.{OPEN_LIMIT}
use Rattle.mz_base.specs.declared.fault.Span.{Span}
use Rattle.mz_base.specs.declared.kind.Kind.TheVariants as kind
use Rattle.mz_base.specs.declared.stop.Stop.{Stop}
use Rattle.mz_base.specs.declared.stop.Stop.TheVariants.{Refused, Memory}
use Rattle.mz_lexer.specs.declared.token.Token.{Token}
use Rattle.mz_base.specs.Faults.{IfRefused}
use Rattle.mz_tree.specs.declared.data.Data.{Data}
use Rattle.mz_tree.specs.Data.{given}
use Rattle.mz_grammar.specs.Tokens.{tok_at}
use Rattle.mz_grammar.specs.RulesReading.{Read}
use Rattle.mz_grammar.specs.RulesPromise.{kind_of, reason_of, Stops, Answers}
use Rattle.mz_grammar.proofs.Laws
use Rattle.mz_grammar.specs.Data.{Place, Value, rule, rank, width, reads, dimensions_of, file}
use Rattle.mz_grammar.proofs.DataFacts.{low, falls}
use Rattle.mz_grammar.proofs.DataFaults.{is_syntax}
use Rattle.mz_grammar_ebnf.proofs.DataTaken.{none_refused}
use Rattle.mz_dzn.specs.DataFile.{IsNoDataFile}

abbrev pub Outcome : (n : Place) → ℕ → List Token → Read (Value n) → Type 0
Outcome n room ts o = Laws.Outcome rule rank width low falls n room (rule n) ts o

pub outcome : (n : Place) (room : ℕ) (ts : List Token) (o : Read (Value n)) → reads n room ts ≡ o → Outcome n room ts o
unfolding reads
outcome n room ts o e = subst (Outcome n room ts) e (Laws.read_sound rule rank width low falls n room ts)

-- a refusal tells a fault of syntax
pub tells_syntax : (n : Place) (room : ℕ) (end : Span) (old new : List Token) (stop : Stop) → 3 ≤ room → Stops end new stop (reads n room old) → IfRefused stop (λ f. f.kind ≡ kind.Syntax)
tells_syntax n room end old new Memory l h = tt
tells_syntax n room end old new (Refused f) l h = let o = outcome n room old _ h.0 in ap (λ f. f.kind) h.1 ∙ ap kind_of (is_syntax n room o.0 (reason_of f.kind) (tok_at new) o.2 l)

-- and no file that the EBNF derives
pub no_data_file : (names : List (List ℕ)) (end : Span) (tokens : List Token) (result : Result Data Stop) → Answers rule (file (dimensions_of names)) (λ d. map given d.items.items) OPEN_LIMIT end tokens [] result → IfErr result (λ s. IfRefused s (λ f. IsNoDataFile names tokens))
no_data_file names end tokens (Ok d) h = tt
no_data_file names end tokens (Err Memory) h = tt
no_data_file names end tokens (Err (Refused f)) h = λ items g. none_refused names OPEN_LIMIT tokens items (reason_of f.kind) end f.span g h.1
