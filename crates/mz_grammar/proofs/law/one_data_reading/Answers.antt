-- The lines that are only cited are checked with it.
use Rattle.std.proofs.Common.{[]}
use Rattle.mz_grammar.proofs.Laws
use Rattle.mz_grammar.specs.Data.{file, rule, rank, width}
use Rattle.mz_grammar.proofs.DataFacts.{low, falls}
use Rattle.mz_grammar.proofs.DataViable
use Rattle.mz_grammar.proofs.DataExamples
use Rattle.mz_grammar.proofs.law.one_data_reading.Goals as goal

pub returns : goal.returns
returns c = λ dimensions tokens items others p q. Laws.one_value rule rank width low falls (file dimensions) p.0 q.0 tokens [] items others p.1 q.1
