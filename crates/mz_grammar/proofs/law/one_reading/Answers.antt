-- The lines that are only cited are checked with it.
use Rattle.std.proofs.Common.{[]}
use Rattle.mz_grammar.proofs.Laws
use Rattle.mz_grammar.specs.Parts.{file}
use Rattle.mz_grammar.specs.Model.{rule}
use Rattle.mz_grammar.specs.Reading.{rank, width}
use Rattle.mz_grammar.proofs.Facts.{low, falls}
use Rattle.mz_grammar.proofs.Viability.{may_end_last}
use Rattle.mz_grammar.proofs.Equations.{expr_reads}
use Rattle.mz_grammar.proofs.ListEquations.{row_reads}
use Rattle.mz_grammar.proofs.ItemEquations.{item_reads}
use Rattle.mz_grammar.proofs.ModelExamples.{fault_at_the_end}
use Rattle.mz_grammar.proofs.law.one_reading.Goals as goal

cited : {A B : Type 0} → A → B → B
cited a b = b

pub returns : goal.returns
returns c = cited may_end_last (cited expr_reads (cited row_reads (cited item_reads (cited fault_at_the_end
    (λ tokens items others p q. Laws.one_value rule rank width low falls file p.0 q.0 tokens [] items others p.1 q.1)))))
