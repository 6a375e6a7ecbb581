-- The answer to the question in which order declarations are evaluated.
use Rattle.std.specs.Prelude.{length}
use Rattle.mz_graph.specs.Graph.{Graph}
use Rattle.mz_graph.specs.Depends.{DependsOn, IsWholeOrder, IsCyclicAt}
use Rattle.mz_graph.specs.declared.evaluation.Evaluation.{Evaluation}
use Rattle.mz_graph.specs.declared.evaluation.Evaluation.TheVariants.{Ordered, Cyclic}

-- the order of all declarations, or the first one that never has its turn
abbrev pub IsEvaluation : Graph → Graph → Graph → Graph → Evaluation → Type 0
IsEvaluation calls mentions decl_calls decl_mentions (Ordered order) = IsWholeOrder (DependsOn calls mentions decl_calls decl_mentions) (length decl_mentions) order.items
IsEvaluation calls mentions decl_calls decl_mentions (Cyclic d) = IsCyclicAt (DependsOn calls mentions decl_calls decl_mentions) (length decl_mentions) d
