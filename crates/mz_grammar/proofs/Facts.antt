-- The facts of all parts of a model.
use Rattle.std.proofs.Common.{◌≡◌, ◌<◌, arith, true}
use Rattle.mz_grammar.specs.RulesReading.{Falls}
use Rattle.mz_grammar.proofs.Viable.{where_so}
use Rattle.mz_grammar.specs.declared.level.Level.{Level}
use Rattle.mz_grammar.specs.declared.level.Level.TheVariants as level_is
use Rattle.mz_grammar.specs.Parts
use Rattle.mz_grammar.specs.Parts.{Place}
use Rattle.mz_grammar.specs.Model.{rule}
use Rattle.mz_grammar.specs.Reading.{rank, operand_rank, width}
use Rattle.mz_grammar.proofs.PartEnds.{takes_token, TakesToken, CanComplete, Completion, Facts}
use Rattle.mz_grammar.proofs.Expressions.{operand_facts, level_facts, expr_facts, more_operators_facts, operators_facts, unit_facts, atom_facts, accesses_facts, indices_facts, more_indices_facts, annotations_facts, marks_facts, head_facts, text_rest_facts}
use Rattle.mz_grammar.proofs.Calls.{arguments_facts, named_facts}
use Rattle.mz_grammar.proofs.Lists.{elements_facts, generators_facts, generator_facts, more_names_facts, filter_facts, array_body_facts, set_body_facts, rows_body_facts, more_rows_facts, row_facts, cells_facts, branch_facts, branches_facts, let_items_facts, let_item_facts}
use Rattle.mz_grammar.proofs.Declarations.{declaration_facts, declared_facts, value_facts, type_facts, index_types_facts, element_facts, unmarked_facts, base_facts, params_facts, param_list_facts, param_facts}
use Rattle.mz_grammar.proofs.Items.{item_facts, goal_facts, cases_facts, case_names_facts, file_facts, more_items_facts}

facts : (n : Place) → Facts n
facts Parts.file = file_facts
facts Parts.more_items = more_items_facts
facts Parts.item = item_facts
facts Parts.goal = goal_facts
facts Parts.cases = cases_facts
facts Parts.case_names = case_names_facts
facts Parts.params = params_facts
facts Parts.param_list = param_list_facts
facts Parts.param = param_facts
facts Parts.declaration = declaration_facts
facts (Parts.declared t) = declared_facts t
facts Parts.value = value_facts
facts Parts.type = type_facts
facts Parts.element = element_facts
facts Parts.unmarked = unmarked_facts
facts Parts.base = base_facts
facts (Parts.index_types n) = index_types_facts n
facts Parts.expr = expr_facts
facts (Parts.level l) = level_facts l
facts (Parts.operand l) = operand_facts l
facts (Parts.operators l) = operators_facts l
facts (Parts.more_operators l done) = more_operators_facts l done
facts Parts.unit = unit_facts
facts Parts.atom = atom_facts
facts (Parts.accesses x) = accesses_facts x
facts Parts.indices = indices_facts
facts Parts.more_indices = more_indices_facts
facts Parts.annotations = annotations_facts
facts Parts.marks = marks_facts
facts Parts.head = head_facts
facts (Parts.named n s) = named_facts n s
facts (Parts.arguments t) = arguments_facts t
facts Parts.text_rest = text_rest_facts
facts (Parts.elements c) = elements_facts c
facts Parts.array_body = array_body_facts
facts Parts.set_body = set_body_facts
facts Parts.rows_body = rows_body_facts
facts Parts.more_rows = more_rows_facts
facts Parts.row = row_facts
facts Parts.cells = cells_facts
facts Parts.generator = generator_facts
facts Parts.more_names = more_names_facts
facts Parts.filter = filter_facts
facts (Parts.generators c) = generators_facts c
facts Parts.branch = branch_facts
facts Parts.branches = branches_facts
facts Parts.let_items = let_items_facts
facts Parts.let_item = let_item_facts

operand_low : (l : Level) → operand_rank l < 26
unfolding operand_rank
operand_low level_is.Iff = omega arith
operand_low _ = omega arith

pub low : (n : Place) → rank n < width
unfolding rank
low (Parts.level l) = let h = operand_low l in omega arith
low (Parts.operand l) = let h = operand_low l in omega arith
low _ = omega arith

pub falls : (n : Place) → Falls rank (rank n) (rule n)
falls n = (facts n).falls

pub takes : (n : Place) → takes_token n ≡ true → TakesToken (rule n)
takes n e = where_so (takes_token n) e (facts n).takes

pub complete : (n : Place) → Completion (rule n)
complete n = (facts n).complete

pub can_complete : (n : Place) → CanComplete (rule n)
can_complete n = (facts n).can_complete
