use Rattle.std.proofs.Common.{◌≡◌, ◌∙◌, List, map, ap, sym, subst}
use Rattle.mz_value.specs.declared.value.Value.{Value}
use Rattle.mz_value.specs.Contents.{content}
use Rattle.mz_core.specs.Program.{plain_program}
use Rattle.mz_core.specs.TreeViews.{tree}
use Rattle.mz_print.specs.Output.{assigned, default_text, output_env, variable_slots}
use Rattle.mz_print_stream.specs.Printing.{says, Says}
use Rattle.mz_print.specs.Items.{items_text}
use Rattle.mz_print.specs.Names.{top_names}
use Rattle.mz_print.specs.Printers.{solution_texts}
use Rattle.mz_print.proofs.Joins.{says_same}
use Rattle.mz_print.proofs.Texts.{by_default, by_items, no_items, has_items}
use Rattle.mz_print.proofs.print.SolutionPrinterPrinter.text.Goals as goal

pub returns-in_ok-by_default : goal.returns-in_ok-by_default
unfolding plain_program
returns-in_ok-by_default c =
    let s = c.args.self.now in
    let xs = top_names s.top.items in
    let vs = map content c.args.assign.now.values.items in
    let none = no_items tree s.program.now.outputs.items _ s.program.now.outputs.ok.0 (sym c.is_empty.ensures ∙ c.if-is_empty.true) in
    by_default s.names.now s.budget s.int_range (plain_program s.program.now) xs vs c.args.block none
    ∙ ap says
    (sym (c.in_ok-by_default.ensures ∙ ap (λ ys. default_text s.names.now (plain_program s.program.now) (assigned (variable_slots xs) (map content ys))) c.deref.ensures.value))

pub returns-else-is_empty : goal.returns-else-is_empty
unfolding plain_program
returns-else-is_empty c =
    let s = c.args.self.now in
    let xs = top_names s.top.items in
    let vs = map content c.args.assign.now.values.items in
    let some = has_items tree s.program.now.outputs.items _ s.program.now.outputs.ok.0 (sym c.is_empty.ensures ∙ c.if-is_empty.false) in
    let V : List Value → Type 0 = λ ys. Says (items_text (plain_program s.program.now) s.budget s.int_range (output_env (assigned (variable_slots xs) (map content ys)) xs) c.args.block) c.by_items.result in
    says_same (solution_texts s vs c.args.block) (items_text (plain_program s.program.now) s.budget s.int_range (output_env (assigned (variable_slots xs) vs) xs) c.args.block) c.by_items.result (by_items s.names.now s.budget s.int_range (plain_program s.program.now) xs vs c.args.block some)
    (subst V c.deref-else-is_empty.ensures.value c.by_items.ensures)
