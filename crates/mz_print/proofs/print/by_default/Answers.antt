use Rattle.std.proofs.Common.{◌≡◌, ◌∙◌, ℕ, List, map, ap, sym, subst, IfOk}
use Rattle.std.specs.List.{flat_map}
use Rattle.mz_value.specs.Contents.{case_names, content}
use Rattle.mz_core.specs.Program.{plain_program}
use Rattle.mz_print.specs.Output.{variable_slots}
use Rattle.mz_print.specs.Lines.{line_text}
use Rattle.mz_print.proofs.DefaultLines.{are_the_default}
use Rattle.mz_print.proofs.ShownValues.{prints_values}
use Rattle.mz_print.specs.Names.{top_names}
use Rattle.mz_print.proofs.print.by_default.Goals as goal

pub default_text-requires-clause-printable : goal.default_text-requires-clause-printable
default_text-requires-clause-printable c = prints_values (case_names c.args.printer.now.program.now.cases) c.requires.forms (map content c.args.values.now) c.requires.taken.printable c.requires.fit

pub returns : goal.returns
unfolding plain_program
returns c =
    let vs = map content c.args.values.now in
    let s = c.args.printer.now in
    let line = line_text s.names.now (case_names s.program.now.cases) vs in
    let T : List ℕ → Type 0 = λ text. IfOk c.default_text.result (λ t. t.items ≡ text) in
    subst T
    (ap (λ ls. flat_map line ls) (c.deref.ensures.value ∙ c.requires.taken.made.lines)
    ∙ sym (are_the_default s.names.now (plain_program s.program.now) (variable_slots (top_names s.top.items)) vs)) c.default_text.ensures
