use Rattle.std.proofs.Common.{◌≡◌, ◌∙◌, List, Some, ap, map, subst, sym}
use Rattle.std.specs.List.{AllByRecursion}
use Rattle.mz_arena.specs.Instances.{instance, model_var, par_value}
use Rattle.mz_value.specs.Contents.{case_names}
use Rattle.mz_core.specs.Program.{plain_program}
use Rattle.mz_meaning.specs.Walk.{ordered}
use Rattle.fz_items.specs.Forms.{forms}
use Rattle.mz_print.specs.Output.{OutputName}
use Rattle.mz_print.specs.Names.{top_names}
use Rattle.mz_print.specs.Printers.{solution_texts, texts_of}
use Rattle.mz_print.specs.Printable.{ArePrintable, IfTrue}
use Rattle.mz_print_model.specs.Shapes.{IsVarNamed, forms_of}
use Rattle.mz_print_model.specs.Names.{names_with}
use Rattle.mz_print_model.proofs.Found.{all_find, all_named, decls_named}
use Rattle.mz_print_model.proofs.Limits.{as_read}
use Rattle.mz_print_model.proofs.top_call.of_instance.Goals as goal

pub shapes-requires : goal.shapes-requires
shapes-requires c =
    let table = c.args.names.now in
    subst (λ ms. AllByRecursion (IsVarNamed table) (map model_var ms)) (sym c.deref-2.ensures.value)
    (all_named table (plain_program c.args.program.now) (instance c.args.inst).vars c.requires.known c.requires.modeled.vars)

pub solution_printer-requires-clause-named : goal.solution_printer-requires-clause-named
solution_printer-requires-clause-named c = decls_named c.args.names.now (plain_program c.args.program.now).decls c.requires.known

pub returns : goal.returns
returns c =
    let table = c.args.names.now in
    let p = plain_program c.args.program.now in
    let names : List OutputName = top_names c.in_ok-top.top.items in
    let by_values : names_with (ordered p.decls p.order) (instance c.args.inst).pars ≡ Some names =
    ap (λ vs. names_with (ordered p.decls p.order) (map par_value vs)) (sym c.deref.ensures.value) ∙ c.in_ok-top.ensures in
    let printable : ArePrintable (case_names c.args.program.now.cases) (forms c.deref-3.result.now) =
    subst (λ b. IfTrue b (ArePrintable (case_names c.args.program.now.cases) (forms c.deref-3.result.now))) c.if-not-are_printable.false c.are_printable.ensures in
    record {
      has = record {
        vars = (instance c.args.inst).vars;
        declared = c.requires.modeled.vars;
        names = names;
        found = all_find (record { budget = c.args.budget; int_range = c.args.int_range }) p (instance c.args.inst) names c.requires.numbered c.requires.modeled by_values;
        texts =
            as_read (λ n. solution_texts c.in_ok-printer.printer ≡ texts_of table c.args.budget n p names) c.args.int_range c.requires.from_zero c.requires.in_limit c.in_ok-printer.ensures.texts;
        forms = c.in_ok-shapes.ensures ∙ ap (λ ms. forms_of table (map model_var ms)) c.deref-2.ensures.value;
      };
      takes = record {
        made = c.in_ok-printer.ensures.made;
        printable =
            subst (λ q. ArePrintable (case_names q.cases) (forms c.in_ok-shapes.shapes.items)) (sym c.in_ok-printer.ensures.program)
            (subst (λ ss. ArePrintable (case_names c.args.program.now.cases) (forms ss)) c.deref-3.ensures.value printable);
      };
    }
