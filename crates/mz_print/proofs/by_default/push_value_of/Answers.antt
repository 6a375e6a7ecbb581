use Rattle.std.proofs.Common.{◌≡◌, ◌++◌, ◌∙◌, List, ap, map, subst, sym, Some}
use Rattle.mz_base.specs.Names.{text_of}
use Rattle.mz_value.specs.Contents.{case_names, content}
use Rattle.mz_print.specs.Output.{default_line}
use Rattle.mz_print.specs.Printable.{CanPrint}
use Rattle.mz_print.proofs.All.{all_seen_at}
use Rattle.mz_print.proofs.DefaultLines.{line_given, line_missing}
use Rattle.mz_print.proofs.by_default.push_value_of.Goals as goal

pub push_line-requires : goal.push_line-requires
push_line-requires c = all_seen_at content (CanPrint (case_names c.args.cases.now)) c.args.values.now c.args.line.value c.index-values-line.result c.requires.printable c.if-line-values.true c.index-values-line.is

pub returns-in_ok-push_line : goal.returns-in_ok-push_line
returns-in_ok-push_line c =
    c.in_ok-push_line.ensures
    ∙ ap (λ t. c.args.out.now.items ++ t)
    (line_given content c.args.names.now (case_names c.args.cases.now) c.args.values.now c.args.line c.index-values-line.result c.as_bytes.result.now (c.as_bytes.ensures.value ∙ c.text-label.ensures) c.if-line-values.true c.index-values-line.is)

pub returns-else-line-values : goal.returns-else-line-values
returns-else-line-values c = line_missing content c.args.names.now (case_names c.args.cases.now) c.args.values.now c.args.line c.args.out.now.items c.if-line-values.false
