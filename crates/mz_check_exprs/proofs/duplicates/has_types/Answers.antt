use Rattle.std.proofs.Common.{Bor, map}
use Rattle.mz_core.specs.Tree.{Decl}
use Rattle.mz_core.specs.TreeViews.{decl}
use Rattle.mz_check_meaning.specs.Models.{entry_of}
use Rattle.mz_check_context.specs.declared.heading.Heading.{Heading}
use Rattle.mz_check_context.specs.Headings.{heading}
use Rattle.mz_check_context.specs.Known.{known}
use Rattle.mz_check_exprs.proofs.Taken.{types_refused}
use Rattle.mz_check_exprs.proofs.duplicates.has_types.Goals as goal

pub returns-in-Err-Refused : goal.returns-in-Err-Refused
returns-in-Err-Refused c = types_refused (λ (h : Bor Heading). heading h.now) c.heading_of.result c.in-Err-Refused.field-0 _ (map (λ (d : Decl). d.ty.ty) (map decl c.args.params.now)) c.start.result (entry_of c.args.function (known c.args.context.now).headings) c.heading_of.ensures c.in-Err-Refused.is c.in-Err-Refused.field-0-is
