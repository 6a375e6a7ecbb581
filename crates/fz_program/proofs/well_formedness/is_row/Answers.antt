use Rattle.std.proofs.Common.{◌≡◌, ◌∙◌, sym, ap, ap₂, map, true}
use Rattle.fz_program.specs.Arguments.{argument}
use Rattle.fz_program.specs.Flat.{variable, are_arguments, is_definition, is_within}
use Rattle.fz_program.specs.Table.{line}
use Rattle.fz_program.proofs.well_formedness.is_row.Goals as goal

pub returns-then-is_definition : goal.returns-then-is_definition
returns-then-is_definition c =
    let vs = map variable c.args.vars.now in
    let r = c.args.r.now in
    let args : are_arguments vs (line r.name).kinds (map argument r.args.items) ≡ true =
    sym (ap₂ (λ ks xs. are_arguments vs ks (map argument xs)) c.kinds_of.ensures c.deref.ensures.value) ∙ sym c.are_arguments.ensures ∙ c.if-are_arguments.true in
    let defines : is_definition (map argument r.args.items) r.defines ≡ true =
    sym (ap (λ xs. is_definition (map argument xs) r.defines) c.deref-then-are_arguments.ensures.value) ∙ sym c.is_definition.ensures ∙ c.if-is_definition.true in
    let within = c.is_within.ensures ∙ ap (λ xs. is_within vs (map argument xs)) c.deref-then-is_definition.ensures.value in
    (λ t. record { args = args; defines = defines; within = sym within ∙ t }, λ h. within ∙ h.within)
