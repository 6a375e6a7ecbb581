use Rattle.std.proofs.Common.{◌≡◌, ◌∙◌, ◌≤ℤ◌, ℤ, pos, List, map, ap, sym, subst, rules, to_z, of_z, w64, SFits}
use Rattle.std.specs.List.{AllByRecursion}
use Rattle.std.proofs.lemmas.Int.{to_z-of_z}
use Rattle.mz_value.specs.Ranges.{greatest}
use Rattle.mz_core.specs.Program.{plain_program}
use Rattle.mz_core.specs.TreeViews.{decl}
use Rattle.mz_print.specs.Output.{variable_slots}
use Rattle.mz_print.specs.declared.lines.Line.{Line}
use Rattle.mz_print.specs.Lines.{IsNamed, lines_of}
use Rattle.mz_print.specs.Names.{place_in, top_names}
use Rattle.mz_print.proofs.Texts.{lines_named}
use Rattle.mz_print.proofs.made.solution_printer.Goals as goal

pub returns-clause-made : goal.returns-clause-made
unfolding plain_program
returns-clause-made c =
    let xs = c.args.top.items in
    let fits : SFits w64 c.args.int_range = search rules in
    let e : to_z w64 (of_z w64 c.args.int_range) ≡ c.args.int_range = to_z-of_z w64 c.args.int_range fits in
    let slots : c.in_ok-slots.slots.items ≡ variable_slots (top_names xs) = c.in_ok-slots.ensures ∙ ap (λ ys. variable_slots (top_names ys)) c.deref.ensures.value in
    let lines : c.in_ok-lines.lines.items ≡ lines_of (variable_slots (top_names xs)) (map decl c.args.program.now.decls.items) =
    c.in_ok-lines.ensures
    ∙ (ap (λ ss. lines_of ss (map decl c.deref-2.result.now)) (c.deref-3.ensures.value ∙ slots)
    ∙ ap (λ ds. lines_of (variable_slots (top_names xs)) (map decl ds)) c.deref-2.ensures.value) in
    let N : List Line → Type 0 = λ ls. AllByRecursion (IsNamed c.args.names.now) ls in
    let Z : ℤ → Type 0 = λ m. pos 0 ≤ℤ m in
    let G : ℤ → Type 0 = λ m. m ≤ℤ greatest in
    record {
      places =
          c.in_ok-places.ensures
          ∙ (ap (λ ss. map (place_in ss) (top_names c.deref-5.result.now)) (c.deref-4.ensures.value ∙ slots)
          ∙ ap (λ ys. map (place_in (variable_slots (top_names xs))) (top_names ys)) c.deref-5.ensures.value);
      lines = lines;
      named = subst N (sym lines) (lines_named c.args.names.now (variable_slots (top_names xs)) (map decl c.args.program.now.decls.items) c.requires.named);
      small = c.requires.small;
      from_zero = subst Z (sym e) c.requires.from_zero;
      in_limit = subst G (sym e) c.requires.in_limit;
    }
