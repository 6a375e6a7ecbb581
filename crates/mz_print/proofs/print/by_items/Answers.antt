use Rattle.std.proofs.Common.{◌≡◌, ◌∙◌, ℤ, map, ap, subst, rules, to_z, of_z, w64, SFits}
use Rattle.std.proofs.Math.Path.{fun_ext}
use Rattle.std.proofs.lemmas.Int.{to_z-of_z}
use Rattle.mz_value.specs.Contents.{content}
use Rattle.mz_core.specs.Program.{plain_program}
use Rattle.mz_meaning.specs.Cells.{Env}
use Rattle.mz_eval_scopes.specs.Views.{env_cells}
use Rattle.mz_print.specs.Output.{assigned, output_env, variable_slots}
use Rattle.mz_print_stream.specs.Printing.{Says}
use Rattle.mz_print.specs.Items.{items_text}
use Rattle.mz_print.specs.Names.{top_names}
use Rattle.mz_print.proofs.print.by_items.Goals as goal

pub returns : goal.returns
returns c =
    let s = c.args.printer.now in
    let vs = map content c.args.values.now in
    let same : env_cells c.in_ok-env.env ≡ output_env (assigned (variable_slots (top_names s.top.items)) vs) (top_names s.top.items) =
    fun_ext c.in_ok-env.ensures ∙ ap (λ xs. output_env (assigned (variable_slots (top_names xs)) vs) (top_names xs)) c.deref.ensures.value in
    let n : ℤ = to_z w64 (of_z w64 s.int_range) in
    let fits : SFits w64 s.int_range = search rules in
    let e : n ≡ s.int_range = to_z-of_z w64 s.int_range fits in
    let E : Env → Type 0 = λ env. Says (items_text (plain_program s.program.now) s.budget n env c.args.block) c.items_text.result in
    let N : ℤ → Type 0 = λ m. Says (items_text (plain_program s.program.now) s.budget m (output_env (assigned (variable_slots (top_names s.top.items)) vs) (top_names s.top.items)) c.args.block) c.items_text.result in
    subst N e (subst E same c.items_text.ensures)
