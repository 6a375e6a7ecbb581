use Rattle.std.proofs.Common.{◌∙◌, sym, subst}
use Rattle.mz_core.specs.Types.{plain_type}
use Rattle.mz_eval_cells.specs.Meets.{Tells}
use Rattle.mz_eval_cells.specs.Views.{seen}
use Rattle.mz_eval_declared.specs.Wants.{wanted, wants_of}
use Rattle.mz_model_state.specs.Forms as forms
use Rattle.mz_model_names.specs.Formed.{form_seen}
use Rattle.mz_model_names.proofs.forms.valued_form.Goals as goal

pub returns-else-is_var : goal.returns-else-is_var
returns-else-is_var c r =
    let t = plain_type c.args.t.now in
    subst (λ b. Tells (form_seen t r) c.par_form.result (forms.valued_form c.args.at t (wants_of c.args.ws.now) (wanted c.args.w.now) b (seen r c.args.k))) (sym (sym c.is_var.ensures ∙ c.if-is_var.false)) (c.par_form.ensures r)
