-- Cells with a shape and without one, and what par cells alone tell.
use Rattle.std.proofs.Common.{◌≡◌, ◌∙◌, ◌&&◌, Bool, true, false, Option, Some, None, Result, Ok, Err, refl, sym, ap, subst}
use Rattle.mz_base.specs.declared.fault.Fault.{Fault}
use Rattle.mz_base.specs.declared.fault.Span.{Span}
use Rattle.mz_base.specs.declared.kind.Kind.TheVariants.{ParUndefined}
use Rattle.mz_base.specs.declared.stop.Stop.TheVariants.{Refused}
use Rattle.mz_base.specs.Faults.{fault_at}
use Rattle.mz_core.specs.Types.{PlainType}
use Rattle.mz_meaning.specs.Arrays.{Want, Anything, Missing, Within, suits}
use Rattle.mz_meaning.specs.Cells.{set_in}
use Rattle.mz_meaning.specs.Runs.{Stopped}
use Rattle.mz_meaning.specs.Walk.{surely}
use Rattle.mz_symbol.specs.Readings.{Reading}
use Rattle.mz_eval_cells.specs.declared.types.Known.{Known}
use Rattle.mz_eval_cells.specs.declared.types.Known.TheVariants as known
use Rattle.mz_eval_cells.specs.declared.types.Sure.{Sure}
use Rattle.mz_eval_cells.specs.Meets.{Tells}
use Rattle.mz_eval_cells.specs.Views.{cell_of, seen, sure_of}
use Rattle.mz_model_state.specs.Forms.{par_form}
use Rattle.mz_model_names.specs.declared.forms.Form.{Form}
use Rattle.mz_model_names.specs.declared.forms.Form.TheVariants as form
use Rattle.mz_model_names.specs.Formed.{form_seen}

pub set_seen : (r : Reading) (k : Known) → set_in (seen r k) ≡ set_in (cell_of k)
set_seen r known.Undefined = refl
set_seen r (known.One i) = refl
set_seen r (known.Array ix xs) = refl
set_seen r (known.Var x) = refl
set_seen r (known.Row ix xs) = refl
set_seen r (known.Unshaped d) = refl

-- a var cell isn't sure, whatever its value is
pub suits_seen : (r : Reading) (x : Want) (k : Known) → surely (suits x (seen r k)) ≡ surely (suits x (cell_of k))
suits_seen r Anything known.Undefined = refl
suits_seen r Anything (known.One i) = refl
suits_seen r Anything (known.Array ix xs) = refl
suits_seen r Anything (known.Var x) = refl
suits_seen r Anything (known.Row ix xs) = refl
suits_seen r Anything (known.Unshaped d) = refl
suits_seen r Missing k = refl
suits_seen r (Within u) known.Undefined = refl
suits_seen r (Within u) (known.One i) = refl
suits_seen r (Within u) (known.Array ix xs) = refl
suits_seen r (Within u) (known.Var x) = refl
suits_seen r (Within u) (known.Row ix xs) = refl
suits_seen r (Within u) (known.Unshaped d) = refl

-- ---- par names

sure_as : (r : Reading) (x : Want) (k : Known) (s : Sure) (b : Bool) → sure_of s ≡ suits x (cell_of k) → s.par && s.is ≡ b → surely (suits x (seen r k)) ≡ b
sure_as r x k s b is h = suits_seen r x k ∙ ap surely (sym is) ∙ h

pub told_par : (t : PlainType) (at : Span) (x : Want) (k : Known) (s : Sure) (r : Reading) → sure_of s ≡ suits x (cell_of k) → s.par && s.is ≡ true → Tells (form_seen t r) (Ok (form.Par k)) (par_form at (seen r k) (surely (suits x (seen r k))))
told_par t at x k s r is h = subst (λ b. Tells (form_seen t r) (Ok (form.Par k)) (par_form at (seen r k) b)) (sym (sure_as r x k s true is h)) (record { by = λ s. refl })

pub told_undefined : (t : PlainType) (at : Span) (x : Want) (k : Known) (s : Sure) (f : Fault) (r : Reading) → sure_of s ≡ suits x (cell_of k) → s.par && s.is ≡ false → f ≡ fault_at ParUndefined at → Tells {A = Form} (form_seen t r) (Err (Refused f)) (par_form at (seen r k) (surely (suits x (seen r k))))
told_undefined t at x k s f r is h e = subst (λ b. Tells {A = Form} (form_seen t r) (Err (Refused f)) (par_form at (seen r k) b)) (sym (sure_as r x k s false is h)) (record { by = λ s. ap Stopped (sym e) })
