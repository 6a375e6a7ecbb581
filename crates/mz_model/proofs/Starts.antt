-- Nothing is in hand.
use Rattle.std.proofs.Common.{◌≡◌, ◌∙◌, ℕ, [], map, Option, Some, None, slice_get, refl, sym, ap, subst}
use Rattle.std.proofs.Math.Path.{fun_ext}
use Rattle.std.specs.Prelude.{pos}
use Rattle.mz_base.specs.declared.fault.Span.{Span}
use Rattle.mz_base.specs.declared.kind.Kind.TheVariants as kind
use Rattle.mz_meaning.specs.Cells.{Par, undefined}
use Rattle.mz_meaning.specs.Runs.{fault}
use Rattle.mz_meaning.specs.Unbounded.{first_unbounded}
use Rattle.mz_meaning.specs.Walk.{names_env}
use Rattle.mz_model_meaning.specs.Refusals.{StopsOnce}
use Rattle.mz_symbol.specs.Runs.{Run, IsRun}
use Rattle.mz_symbol.specs.Readings.{Reading}
use Rattle.mz_eval_cells.specs.declared.types.Known.{Known}
use Rattle.mz_eval_cells.specs.declared.types.Known.TheVariants as known
use Rattle.mz_eval_cells.specs.Views.{cell_of, seen}
use Rattle.mz_eval_scopes.specs.Views.{known_by, env_cells}
use Rattle.mz_model_state.specs.Hands.{names_at, SlotsFrom}
use Rattle.mz_model_state.specs.Loops.{UnboundedStops}
use Rattle.mz_model_state.specs.Progress.{HaltedStops}
use Rattle.mz_model_names.specs.Named.{held_name}
use Rattle.mz_model.specs.declared.types.Names.{Names}
use Rattle.mz_model.specs.declared.types.Task.{Task}
use Rattle.mz_model.specs.Walks.{AreReadable, limits_of, program_of}

-- what is undefined without values is undefined under each reading
undefined_seen : (r : Reading) (k : Known) → cell_of k ≡ Par None → seen r k ≡ Par None
undefined_seen r known.Undefined h = refl
undefined_seen r (known.One i) h = absurd (cc)
undefined_seen r (known.Array ix xs) h = absurd (cc)
undefined_seen r (known.Var x) h = absurd (cc)
undefined_seen r (known.Row ix xs) h = absurd (cc)
undefined_seen r (known.Unshaped d) h = absurd (cc)

slot_seen : (r : Reading) (o : Option Known) → known_by cell_of o ≡ undefined → known_by (seen r) o ≡ undefined
slot_seen r None h = refl
slot_seen r (Some k) h = undefined_seen r k h

pub none_readable : (ns : Names) → ns.list.items ≡ [] → ((k : ℕ) → env_cells ns.env k ≡ undefined) → AreReadable ns
none_readable ns none h = record {
  cells = λ r. fun_ext (λ k. slot_seen r (slice_get ns.env.cells.items k) (h k)) ∙ ap (λ hs. names_env (names_at r (map held_name hs))) (sym none);
  slots = subst (λ hs. SlotsFrom 0 (map held_name hs)) (sym none) tt;
}

pub unbounded_stops : HaltedStops → UnboundedStops → (t : Task) (s : Run) (at : Span) → IsRun s → first_unbounded (program_of t) ≡ Some at → StopsOnce (limits_of t) (program_of t) (fault kind.UnboundedSet at (pos 0))
unbounded_stops halts law t s at is e = halts (limits_of t) (program_of t) (fault kind.UnboundedSet at (pos 0)) s [] (record { run = is; vars = tt; slots = tt }) (law (limits_of t) (program_of t) s at e)
