-- Declared sets and conditions, which no reading changes.
use Rattle.std.proofs.Common.{◌≡◌, ◌∙◌, Result, refl, sym, ap, subst}
use Rattle.mz_base.specs.declared.fault.Span.{Span}
use Rattle.mz_base.specs.declared.stop.Stop.{Stop}
use Rattle.mz_meaning.specs.Arrays as arrays
use Rattle.mz_meaning.specs.Cells.{Test, set_in, test_of}
use Rattle.mz_meaning.specs.Lets.{contiguous}
use Rattle.mz_symbol.specs.Readings.{Reading}
use Rattle.mz_eval_cells.specs.declared.types.Known.{Known}
use Rattle.mz_eval_cells.specs.declared.types.Known.TheVariants as known
use Rattle.mz_eval_cells.specs.Meets.{Tells}
use Rattle.mz_eval_cells.specs.Views.{cell_of, seen}
use Rattle.mz_eval_cells.proofs.Seeing.{set_seen}
use Rattle.mz_eval_declared.specs.declared.want.Want.{Want}
use Rattle.mz_eval_declared.specs.Wants.{wanted}

pub want_seen : (r : Reading) (k : Known) (w : arrays.Want) → w ≡ arrays.want_of (set_in (cell_of k)) → w ≡ arrays.want_of (set_in (seen r k))
want_seen r k w e = e ∙ ap arrays.want_of (sym (set_seen r k))

pub index_seen : (r : Reading) (at : Span) (k : Known) (x : Result Want Stop) → Tells wanted x (contiguous at (set_in (cell_of k))) → Tells wanted x (contiguous at (set_in (seen r k)))
index_seen r at k x h = subst (λ s. Tells wanted x (contiguous at s)) (sym (set_seen r k)) h

same_test : (r : Reading) (k : Known) → test_of (seen r k) ≡ test_of (cell_of k)
same_test r known.Undefined = refl
same_test r (known.One i) = refl
same_test r (known.Array ix xs) = refl
same_test r (known.Var x) = refl
same_test r (known.Row ix xs) = refl
same_test r (known.Unshaped d) = refl

pub test_seen : (r : Reading) (k : Known) (t : Test) → test_of (cell_of k) ≡ t → test_of (seen r k) ≡ t
test_seen r k t e = same_test r k ∙ e
