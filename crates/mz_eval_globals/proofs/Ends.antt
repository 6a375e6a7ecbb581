-- The bounds of a call's value.
use Rattle.std.proofs.Common.{◌≡◌, pos, true, false, refl, length}
use Rattle.mz_globals.specs.declared.global.Global.{Global}
use Rattle.mz_globals.specs.declared.global.Global.TheVariants.{CountOf}
use Rattle.mz_globals.specs.Givens.{Givens, given_at}
use Rattle.mz_globals.specs.Table.{global_ends}
use Rattle.mz_eval_globals.specs.Steps.{is_count}

pub ends_of_count : (g : Global) (gs : Givens) → is_count g ≡ true → global_ends g gs ≡ (pos 0, pos (length (given_at gs 0).ends))
ends_of_count CountOf gs h = refl
ends_of_count g gs h = absurd (cc)

pub ends_of_truth : (g : Global) (gs : Givens) → is_count g ≡ false → global_ends g gs ≡ (pos 0, pos 1)
ends_of_truth CountOf gs h = absurd (cc)
ends_of_truth g gs h = refl
