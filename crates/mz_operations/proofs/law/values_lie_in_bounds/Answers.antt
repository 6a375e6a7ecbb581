use Rattle.mz_operations.proofs.Arithmetic.{arith_encloses, sign_encloses, hull_encloses}
use Rattle.mz_operations.proofs.FoldBounds.{fold_encloses, power_encloses, extreme_encloses, count_encloses}
use Rattle.mz_operations.proofs.CardBounds.{card_encloses}
use Rattle.mz_operations.proofs.SetBounds.{set_encloses, union_encloses, array_union_encloses, array_intersect_encloses, beside_encloses}
use Rattle.mz_operations.proofs.law.values_lie_in_bounds.Goals as goal

pub returns : goal.returns
returns c = record {
  arith = arith_encloses;
  sign = sign_encloses;
  fold = fold_encloses;
  power = power_encloses;
  extreme = extreme_encloses;
  count = count_encloses;
  card = card_encloses;
  hull = hull_encloses;
  union = union_encloses;
  beside = beside_encloses;
  set = set_encloses;
  array_union = array_union_encloses;
  array_intersect = array_intersect_encloses;
}
