use Rattle.mz_operations.proofs.Numbers.{arith_is_monotone, sign_is_monotone, extreme_is_monotone, hull_is_monotone}
use Rattle.mz_operations.proofs.Sets.{card_is_monotone, hull_of_set_is_monotone, set_is_monotone, union_is_monotone}
use Rattle.mz_operations.proofs.bounds_law.bounds_are_monotone.Goals as goal

pub returns : goal.returns
returns c = record {
  arith = arith_is_monotone;
  sign = sign_is_monotone;
  extreme = extreme_is_monotone;
  hull = hull_is_monotone;
  card = card_is_monotone;
  domain = hull_of_set_is_monotone;
  set = set_is_monotone;
  union = union_is_monotone;
}
