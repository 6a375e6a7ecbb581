-- Rows whose arguments are there.
use Rattle.std.proofs.Common.{◌≡◌, ℤ, pos, List, Bool, ap}
use Rattle.std.specs.Prelude.{Some}
use Rattle.std.specs.Ordering.{int_eq}
use Rattle.mz_value.specs.Contents.{bool}
use Rattle.mz_operations.specs.Arguments.{Arguments, int_at}
use Rattle.mz_globals.specs.declared.global.Global.TheVariants.{Count, Times}
use Rattle.mz_globals.specs.declared.global.Relation.{Relation}
use Rattle.mz_globals.specs.Reading.{ints_at}
use Rattle.mz_globals.specs.Order.{times}
use Rattle.mz_globals.specs.Counting.{related}
use Rattle.mz_globals.specs.Table.{line_of}

pub count_is : (args : Arguments) (xs : List ℤ) (y c : ℤ) (b : Bool) → ints_at args 0 ≡ Some xs → int_at args 1 ≡ Some y → int_at args 2 ≡ Some c → b ≡ int_eq (pos (times y xs)) c → Some (bool b) ≡ (line_of Count).value args
unfolding line_of
count_is args xs y c b e f g h = rw (e, f, g) (ap (λ t. Some (bool t)) h)

pub times_are : (relation : Relation) (args : Arguments) (n : ℤ) (xs : List ℤ) (v : ℤ) (b : Bool) → int_at args 0 ≡ Some n → ints_at args 1 ≡ Some xs → int_at args 2 ≡ Some v → b ≡ related relation n (pos (times v xs)) → Some (bool b) ≡ (line_of (Times relation)).value args
unfolding line_of
times_are relation args n xs v b e f g h = rw (e, f, g) (ap (λ t. Some (bool t)) h)
