use Rattle.std.proofs.Common.{◌≡◌, true, false, rules, arith}
use Rattle.std.proofs.lemmas.Int.{ints}
use Rattle.std.specs.Prelude.{Some, None}
use Rattle.mz_value.specs.Contents.{content}
use Rattle.mz_interval.specs.Ends.{is_number}
use Rattle.mz_operations.specs.Views.{as_int}
use Rattle.mz_builtin_apply.proofs.Limited.{outside, inside, no_integer}
use Rattle.mz_builtin_apply.proofs.limits.integer_outside.Goals as goal

pub returns-in-Some : goal.returns-in-Some
returns-in-Some c =
    let there : as_int (content c.args.v.now) ≡ Some c.in-Some.n = search rules in
    let out : is_number c.in-Some.n ≡ false = search rules in
    outside (content c.args.v.now) c.in-Some.n _ there out (omega (arith, ints))

pub returns-in_default : goal.returns-in_default
returns-in_default c =
    let there : as_int (content c.args.v.now) ≡ Some c.in-Some.n = search rules in
    let within : is_number c.in-Some.n ≡ true = search rules in
    inside (content c.args.v.now) c.in-Some.n there within

pub returns-in_default-2 : goal.returns-in_default-2
returns-in_default-2 c =
    let missing : as_int (content c.args.v.now) ≡ None = search rules in
    no_integer (content c.args.v.now) missing
