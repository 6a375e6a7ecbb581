-- The places of globals: as many lines come before them in the table of signatures as in that of rows.
use Rattle.std.proofs.Common.{◌≡◌, ◌∙◌, ℕ, ◌-◌, Bool, true, false, Some, None, refl, sym, ap, length, nat_lt, if◌then◌else◌}
use Rattle.std.specs.Option.{option_and_then}
use Rattle.mz_operations.specs.Lines.{lines}
use Rattle.mz_builtin.specs.Table.{built_ins}
use Rattle.mz_builtin.specs.Signatures.{global_place}
use Rattle.mz_globals.specs.Names.{global_at}
use Rattle.mz_meaning.specs.Globals.{global_of}

as_many : length built_ins ≡ length lines
unfolding built_ins lines
as_many = refl

by_place : (b : Bool) (n : ℕ) → option_and_then global_at (if b then None else Some n) ≡ (if b then None else global_at n)
by_place true n = refl
by_place false n = refl

of_place : (n : ℕ) → option_and_then global_at (global_place n) ≡ global_of n
unfolding global_place
of_place n =
    by_place (nat_lt n (length built_ins)) (n - length built_ins)
    ∙ ap (λ m. if nat_lt n m then None else global_at (n - m)) as_many

pub without_place : (n : ℕ) → global_place n ≡ None → None ≡ global_of n
without_place n h = sym (ap (option_and_then global_at) h) ∙ of_place n

pub with_place : (n place : ℕ) → global_place n ≡ Some place → global_at place ≡ global_of n
with_place n place h = sym (ap (option_and_then global_at) h) ∙ of_place n
