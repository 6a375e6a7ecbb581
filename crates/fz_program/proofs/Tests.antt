-- Tests of all elements, and of some, over what the elements stand for.
use Rattle.std.proofs.Common.{◌≡◌, List, [], ◌∷◌, map, Bool, refl, ap}
use Rattle.std.specs.Prelude.{◌&&◌, ◌||◌}
use Rattle.std.specs.List.{list_all, list_any}
use Rattle.fz_program.specs.declared.program.Arg.{Arg}
use Rattle.fz_program.specs.Arguments.{Plain, Argument, argument, plain, plains}

pub any_map : {X Y : Type 0} (test : Y → Bool) (f : X → Y) (xs : List X) → list_any test (map f xs) ≡ list_any (λ x. test (f x)) xs
any_map test f [] = refl
any_map test f (x ∷ xs) = ap (λ b. test (f x) || b) (any_map test f xs)

pub all_plains : (test : Plain → Bool) (xs : List Arg) → list_all test (plains xs) ≡ list_all (λ x. test (plain x)) xs
all_plains test [] = refl
all_plains test (x ∷ xs) = ap (λ b. test (plain x) && b) (all_plains test xs)

pub any_plains : (test : Plain → Bool) (xs : List Arg) → list_any test (plains xs) ≡ list_any (λ x. test (plain x)) xs
any_plains test [] = refl
any_plains test (x ∷ xs) = ap (λ b. test (plain x) || b) (any_plains test xs)

pub any_arguments : (test : Argument → Bool) (xs : List Arg) → list_any test (map argument xs) ≡ list_any (λ x. test (argument x)) xs
any_arguments test xs = any_map test argument xs
