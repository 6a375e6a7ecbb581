-- Numbers that went to their bits and are read again.
use Rattle.std.proofs.Common.{◌≡◌, ℤ, ◌*ℤ◌, FitsSigned, to_z, of_z, ◌∙◌}
use Rattle.std.specs.Int.{Width, int_min, int_max}
use Rattle.std.proofs.lemmas.Int.{to_z-of_z}

-- a number as it comes back from its bits
abbrev pub read_back : Width → ℤ → ℤ
read_back w z = to_z w (of_z w z)

module _ (w : Width) (x y r : ℤ) (f : FitsSigned w x) (g : FitsSigned w y) where
  pub product_read : r ≡ read_back w x *ℤ read_back w y → r ≡ x *ℤ y
  product_read e = e ∙ (λ t. to_z-of_z w x f t *ℤ to_z-of_z w y g t)

  pub int_min_read : r ≡ int_min (read_back w x) (read_back w y) → r ≡ int_min x y
  int_min_read e = e ∙ (λ t. int_min (to_z-of_z w x f t) (to_z-of_z w y g t))

  pub int_max_read : r ≡ int_max (read_back w x) (read_back w y) → r ≡ int_max x y
  int_max_read e = e ∙ (λ t. int_max (to_z-of_z w x f t) (to_z-of_z w y g t))
