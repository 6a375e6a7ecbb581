-- The code's arguments as operands of a node.
use Rattle.std.proofs.Common.{◌≡◌, List, [], ◌∷◌, Some, None, refl, sym, ap₂, subst}
use Rattle.mz_arena.specs.declared.node.NodeKind.{NodeKind}
use Rattle.mz_arena.specs.Extents.{Known, whole, truth, subset, wholes, truths, subsets, empty}
use Rattle.fz_program.specs.declared.row_name.RowName.{RowName}
use Rattle.fz_program.specs.Arguments.{Plain, Argument, one, array, plain_of}
use Rattle.fz_program.specs.Flat.{Variable, Program}
use Rattle.fz_build.specs.Bounds.{ends_of}
use Rattle.flat_reif_rows.specs.Standing.{Suits, AllSuit}
use Rattle.flat_reif_rows.specs.NodeRows.{row_of_one, row_of_two, inputs_of_two, HasDivisor}
use Rattle.flat_reif_rows.specs.Making.{MayGive, Gives, AreOperands, Makes}
use Rattle.flat_reif_rows.proofs.Sorts.{of_integer, of_truth, of_set, no_array}
use Rattle.flat_reif_rows.proofs.Given.{makes_by, Always}
use Rattle.flat_reif_rows.proofs.KindRows.{fits_one, fits_two}

-- an argument that suits bounds is no array
pub single : (vs : List Variable) (x : Argument) (k : Known) → Suits vs (plain_of x) k → x ≡ one (plain_of x)
single vs (one p) k h = refl
single vs (array ps) None h = absurd h
single vs (array ps) (Some (whole e)) h = absurd (no_array of_integer vs h.sort)
single vs (array ps) (Some (truth e)) h = absurd (no_array of_truth vs h.sort)
single vs (array ps) (Some (subset u)) h = absurd (no_array of_set vs h.sort)
single vs (array ps) (Some (wholes es)) h = absurd h
single vs (array ps) (Some truths) h = absurd h
single vs (array ps) (Some (subsets us)) h = absurd h
single vs (array ps) (Some empty) h = absurd h

pub single_one : (vs : List Variable) (x : Argument) (bounds : List Known) → AllSuit vs (plain_of x ∷ []) bounds → x ≡ one (plain_of x)
single_one vs x [] u = absurd u
single_one vs x (k ∷ bounds) u = single vs x k u.0

pub single_two : (vs : List Variable) (x y : Argument) (bounds : List Known) → AllSuit vs (plain_of x ∷ plain_of y ∷ []) bounds → (x ≡ one (plain_of x)) × (y ≡ one (plain_of y))
single_two vs x y [] u = absurd u
single_two vs x y (k ∷ []) u = absurd (u.1)
single_two vs x y (k ∷ l ∷ bounds) u = (single vs x k u.0, single vs y l u.1.0)

-- ---- one child

module _ (k : NodeKind) (name : RowName) (row : row_of_one k ≡ Some name) (x : Argument) where
  pub one_may : (p : Program) → AreOperands p.vars k (plain_of x ∷ []) → MayGive p name (x ∷ [])
  one_may p o =
      subst (λ z. MayGive p name (z ∷ [])) (sym (single_one p.vars x o.bounds o.suit)) ((fits_one k name row (plain_of x)).may p tt o.bounds o.suit o.known)

  pub one_makes : (old new : Program) (out : Argument) → AreOperands old.vars k (plain_of x ∷ []) → Gives old new name (x ∷ []) (plain_of out) → Makes old new k (plain_of x ∷ []) (plain_of out)
  one_makes old new out o g =
      makes_by old new k name (plain_of x ∷ []) (one (plain_of x) ∷ []) (plain_of out) Always (fits_one k name row (plain_of x)) tt o
      (subst (λ z. Gives old new name (z ∷ []) (plain_of out)) (single_one old.vars x o.bounds o.suit) g)

-- ---- two children

module _ (k : NodeKind) (name : RowName) (row : row_of_two k ≡ Some name) (x y : Argument) where
  abbrev Both : List Plain
  Both = plain_of x ∷ plain_of y ∷ []

  inputs_same : (p : Program) → AreOperands p.vars k Both → inputs_of_two k x y ≡ inputs_of_two k (one (plain_of x)) (one (plain_of y))
  inputs_same p o = let s = single_two p.vars x y o.bounds o.suit in ap₂ (inputs_of_two k) s.0 s.1

  abbrev Divides : List Variable → Type 0
  Divides vs = HasDivisor k (ends_of vs (plain_of y))

  pub two_may : (p : Program) → AreOperands p.vars k Both → Divides p.vars → MayGive p name (inputs_of_two k x y)
  two_may p o c = subst (MayGive p name) (sym (inputs_same p o)) ((fits_two k name row (plain_of x) (plain_of y)).may p c o.bounds o.suit o.known)

  pub two_makes : (old new : Program) (out : Argument) → AreOperands old.vars k Both → Divides old.vars → Gives old new name (inputs_of_two k x y) (plain_of out) → Makes old new k Both (plain_of out)
  two_makes old new out o c g =
      makes_by old new k name Both (inputs_of_two k (one (plain_of x)) (one (plain_of y))) (plain_of out) Divides (fits_two k name row (plain_of x) (plain_of y)) c o
      (subst (λ is. Gives old new name is (plain_of out)) (inputs_same old o) g)
