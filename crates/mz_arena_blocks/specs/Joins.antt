-- What elements have together, from what two have together.
use Rattle.std.specs.Prelude.{◌≡◌, List, [], ◌∷◌, Option, Some, None}

-- what the elements of a list have together with one that comes before them
abbrev pub join_from : {S : Type 0} → (S → S → S) → S → List S → S
join_from joined acc [] = acc
join_from joined acc (x ∷ xs) = join_from joined (joined acc x) xs

-- what the elements of a list have together; the empty list has none
abbrev pub join_of_all : {S : Type 0} → (S → S → S) → List S → Option S
join_of_all joined [] = None
join_of_all joined (x ∷ xs) = Some (join_from joined x xs)

-- each element is as is asked
abbrev pub AllFit : {S : Type 0} → (S → Type 0) → List S → Type 0
AllFit fits [] = Unit {0}
AllFit fits (x ∷ xs) = fits x × AllFit fits xs

-- what is asked of elements, and the order in which they are joined doesn't matter
pub record AreLaws {S : Type 0} (fits : S → Type 0) (joined : S → S → S) : Type 0 where
  pub fit : (a b : S) → fits a → fits b → fits (joined a b)
  pub associative : (a b c : S) → fits a → fits b → fits c → joined (joined a b) c ≡ joined a (joined b c)
