-- Which values can be printed.
use Rattle.std.specs.Prelude.{ℕ, ◌≤◌, List, length, Bool, true, false, Option, Some, None}
use Rattle.std.specs.List.{AllByRecursion}
use Rattle.mz_value.specs.declared.value.ShapeBase.{ShapeBase}
use Rattle.mz_value.specs.declared.value.ShapeBase.TheVariants as base
use Rattle.mz_value.specs.Ranges.{Range, AreCanonical, AreInLimit}
use Rattle.mz_value.specs.Contents.{Content, bool, int, case, set, absent, text, array}
use Rattle.mz_value.specs.Shown.{Names, names_of, IsEnum, AreCases, IsShowable}
use Rattle.mz_operations.specs.Views.{items_in}
use Rattle.fz_items.specs.Forms.{Form}
use Rattle.soln_reader.specs.Values.{AreValues}

abbrev pub IfTrue : Bool → Type 0 → Type 0
IfTrue true P = P
IfTrue false P = Unit {0}

-- values

-- a set has the one list of ranges that it has in the code
abbrev pub IsSoundSet : Content → Type 0
IsSoundSet (set of rs) = AreCanonical rs × AreInLimit rs
IsSoundSet _ = Unit {0}

-- so has each set of a value
abbrev pub HasSoundSets : Content → Type 0
HasSoundSets (array index xs) = AllByRecursion IsSoundSet (items_in xs)
HasSoundSets (set of rs) = AreCanonical rs × AreInLimit rs
HasSoundSets _ = Unit {0}

-- an array has at most six dimensions
abbrev pub HasFewDims : Content → Type 0
HasFewDims (array index xs) = length index ≤ 6
HasFewDims _ = Unit {0}

-- A VALUE CAN BE PRINTED: of its enums' cases all are there
pub record CanPrint (names : Names) (x : Content) : Type 0 where
  pub few : HasFewDims x
  pub shown : HasSoundSets x → IsShowable names x

-- forms

-- a domain has numbers of cases alone
pub record HasCases (labels : List (List ℕ)) (domain : List Range) : Type 0 where
  pub canonical : AreCanonical domain
  pub limits : AreInLimit domain
  pub cases : AreCases labels domain

abbrev pub AreOfCases : Names → ℕ → List (List Range) → Type 0
AreOfCases names e domains = IsEnum names e × AllByRecursion (HasCases (names_of names e)) domains

abbrev pub HasCasesAlone : Names → ShapeBase → List (List Range) → Type 0
HasCasesAlone names (base.Enum e) domains = AreOfCases names e domains
HasCasesAlone names (base.SetEnum e) domains = AreOfCases names e domains
HasCasesAlone names base.Bool domains = Unit {0}
HasCasesAlone names base.Int domains = Unit {0}
HasCasesAlone names base.SetInt domains = Unit {0}

abbrev pub HasFewRanges : Option (List Range) → Type 0
HasFewRanges None = Unit {0}
HasFewRanges (Some index) = length index ≤ 6

-- A FORM WHOSE VALUES CAN BE PRINTED: its enum is there, its domains have cases alone, and it has at most six dimensions
pub record IsPrintable (names : Names) (f : Form) : Type 0 where
  pub cases : HasCasesAlone names f.base f.domains
  pub few : HasFewRanges f.index

abbrev pub ArePrintable : Names → List Form → Type 0
ArePrintable names fs = AllByRecursion (IsPrintable names) fs

-- the law: so can the values of such forms that lie in their domains
abbrev pub PrintsValues : Type 0
PrintsValues = (names : Names) (fs : List Form) (xs : List Content) → ArePrintable names fs → AreValues fs xs → AllByRecursion (CanPrint names) xs
