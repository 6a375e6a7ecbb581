-- CHOICES: their parts, what the values of these stand for, and the domains that a choice may be taken from. The parts of choices are numbered from 0 in the order of the choices, and the number of a part is the `b` of its node.
use Rattle.std.specs.Prelude.{◌≡◌, ◌≢◌, ℕ, suc, List, [], ◌∷◌, Bool, true, false}
use Rattle.std.specs.List.{flat_map}
use Rattle.mz_value.specs.Ranges.{AreCanonical, AreInLimit}
use Rattle.mz_value.specs.Contents.{Content}
use Rattle.mz_core.specs.declared.types.Base.{Base}
use Rattle.mz_core.specs.declared.types.Base.TheVariants as base
use Rattle.mz_arena.specs.Values.{Values}
use Rattle.mz_instance.specs.Parts.{Part, Truth, is_subset_sort, sort_of, truths, parts_of, next}
use Rattle.mz_instance.specs.Contents.{content_by, option_by}
use Rattle.mz_meaning.specs.Domains.{Domain}

-- ---- parts

abbrev pub value_part : Domain → Part
value_part d = record { sort = sort_of d.base; set = d.set }

abbrev pub domain_parts : Domain → List Part
domain_parts d = parts_of d.opt (value_part d)

abbrev pub all_parts : List Domain → List Part
all_parts ds = flat_map domain_parts ds

-- ---- what the values of parts stand for

-- the value of a choice, where its first part has the number k
abbrev pub content_at : Bool → Base → ℕ → Values → Content
content_at true b k y = option_by b (y.number k) (y.number (suc k)) (y.set (suc k))
content_at false b k y = content_by b (y.number k) (y.set k)

abbrev pub cell_content : Domain → ℕ → Values → Content
cell_content d k y = content_at d.opt d.base k y

-- THE CHOICES HAVE THE VALUES OF THE PARTS: from the j-th choice on, whose parts are numbered from k on
abbrev pub Chooses : List Domain → ℕ → ℕ → Values → (ℕ → Content) → Type 0
Chooses [] j k y c = Unit {0}
Chooses (d ∷ ds) j k y c = (c j ≡ cell_content d k y) × Chooses ds (suc j) (next d.opt k) y c

-- ---- which domains a choice may have

-- what a single value may be
abbrev pub is_shape : Base → Bool
is_shape base.Bool = true
is_shape base.Int = true
is_shape (base.Enum e) = true
is_shape base.SetInt = true
is_shape (base.SetEnum e) = true
is_shape b = false

-- A CHOICE MAY BE TAKEN FROM IT: a truth value is false or true, no option is of a set, the set is canonical and lies in the limit, and there is some value
pub record IsChoosable (d : Domain) : Type 0 where
  pub base : is_shape d.base ≡ true
  pub truth : sort_of d.base ≡ Truth → d.set ≡ truths
  pub allowed : d.opt ≡ true → is_subset_sort (sort_of d.base) ≡ false
  pub canonical : AreCanonical d.set
  pub limited : AreInLimit d.set
  pub some : is_subset_sort (sort_of d.base) ≡ false → d.set ≢ []

abbrev pub AreChoosable : List Domain → Type 0
AreChoosable [] = Unit {0}
AreChoosable (d ∷ ds) = IsChoosable d × AreChoosable ds
