-- AN ASSIGNMENT AND CHOICES, by the values of parts: those of the variables by their numbers, and those of the choices by theirs.
use Rattle.std.specs.Prelude.{◌≡◌, ℕ, suc, List, [], ◌∷◌, Bool, true, false, Some}
use Rattle.std.specs.List.{flat_map}
use Rattle.mz_value.specs.Contents.{Content, contents}
use Rattle.mz_value.specs.Contents as values
use Rattle.mz_core.specs.declared.types.Base.{Base}
use Rattle.mz_core.specs.declared.types.Base.TheVariants as base
use Rattle.mz_arena.specs.Values.{Values}
use Rattle.mz_meaning.specs.Domains.{Domain, Domains, Fixed, Scalar, Places}
use Rattle.mz_meaning.specs.Walk.{Assignment, Declared}
use Rattle.mz_instance.specs.Parts.{Part, is_subset_sort, sort_of, parts_of, next, AllFit}
use Rattle.mz_instance.specs.Instance.{IsPart}
use Rattle.mz_instance.specs.Contents.{content_by, option_by}

-- ---- the parts of domains

abbrev pub part_of : Domain → Part
part_of d = record { sort = sort_of d.base; set = d.set }

abbrev pub domain_parts : Domain → List Part
domain_parts d = parts_of d.opt (part_of d)

abbrev pub all_parts : List Domain → List Part
all_parts ds = flat_map domain_parts ds

-- the number of the first part after those of these domains
abbrev pub after_domains : List Domain → ℕ → ℕ
after_domains [] k = k
after_domains (d ∷ ds) k = after_domains ds (next d.opt k)

-- a base that a variable, or a choice, may have
abbrev pub is_shape : Base → Bool
is_shape base.Bool = true
is_shape base.Int = true
is_shape (base.Enum e) = true
is_shape base.SetInt = true
is_shape (base.SetEnum e) = true
is_shape b = false

-- a domain that a variable, or a choice, may have: there is no option of a set
pub record IsShaped (d : Domain) : Type 0 where
  pub base : is_shape d.base ≡ true
  pub part : IsPart (part_of d)
  pub allowed : d.opt ≡ true → is_subset_sort (sort_of d.base) ≡ false

abbrev pub AreShaped : List Domain → Type 0
AreShaped [] = Unit {0}
AreShaped (d ∷ ds) = IsShaped d × AreShaped ds

-- ---- one cell, whose first part has the number k

abbrev pub content_at : Bool → Base → ℕ → Values → Content
content_at true b k x = option_by b (x.number k) (x.number (suc k)) (x.set (suc k))
content_at false b k x = content_by b (x.number k) (x.set k)

abbrev pub cell_content : Domain → ℕ → Values → Content
cell_content d k x = content_at d.opt d.base k x

abbrev pub cell_contents : List Domain → ℕ → Values → List Content
cell_contents [] k x = []
cell_contents (d ∷ ds) k x = cell_content d k x ∷ cell_contents ds (next d.opt k) x

-- ---- names

-- a name of the model, with its domains
pub record Named : Type 0 where
  pub slot : ℕ
  pub domains : Domains

abbrev pub named : Declared → Named
named x = record { slot = x.slot; domains = x.domains }

abbrev pub domains_in : Domains → List Domain
domains_in Fixed = []
domains_in (Scalar d) = d ∷ []
domains_in (Places ix ds) = ds

-- the domains of all cells, in order
abbrev pub model_domains : List Named → List Domain
model_domains ns = flat_map (λ n. domains_in n.domains) ns

-- a variable has the value of its parts; nothing is asked of a par name
abbrev pub TellsName : ℕ → Domains → ℕ → Values → Assignment → Type 0
TellsName slot Fixed k x a = Unit {0}
TellsName slot (Scalar d) k x a = a slot ≡ Some (cell_content d k x)
TellsName slot (Places ix ds) k x a = a slot ≡ Some (values.array ix (contents (cell_contents ds k x)))

-- THE ASSIGNMENT HAS THE VALUES OF THE PARTS, the first of which has the number k
abbrev pub Tells : List Named → ℕ → Values → Assignment → Type 0
Tells [] k x a = Unit {0}
Tells (n ∷ ns) k x a = TellsName n.slot n.domains k x a × Tells ns (after_domains (domains_in n.domains) k) x a

-- THE CHOICES HAVE THE VALUES OF THE PARTS: from the j-th choice on, whose first part has the number k
abbrev pub Chooses : List Domain → ℕ → ℕ → Values → (ℕ → Content) → Type 0
Chooses [] j k y c = Unit {0}
Chooses (d ∷ ds) j k y c = (c j ≡ cell_content d k y) × Chooses ds (suc j) (next d.opt k) y c

-- the values of the parts lie in these domains
abbrev pub Fit : List Domain → Values → Type 0
Fit ds x = AllFit (all_parts ds) 0 x
