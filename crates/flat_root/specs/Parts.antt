-- The parts of conjunctions.
use Rattle.std.specs.Prelude.{◌≡◌, ◌⊎◌, ℕ, zero, suc, ◌+◌, ◌*◌, ◌<◌, nat_eq, List, [], ◌∷◌, ◌++◌, length, Bool, true, false, ◌||◌, Some, slice_get}
use Rattle.std.specs.List.{AllByRecursion}
use Rattle.mz_arena.specs.declared.node.NodeKind.{NodeKind}
use Rattle.mz_arena.specs.declared.node.NodeKind.TheVariants as kinds
use Rattle.mz_arena.specs.Entries.{Entry}
use Rattle.mz_arena.specs.Values as terms
use Rattle.flat_root.specs.Keeps.{AllTrue}
use Rattle.flat_root.specs.Marks.{IsIn}
use Rattle.flat_root.specs.Totals.{AreRootParts}

abbrev pub is_and : NodeKind → Bool
is_and kinds.And = true
is_and _ = false

-- no two are one id
abbrev pub AreApart : List ℕ → Type 0
AreApart [] = Unit {0}
AreApart (i ∷ is) = (IsIn i is → ⊥) × AreApart is

-- no conjunction
abbrev pub IsLeaf : List Entry → ℕ → Type 0
IsLeaf es id = (e : Entry) → slice_get es id ≡ Some e → is_and e.node.kind ≡ false

-- Boolean nodes that are true exactly where some are, each once, and none of them a conjunction
pub record AreSplit (es : List Entry) (ids parts : List ℕ) : Type 0 where
  pub each : AreRootParts es parts
  pub once : AreApart parts
  pub leaves : AllByRecursion (IsLeaf es) parts
  pub to : (v : terms.Values) → AllTrue es ids v → AllTrue es parts v
  pub from : (v : terms.Values) → AllTrue es parts v → AllTrue es ids v

-- such parts of one node, after others
pub record AddsParts (es : List Entry) (id : ℕ) (before after : List ℕ) : Type 0 where
  pub more : List ℕ
  pub split : AreSplit es (id ∷ []) more
  pub items : after ≡ before ++ more

-- such parts of each node, one node after the other: what is a part of two nodes stands there twice
pub data AreSplitEach (es : List Entry) : List ℕ → List ℕ → Type 0 where
  of_none : AreSplitEach es [] []
  of_more : {ids : List ℕ} {parts : List ℕ} {id : ℕ} {after : List ℕ} → AreSplitEach es ids parts → AddsParts es id parts after → AreSplitEach es (ids ++ id ∷ []) after

-- the parts of what says where roots have values, and then those of each root
pub record AreRootsSplit (es : List Entry) (defined terms parts : List ℕ) : Type 0 where
  pub first : List ℕ
  pub more : List ℕ
  pub values : AreSplit es defined first
  pub roots : AreSplitEach es terms more
  pub items : parts ≡ first ++ more

-- ---- one after the other

-- the ids that were met before, and one more
abbrev pub HasOneMore : (ℕ → Bool) → (ℕ → Bool) → ℕ → Type 0
HasOneMore seen new id = (k : ℕ) → new k ≡ (nat_eq k id || seen k)

-- an id that is still to be looked at, or was
abbrev pub IsKnown : List ℕ → (ℕ → Bool) → ℕ → Type 0
IsKnown stack seen k = IsIn k stack ⊎ (seen k ≡ true)

-- a conjunction whose parts are known
pub record IsParted (es : List Entry) (stack : List ℕ) (seen : ℕ → Bool) (k : ℕ) : Type 0 where
  pub entry : Entry
  pub is : slice_get es k ≡ Some entry
  pub kind : is_and entry.node.kind ≡ true
  pub first : IsKnown stack seen entry.node.a
  pub second : IsKnown stack seen entry.node.b

-- what is still to be looked at, what was, and the parts so far
pub record SplitSoFar (es : List Entry) (ids stack : List ℕ) (seen : ℕ → Bool) (parts : List ℕ) : Type 0 where
  pub waiting : AreRootParts es stack
  pub each : AreRootParts es parts
  pub once : AreApart parts
  pub leaves : AllByRecursion (IsLeaf es) parts
  pub met : (k : ℕ) → IsIn k parts → seen k ≡ true
  pub to : (v : terms.Values) → AllTrue es ids v → AllTrue es stack v × AllTrue es parts v
  pub known : (k : ℕ) → IsIn k ids → IsKnown stack seen k
  pub handled : (k : ℕ) → seen k ≡ true → IsIn k parts ⊎ IsParted es stack seen k

abbrev pub left_of : Bool → ℕ
left_of true = 0
left_of false = 1

-- how many ids below a number weren't looked at
abbrev pub unseen : ℕ → (ℕ → Bool) → ℕ
unseen zero seen = 0
unseen (suc n) seen = left_of (seen n) + unseen n seen

-- what is left to be done
abbrev pub effort : List Entry → List ℕ → (ℕ → Bool) → ℕ
effort es stack seen = 2 * unseen (length es) seen + length stack

-- an id was looked at, which stood last on the stack
pub record Visits (es : List Entry) (id : ℕ) (rest stack : List ℕ) (seen new : ℕ → Bool) (parts more : List ℕ) : Type 0 where
  pub so_far : (ids : List ℕ) → SplitSoFar es ids (rest ++ id ∷ []) seen parts → SplitSoFar es ids stack new more
  pub less : effort es stack new < effort es (rest ++ id ∷ []) seen

-- from the last to the first
abbrev pub turned : List ℕ → List ℕ
turned [] = []
turned (i ∷ is) = turned is ++ i ∷ []
