-- WHAT DOESN'T DEPEND ON THE ASSIGNMENT: the words of the law.
use Rattle.std.specs.Prelude.{◌≡◌, ℕ, ℤ, Bool, true, false, List, [], ◌∷◌, Option}
use Rattle.mz_value.specs.Contents.{Content}
use Rattle.mz_core.specs.declared.types.Coercion.{Coercion}
use Rattle.mz_core.specs.declared.types.Coercion.TheVariants as coercion
use Rattle.mz_core.specs.Coercions.{PathLink}
use Rattle.mz_core.specs.Program.{PlainProgram}
use Rattle.mz_core.specs.Tree.{Tree, type_of, inner_tree, root_coercions}
use Rattle.mz_meaning.specs.Runs.{Run, State, Answer, Out, Stopped, start}
use Rattle.mz_meaning.specs.Cells.{Cell, Par, Given, Env}
use Rattle.mz_meaning.specs.Contexts.{Positive}
use Rattle.mz_meaning.specs.Forms.{World}
use Rattle.mz_meaning.specs.Walk.{Limits, Assignment, Walked, walk}
use Rattle.mz_meaning.specs.Solutions.{Each, IsInside, MatchesValue, IsMet, AreLegalFrom, Aims}
use Rattle.mz_meaning_laws.specs.Outlines.{outline, outline_walked}
use Rattle.mz_meaning_laws.specs.Ties.{is_local_kind}

-- ---- TWO RUNS WITH VALUES

-- two cells with the same bounds, and where they are par with the same value
abbrev pub AreAlike : Cell → Cell → Type 0
AreAlike c d = outline c ≡ outline d

pub record EnvsAreAlike (env other : Env) : Type 0 where
  pub at : (k : ℕ) → AreAlike (env k) (other k)

-- the same fault; or the same work, weight and domains of choices, and in this view the same result
abbrev pub AreSameAnswers : {A B : Type 0} → (A → B) → Answer A → Answer A → Type 0
AreSameAnswers f (Out x s) (Out y t) = (f x ≡ f y) × (s ≡ t)
AreSameAnswers f (Out x s) (Stopped g) = ⊥
AreSameAnswers f (Stopped g) (Out y t) = ⊥
AreSameAnswers f (Stopped g) (Stopped h) = g ≡ h

pub record AreSameRuns {A B : Type 0} (f : A → B) (m other : Run A) : Type 0 where
  pub by : (s : State) → AreSameAnswers f (m s) (other s)

-- the same world with other cells of top-level names, and other choices
abbrev pub given_world : World → Env → (ℕ → Content) → World
given_world w top f = record { functions = w.functions; cases = w.cases; texts = w.texts; budget = w.budget; int_range = w.int_range; top = top; mode = Given f }

-- ---- THE RUN WITHOUT VALUES, AND A RUN WITH THEM

-- where the run without values tests no context: both give the same, but that the run with values may stop at a free local in a wrong place where the other goes on or stops later
abbrev pub FitsUntested : {A B : Type 0} → (A → B) → Answer B → Answer A → Type 0
FitsUntested f (Out y t) (Out x s) = (y ≡ f x) × (t.work ≡ s.work)
FitsUntested f (Out y t) (Stopped g) = is_local_kind g.kind ≡ true
FitsUntested f (Stopped h) (Out x s) = ⊥
FitsUntested f (Stopped h) (Stopped g) = is_local_kind g.kind ≡ false → h ≡ g

-- where the run without values allows no free local: if it goes through, so does the other, with the same work and no choice
abbrev pub FitsStrict : {A B : Type 0} → (A → B) → State → Answer B → Answer A → Type 0
FitsStrict f s (Out y t) (Out x q) = (y ≡ f x) × (t.work ≡ q.work) × (q.taken ≡ s.taken)
FitsStrict f s (Out y t) (Stopped g) = ⊥
FitsStrict f s (Stopped h) (Out x q) = is_local_kind h.kind ≡ true
FitsStrict f s (Stopped h) (Stopped g) = is_local_kind h.kind ≡ false → h ≡ g

-- ---- SOLUTIONS, over what one blank run gives: its domains, and the domains of the choices that it notes

pub record SolvesOver (l : Limits) (p : PlainProgram) (shown : Walked) (noted : State) (a : Assignment) (n : Option ℤ) : Type 0 where
  pub choices : ℕ → Content
  pub out : Walked
  pub runs : walk Positive l (Given choices) a p start ≡ Out out noted
  pub is : outline_walked out ≡ shown
  pub inside : Each (IsInside a) shown.names
  pub legal : AreLegalFrom 0 choices noted.taken
  pub declared : Each (MatchesValue a) out.names
  pub constraints : Each IsMet out.constraints
  pub objective : Aims out.objective n

-- ---- MODELS WITHOUT FREE LOCALS, over what the run without values gives

-- a walk with values goes through, gives this with this work, and takes no choice
pub record RunsTo (l : Limits) (p : PlainProgram) (shown : Walked) (work : ℕ) (f : ℕ → Content) (a : Assignment) : Type 0 where
  pub out : Walked
  pub end : State
  pub runs : walk Positive l (Given f) a p start ≡ Out out end
  pub is : outline_walked out ≡ shown
  pub works : end.work ≡ work
  pub none : end.taken ≡ []

-- a solution under any choices, with the domains of the run without values
pub record SolvesPlainly (l : Limits) (p : PlainProgram) (shown : Walked) (f : ℕ → Content) (a : Assignment) (n : Option ℤ) : Type 0 where
  pub out : Walked
  pub end : State
  pub runs : walk Positive l (Given f) a p start ≡ Out out end
  pub is : outline_walked out ≡ shown
  pub inside : Each (IsInside a) shown.names
  pub declared : Each (MatchesValue a) out.names
  pub constraints : Each IsMet out.constraints
  pub objective : Aims out.objective n

-- ---- PAR EXPRESSIONS: a par node, under coercions that keep it par

abbrev pub keeps_par : Coercion → Bool
keeps_par coercion.ToVar = false
keeps_par k = true

abbrev pub AllKeepPar : List PathLink → Type 0
AllKeepPar [] = Unit {0}
AllKeepPar (l ∷ ls) = (keeps_par l.0 ≡ true) × AllKeepPar ls

pub record IsParTree (e : Tree) : Type 0 where
  pub node : (type_of (inner_tree e)).var ≡ false
  pub links : AllKeepPar (root_coercions e)

-- an evaluation gives a par cell with this value, with this work
pub record GivesPar (m : Answer Cell) (v : Option Content) (work : ℕ) : Type 0 where
  pub end : State
  pub is : m ≡ Out (Par v) end
  pub works : end.work ≡ work
