-- TIES: how a run stands to a blank run of the same, which has outlines where the other has cells.
use Rattle.std.specs.Prelude.{◌≡◌, ℕ, Bool, true, false, List, [], ◌∷◌, Option, Some, None, slice_get}
use Rattle.mz_base.specs.declared.fault.Span.{Span}
use Rattle.mz_base.specs.declared.kind.Kind.{Kind}
use Rattle.mz_base.specs.declared.kind.Kind.TheVariants as kind
use Rattle.mz_core.specs.Program.{Function}
use Rattle.mz_core.specs.Tree.{Tree, Step, Gen, Decl, DeclaredType, Item, declares, constrains}
use Rattle.mz_meaning.specs.Runs.{Run, State, Answer, Out, Stopped}
use Rattle.mz_meaning.specs.Cells.{Mode, Blank, Given, Env}
use Rattle.mz_meaning.specs.Contexts.{Context, Untested, Other}
use Rattle.mz_meaning.specs.Chains.{Operator, Innermost}
use Rattle.mz_meaning.specs.Forms.{World, Eval}
use Rattle.mz_meaning.specs.Comprehensions.{Presence, Made, Rest}
use Rattle.mz_meaning.specs.Solutions.{Each}
use Rattle.mz_meaning_laws.specs.Outlines.{outline, outline_presence, outline_made, outline_state, HasOutlines}
use Rattle.mz_meaning_laws.specs.FreeLocals.{free_in, free_if}

-- ---- contexts

-- The blank run has the same contexts; or it tests none; or it allows no free local anywhere; or there is no free local, and contexts say nothing
pub data Tie : Type 0 where
  Equal : Tie
  Untesting : Tie
  Strict : Tie
  Without : Tie

abbrev pub TiesTo : Tie → Context → Context → Type 0
TiesTo Equal c d = d ≡ c
TiesTo Untesting c d = d ≡ Untested
TiesTo Strict c d = d ≡ Other
TiesTo Without c d = Unit {0}

pub record Ties (t : Tie) (c d : Context) : Type 0 where
  pub is : TiesTo t c d

-- ---- where the two may part: at a free local in a wrong place

abbrev pub is_local_kind : Kind → Bool
is_local_kind kind.FreeInContext = true
is_local_kind _ = false

abbrev pub stops_at_local : {A : Type 0} → Answer A → Bool
stops_at_local (Out x s) = false
stops_at_local (Stopped f) = is_local_kind f.kind

-- with equal contexts never; where the blank run tests none, the run may stop there; where it allows none, the blank run may
abbrev pub may_part : {A B : Type 0} → Tie → Answer A → Answer B → Bool
may_part Equal a b = false
may_part Untesting a b = stops_at_local a
may_part Strict a b = stops_at_local b
may_part Without a b = false

-- ---- choices: where there is no free local, or none is allowed, none is taken

abbrev pub TakesNone : {A : Type 0} → State → Answer A → Type 0
TakesNone s (Out x q) = q.taken ≡ s.taken
TakesNone s (Stopped f) = Unit {0}

abbrev pub Takes : {A : Type 0} → Tie → State → Answer A → Type 0
Takes Equal s a = Unit {0}
Takes Untesting s a = Unit {0}
Takes Strict s a = TakesNone s a
Takes Without s a = TakesNone s a

-- ---- runs

abbrev pub outline_answer : {A B : Type 0} → Bool → (A → B) → Answer A → Answer B
outline_answer n f (Out x s) = Out (f x) (outline_state n s)
outline_answer n f (Stopped g) = Stopped g

abbrev pub IsTied : {A B : Type 0} → Tie → Bool → (A → B) → State → Answer A → Answer B → Type 0
IsTied t n f s a b = may_part t a b ≡ false → (b ≡ outline_answer n f a) × Takes t s a

-- the blank run gives the outline of what the run gives, unless they part
pub record HasOutline {A B : Type 0} (t : Tie) (n : Bool) (f : A → B) (m : Run A) (blank : Run B) : Type 0 where
  pub by : (s : State) → IsTied t n f s (m s) (blank (outline_state n s))

-- what follows for one element of a generator
pub record RestHasOutline (t : Tie) (n : Bool) (rest blank : Rest) : Type 0 where
  pub by : {env env' : Env} → HasOutlines env env' → (o : Presence) (made : Made) → HasOutline t n outline_made (rest env o made) (blank env' (outline_presence o) (outline_made made))

-- a blank run has notes where the run has some
abbrev pub HasNotes : Bool → Mode → Type 0
HasNotes false m = Unit {0}
HasNotes true (Blank false) = ⊥
HasNotes true (Blank true) = Unit {0}
HasNotes true (Given f) = Unit {0}

-- ---- trees: where there is no free local, the places of an expression's free locals are none

abbrev pub Allows : Tie → List Span → Type 0
Allows Equal xs = Unit {0}
Allows Untesting xs = Unit {0}
Allows Strict xs = Unit {0}
Allows Without xs = xs ≡ []

abbrev pub AllowsTree : Tie → Tree → Type 0
AllowsTree t e = Allows t (free_in e)

abbrev pub AllowsIf : Tie → Option Tree → Type 0
AllowsIf t e = Allows t (free_if e)

abbrev pub AllowsStep : Tie → Step → Type 0
AllowsStep t s = Allows t (free_in s.operand)

abbrev pub AllowsOperator : Tie → Operator → Type 0
AllowsOperator t o = Allows t (free_in o.step.operand)

pub record AllowsInnermost (t : Tie) (f : Innermost) : Type 0 where
  pub head : Allows t (free_in f.first)
  pub tail : Each (AllowsOperator t) f.operators

pub record AllowsGen (t : Tie) (g : Gen) : Type 0 where
  pub sets : Allows t (free_in g.set)
  pub cond : Allows t (free_if g.cond)

pub record AllowsBranch (t : Tie) (b : Tree × Tree) : Type 0 where
  pub cond : Allows t (free_in b.0)
  pub branch : Allows t (free_in b.1)

-- a type's sets
pub record AllowsType (t : Tie) (ty : DeclaredType) : Type 0 where
  pub index : Each (AllowsIf t) ty.index
  pub set : Allows t (free_if ty.set)

-- a local declaration without a value is a free local
abbrev pub AllowsValue : Tie → Span → Option Tree → Type 0
AllowsValue t at None = Allows t (at ∷ [])
AllowsValue t at (Some e) = Allows t (free_in e)

pub record AllowsLocal (t : Tie) (d : Decl) : Type 0 where
  pub ty : AllowsType t d.ty
  pub value : AllowsValue t d.span d.value

abbrev pub AllowsItem : Tie → Item → Type 0
AllowsItem t (declares d) = AllowsLocal t d
AllowsItem t (constrains e) = Allows t (free_in e)

-- a top-level one, or a parameter, may lack a value
pub record AllowsDecl (t : Tie) (d : Decl) : Type 0 where
  pub ty : AllowsType t d.ty
  pub value : Allows t (free_if d.value)

pub record AllowsFunction (t : Tie) (f : Function) : Type 0 where
  pub params : Each (AllowsDecl t) f.params
  pub result : AllowsType t f.result
  pub body : Allows t (free_in f.body)

abbrev pub AllowsFound : Tie → Option Function → Type 0
AllowsFound t None = Unit {0}
AllowsFound t (Some f) = AllowsFunction t f

-- WHAT EVALUATES PARTS in a world, and in the same world in a blank run
pub record EvalHasOutline (t : Tie) (n : Bool) (w : World) (top : Env) (go blank : Eval) : Type 0 where
  pub notes : HasNotes n w.mode
  pub tops : HasOutlines w.top top
  pub functions : (k : ℕ) → AllowsFound t (slice_get w.functions k)
  pub by : {c d : Context} → Ties t c d → (e : Tree) → Allows t (free_in e) → {env : Env} {env' : Env} → HasOutlines env env' → HasOutline t n outline (go c e env) (blank d e env')
