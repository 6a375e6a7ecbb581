-- What was put into a block, taken out again.
use Rattle.std.proofs.Common.{◌≡◌, ℕ, zero, suc, ◌<◌, ◌≤◌, List, [], ◌∷◌, ◌++◌, length, map, get_or, set, true, false, refl, sym, ap, ◌∙◌, arith, Option, Some, None, Result, Ok, Err}
use Rattle.std.specs.Prelude.{slice_get, slice_set, OnOk}
use Rattle.fz_items.specs.Gives.{Puts}
use Rattle.fz_items.specs.declared.miss.Miss.{Miss}
use Rattle.std.specs.Option.{option_map}
use Rattle.std.proofs.lemmas.List.{map-set}
use Rattle.std.proofs.lemmas.Bool.{false≢true}
use Rattle.std.proofs.lemmas.Option.{slice_get-map, slice_get-get_or}
use Rattle.fz_items.specs.declared.outputs.Part.{Part}
use Rattle.fz_items.specs.declared.outputs.Part.TheVariants.{Occurs, Value}
use Rattle.fz_items.specs.declared.outputs.Slot.{Slot}
use Rattle.fz_items.specs.Items.{choose, Elements, ◌>>=◌}
use Rattle.fz_items.specs.Forms.{Form}
use Rattle.soln_reader.specs.Blocks.{Given, Block, put_in, put, given_in}
use Rattle.soln_reader.specs.StepsUndo.{cleared_in, cleared, undone, Undo, Restores}

-- one slot

same_given : (g h : Given) → Some g ≡ Some h → g ≡ h
same_given g h e = cc

none_given : (h : Given) → None ≡ Some h → ⊥
none_given h e = cc

same_list : (gs hs : List Given) → Some gs ≡ Some hs → gs ≡ hs
same_list gs hs e = cc

none_list : (hs : List Given) → None ≡ Some hs → ⊥
none_list hs e = cc

-- what was put under a name is cleared again
clears : (part : Part) (e : Elements) (g h : Given) → put_in part e g ≡ Some h → cleared_in part h ≡ g
unfolding put_in cleared_in
clears Occurs e g h is = go g.occurs refl is
  where
    go : (o : Option Elements) → g.occurs ≡ o → put_in Occurs e (record { occurs = o; value = g.value }) ≡ Some h → cleared_in Occurs h ≡ g
    go None at p = ap (cleared_in Occurs) (sym (same_given _ h p)) ∙ ap (λ q. record { occurs = q; value = g.value }) (sym at)
    go (Some x) at p = absurd (none_given h p)
clears Value e g h is = go g.value refl is
  where
    go : (o : Option Elements) → g.value ≡ o → put_in Value e (record { occurs = g.occurs; value = o }) ≡ Some h → cleared_in Value h ≡ g
    go None at p = ap (cleared_in Value) (sym (same_given _ h p)) ∙ ap (λ q. record { occurs = g.occurs; value = q }) (sym at)
    go (Some x) at p = absurd (none_given h p)

-- the same at a place
put_by : Part → Elements → ℕ → List Given → Option (List Given)
put_by part e k gs = slice_get gs k >>= λ g. put_in part e g >>= λ h. Some (slice_set gs k h)

cleared_by : Part → ℕ → List Given → List Given
cleared_by part k gs = choose (slice_get gs k) (λ g. slice_set gs k (cleared_in part g)) gs

set_here : (gs : List Given) (k : ℕ) (g h : Given) → slice_get gs k ≡ Some g → slice_get (slice_set gs k h) k ≡ Some h
set_here [] k g h is = absurd (none_given g is)
set_here (x ∷ gs) zero g h is = refl
set_here (x ∷ gs) (suc k) g h is = set_here gs k g h is

set_back : (gs : List Given) (k : ℕ) (g h : Given) → slice_get gs k ≡ Some g → slice_set (slice_set gs k h) k g ≡ gs
set_back [] k g h is = absurd (none_given g is)
set_back (x ∷ gs) zero g h is = ap (λ y. y ∷ gs) (sym (same_given x g is))
set_back (x ∷ gs) (suc k) g h is = ap (λ ys. x ∷ ys) (set_back gs k g h is)

put_back : (part : Part) (e : Elements) (k : ℕ) (gs hs : List Given) (g h : Given) → slice_get gs k ≡ Some g → put_in part e g ≡ Some h → slice_set gs k h ≡ hs → cleared_by part k hs ≡ gs
unfolding cleared_by
put_back part e k gs hs g h at fits is =
    ap (cleared_by part k) (sym is)
    ∙ ap (λ o. choose o (λ x. slice_set (slice_set gs k h) k (cleared_in part x)) (slice_set gs k h)) (set_here gs k g h at)
    ∙ ap (slice_set (slice_set gs k h) k) (clears part e g h fits) ∙ set_back gs k g h at

cleared_put : (part : Part) (e : Elements) (k : ℕ) (gs hs : List Given) → put_by part e k gs ≡ Some hs → cleared_by part k hs ≡ gs
unfolding put_by
cleared_put part e k gs hs is = go (slice_get gs k) refl is
  where
    go : (o : Option Given) → slice_get gs k ≡ o → (o >>= λ g. put_in part e g >>= λ h. Some (slice_set gs k h)) ≡ Some hs → cleared_by part k hs ≡ gs
    go None at p = absurd (none_list hs p)
    go (Some g) at p = more g at (put_in part e g) refl p
      where
        more : (g : Given) → slice_get gs k ≡ Some g → (q : Option Given) → put_in part e g ≡ q → (q >>= λ h. Some (slice_set gs k h)) ≡ Some hs → cleared_by part k hs ≡ gs
        more g at None fits p = absurd (none_list hs p)
        more g at (Some h) fits p = put_back part e k gs hs g h at fits (same_list _ hs p)

pub put_undo : (fs : List Form) (s : Slot) (e : Elements) (b : Block) (hs : List Given) → put s e (given_in fs b) ≡ Some hs → Undo (Some s) b (Some hs)
unfolding put cleared put_by cleared_by
put_undo fs s e None hs is = tt
put_undo fs s e (Some gs) hs is = cleared_put s.part e s.shape gs hs is

pub put_undoes : (fs : List Form) (s : Slot) (e : Elements) (b new : Block) (r : Result (Unit {0}) Miss) → Puts b new r (put s e (given_in fs b)) → OnOk r (Undo (Some s) b new)
put_undoes fs s e b None (Ok u) p = absurd (false≢true p.1)
put_undoes fs s e b (Some hs) (Ok u) p = put_undo fs s e b hs p.0
put_undoes fs s e b new (Err m) p = tt

-- several slots

undone_more : (ss : List Slot) (s : Slot) (gs : List Given) → undone (ss ++ s ∷ []) gs ≡ undone ss (cleared s gs)
unfolding undone
undone_more [] s gs = refl
undone_more (t ∷ ss) s gs = ap (cleared t) (undone_more ss s gs)

pub undone_last : (all ss : List Slot) (s : Slot) (gs before : List Given) → all ≡ ss ++ s ∷ [] → undone all gs ≡ before → undone ss (cleared s gs) ≡ before
undone_last all ss s gs before is e = sym (undone_more ss s gs) ∙ ap (λ ts. undone ts gs) (sym is) ∙ e

pub none_there : {X : Type 0} (xs : List X) → length xs ≤ 0 → xs ≡ []
none_there [] h = refl
none_there (x ∷ xs) h = absurd (omega arith)

pub undone_none : (all : List Slot) (gs before : List Given) → all ≡ [] → undone all gs ≡ before → gs ≡ before
unfolding undone
undone_none all gs before is e = ap (λ ts. undone ts gs) (sym is) ∙ e

pub restores_none : (before : Block) → Restores [] before before
unfolding undone
restores_none None = tt
restores_none (Some gs) = refl

pub restores_more : (ss : List Slot) (s : Slot) (before mid new : Block) → Restores ss before mid → Undo (Some s) mid new → Restores (ss ++ s ∷ []) before new
restores_more ss s None mid new r u = tt
restores_more ss s (Some gs) None new r u = absurd r
restores_more ss s (Some gs) (Some ms) None r u = absurd u
restores_more ss s (Some gs) (Some ms) (Some ns) r u = undone_more ss s ns ∙ ap (undone ss) u ∙ r

-- a slot at its place in the code's list
pub clears_at : {X : Type 0} (view : X → Given) (s : Slot) (gs : List X) (g new : X) → s.shape < length gs → g ≡ get_or gs s.shape g → view new ≡ cleared_in s.part (view g) → map view (set gs s.shape new) ≡ cleared s (map view gs)
unfolding cleared
clears_at view s gs g new below is fits =
    let got : slice_get (map view gs) s.shape ≡ Some (view g) = slice_get-map view gs s.shape ∙ ap (option_map view) (slice_get-get_or gs s.shape g below ∙ ap Some (sym is)) in
    map-set view gs s.shape new ∙ rw got (ap (set (map view gs) s.shape) fits)
