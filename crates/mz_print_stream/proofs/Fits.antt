-- What a reader holds fits its forms, which the printer takes, and so do the values that it gives.
use Rattle.std.proofs.Common.{◌≡◌, List, ℕ, Bool, ap, sym, subst}
use Rattle.mz_value.specs.declared.value.Shape.{Shape}
use Rattle.mz_value.specs.Contents.{Content}
use Rattle.fz_items.specs.Forms.{Form, forms}
use Rattle.soln_reader.specs.Holding.{Holding, nothing_held}
use Rattle.soln_reader.specs.Stream.{Event, block}
use Rattle.soln_reader.specs.Reader.{State, fed, GivesEvent, Needs, Ends}
use Rattle.soln_reader.specs.Values.{BlockFits}
use Rattle.soln_reader.specs.Views.{state}
use Rattle.soln_reader.proofs.Values.{begins_fit, fed_fits, gives_values, needed_fits}
use Rattle.mz_print_stream.specs.Printing.{AreTaken}
use Rattle.mz_print_stream.specs.StepsDrain.{IsReady}

pub block_taken : (takes : List Form → Type 0) (ended : Bool) (s u : State) (xs : List Content) → IsReady takes s → GivesEvent ended s (block xs) u → AreTaken takes xs
block_taken takes ended s u xs r g = record { forms = s.forms; taken = r.taken; fit = (gives_values ended s u (block xs) r.fits g).0 }

pub ready_event : (takes : List Form → Type 0) (ended : Bool) (s u : State) (e : Event) → IsReady takes s → GivesEvent ended s e u → IsReady takes u
ready_event takes ended s u e r g = record { taken = subst takes (sym (ap (λ t. t.forms) g.after)) r.taken; fits = (gives_values ended s u e r.fits g).1 }

pub ready_need : (takes : List Form → Type 0) (ended : Bool) (s u : State) → IsReady takes s → Needs ended s u → IsReady takes u
ready_need takes ended s u r needs = record { taken = subst takes (sym (ap (λ t. t.forms) needs.after)) r.taken; fits = needed_fits ended s u r.fits needs }

pub ready_end : (takes : List Form → Type 0) (ended : Bool) (s u : State) → IsReady takes s → Ends ended s u → IsReady takes u
ready_end takes ended s u r ends = record { taken = subst takes (sym (ap (λ t. t.forms) ends.after)) r.taken; fits = subst (λ b. BlockFits u.forms b) (sym ends.closed) tt }

pub ready_fed : (takes : List Form → Type 0) (s : State) (piece : List ℕ) → IsReady takes s → IsReady takes (fed s piece)
ready_fed takes s piece r = record { taken = r.taken; fits = fed_fits s piece r.fits }

pub ready_first : (takes : List Form → Type 0) (ss : List Shape) (h : Holding) → h ≡ nothing_held ss → takes (forms ss) → IsReady takes (state h)
ready_first takes ss h is t = subst (λ k. IsReady takes (state k)) (sym is) (record { taken = t; fits = begins_fit (forms ss) })
