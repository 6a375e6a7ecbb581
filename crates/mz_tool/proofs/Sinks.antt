-- One piece after another on a sink.
use Rattle.std.proofs.Common.{◌≡◌, ℕ, ◌+◌, ◌<◌, List, [], ◌++◌, length, get_or, take, drop, refl, sym, ap, ◌∙◌, append_assoc, inl, inr, add-one, drop-cons}
use Rattle.std.proofs.lemmas.List.{append-nil, take-append-drop}
use Rattle.std.proofs.lemmas.List.Concat.{flat_map-append}
use Rattle.std.specs.Prelude.{Some, None, ◌⊎◌, codes}
use Rattle.std.specs.List.{flat_map}
use Rattle.mz_io.specs.Counts.{Rose}
use Rattle.mz_io.specs.Sink.{Held, SinkCounts, Adds, AddsPrefix}
use Rattle.mz_tool.specs.Status.{Notes}

pub adds_nothing : (h : Held) → Adds h h []
adds_nothing None = refl
adds_nothing (Some old) = ap Some (sym (append-nil old))

pub adds_more : (o m n : Held) (a b : List ℕ) → Adds o m a → Adds m n b → Adds o n (a ++ b)
adds_more None m n a b first then = rw first at then
adds_more (Some old) m n a b first then = (rw first at then) ∙ ap Some (append_assoc old a b)

pub pieces_whole : {X A : Type 0} (f : X → List A) (xs : List X) (i : ℕ) (d : X) → i < length xs → flat_map f xs ≡ flat_map f (take i xs) ++ (f (get_or xs i d) ++ flat_map f (drop (i + 1) xs))
pieces_whole f xs i d below =
    ap (flat_map f) (sym (take-append-drop i xs)) ∙ flat_map-append f (take i xs) (drop i xs) ∙ ap (λ ys. flat_map f (take i xs) ++ ys) (rw (add-one, drop-cons xs i d below) refl)

-- a piece that failed or ran out of memory cuts what was to go out
pub cut_short : (old mid new : Held) (before after : SinkCounts) (done piece rest line : List ℕ) → line ≡ done ++ (piece ++ rest) → Adds old mid done → AddsPrefix mid new piece → Rose before.faults after.faults ⊎ Rose before.shortages after.shortages → Notes old new before after line
cut_short old mid new before after done piece rest line is adds prefix rose = record {
  prefix = done ++ prefix.prefix;
  back = prefix.back ++ rest;
  whole = is ∙ ap (λ xs. done ++ (xs ++ rest)) prefix.whole ∙ ap (λ xs. done ++ xs) (append_assoc prefix.prefix prefix.back rest) ∙ sym (append_assoc done prefix.prefix (prefix.back ++ rest));
  adds = adds_more old mid new done prefix.prefix adds prefix.adds;
  cut = inr rose;
}

pub all_out : (old new : Held) (before after : SinkCounts) (line : List ℕ) → Adds old new line → Notes old new before after line
all_out old new before after line adds = record { prefix = line; back = []; whole = sym (append-nil line); adds = adds; cut = inl refl }

pub prefix_nothing : (h : Held) (piece : List ℕ) → AddsPrefix h h piece
prefix_nothing h piece = record { prefix = []; back = piece; whole = refl; adds = adds_nothing h }

-- the same where the piece ran out of memory
pub cut_before : (old mid new : Held) (before after : SinkCounts) (done piece rest line : List ℕ) → line ≡ done ++ (piece ++ rest) → Adds old mid done → new ≡ mid → Rose before.faults after.faults ⊎ Rose before.shortages after.shortages → Notes old new before after line
cut_before old mid new before after done piece rest line is adds same rose =
    cut_short old mid new before after done piece rest line is adds (rw same (prefix_nothing mid piece)) rose

-- the pieces of a refusal's line, joined
pub joined : (file line col kind gap number : List ℕ) →
    file ++ codes ":" ++ line ++ codes ":" ++ col ++ codes ": " ++ kind ++ (gap ++ number) ++ codes "\n"
    ≡ file ++ (codes ":" ++ (line ++ (codes ":" ++ (col ++ (codes ": " ++ (kind ++ (gap ++ (number ++ (codes "\n" ++ [])))))))))
joined file line col kind gap number = simp append_assoc
