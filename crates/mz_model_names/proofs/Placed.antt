-- Names whose places are tested one after the other.
use Rattle.std.proofs.Common.{◌≡◌, ◌∙◌, ℕ, ◌+◌, ◌<◌, List, [], ◌∷◌, ◌++◌, length, map, take, get_or, refl, sym, ap, subst, arith}
use Rattle.std.proofs.lemmas.List.{map-append}
use Rattle.std.proofs.Math.Seq.{take-length}
use Rattle.std.proofs.lemmas.Grind.{take_at_read}
use Rattle.mz_symbol.specs.Runs.{Run}
use Rattle.mz_model_state.specs.Hands.{AreVars, kind_places}
use Rattle.mz_model_state.specs.Variables.{part_count}
use Rattle.mz_model_state.specs.Placed.{ArePlaced, PlacedIsNext, PlacedCounts}
use Rattle.mz_model_names.specs.declared.types.HeldName.{HeldName}
use Rattle.mz_model_names.specs.Named.{held_name, name_kind}
use Rattle.mz_model_names.specs.Closed.{ArePlacedUpTo}

pub none_placed : (s : Run) (k : ℕ) → ArePlaced s k [] k
none_placed s k = record { nodes = tt; number = omega arith }

pub starts_placed : (s : Run) (all : List HeldName) → ArePlacedUpTo s all 0 0
starts_placed s all = record { vars = tt; number = refl }

pub placed_next : PlacedIsNext → PlacedCounts → (s : Run) (all : List HeldName) (i j n m : ℕ) (d : HeldName) → i < length all → j ≡ i + 1 → ArePlacedUpTo s all i n → ArePlaced s n (kind_places (name_kind (get_or all i d).kind)) m → ArePlacedUpTo s all j m
placed_next next counts s all i j n m d low is h at =
    let h' = held_name (get_or all i d) in
    let front : map held_name (take j all) ≡ map held_name (take i all) ++ h' ∷ [] = ap (λ k. map held_name (take k all)) is ∙ ap (map held_name) (take_at_read all i d low).1 ∙ map-append held_name (take i all) (get_or all i d ∷ []) in
    let own : ArePlaced s (part_count (map held_name (take i all))) (kind_places h'.kind) m = subst (λ k. ArePlaced s k (kind_places h'.kind) m) h.number at in
    record {
      vars = subst (AreVars s) (sym front) (next s (map held_name (take i all)) h' m h.vars own);
      number = counts s (map held_name (take i all)) h' m own ∙ ap part_count (sym front);
    }

pub all_placed : (s : Run) (all : List HeldName) (i n : ℕ) → i ≡ length all → ArePlacedUpTo s all i n → AreVars s (map held_name all)
all_placed s all i n is h = subst (λ hs. AreVars s (map held_name hs)) (ap (λ k. take k all) is ∙ take-length all) h.vars
