-- A loop over the letters of a word.
use Rattle.std.proofs.Common.{◌≡◌, ℕ, ◌+◌, ◌<◌, ℤ, pos, List, [], ◌∷◌, length, get_or, drop, Bool, true, false, ◌&&◌, sym, ap, ◌∙◌}
use Rattle.std.proofs.lemmas.List.{at_drop_more}
use Rattle.mz_globals.specs.Graphs.{Automaton, is_up_to, next_state, accepts}

pub accepts_more : (m : Automaton) (xs : List ℤ) (k : ℕ) (q next : ℤ) (whole : Bool) → k < length xs → (is_up_to m.states q && is_up_to m.letters (get_or xs k (pos 0))) ≡ true → next ≡ next_state m q (get_or xs k (pos 0)) → accepts m q (drop k xs) ≡ whole → accepts m next (drop (k + 1) xs) ≡ whole
accepts_more m xs k q next whole l e n w =
    let turn = at_drop_more (accepts m q) xs k (pos 0) l in
    let passed = ap (λ b. b && accepts m (next_state m q (get_or xs k (pos 0))) (drop (k + 1) xs)) e in
    ap (λ r. accepts m r (drop (k + 1) xs)) n ∙ sym (turn ∙ passed) ∙ w

pub accepts_no_more : (m : Automaton) (xs : List ℤ) (k : ℕ) (q : ℤ) (whole : Bool) → k < length xs → (is_up_to m.states q && is_up_to m.letters (get_or xs k (pos 0))) ≡ false → accepts m q (drop k xs) ≡ whole → false ≡ whole
accepts_no_more m xs k q whole l e w =
    let turn = at_drop_more (accepts m q) xs k (pos 0) l in
    sym (turn ∙ ap (λ b. b && accepts m (next_state m q (get_or xs k (pos 0))) (drop (k + 1) xs)) e) ∙ w
