-- Names that are hidden stay hidden further in, at the same places of the list.
use Rattle.std.proofs.Common.{◌≡◌, ℕ, Bool, true, false, List, [], ◌∷◌, ◌++◌, refl, ap, sym, ◌∙◌, length, take, append_assoc, append-nil}
use Rattle.std.specs.Prelude.{if◌then◌else◌}
use Rattle.mz_base.specs.declared.fault.Span.{Span}
use Rattle.mz_tree.specs.Tree as pure
use Rattle.mz_tree.specs.Tree.{Name, Generator, Gens, Let, Lets}
use Rattle.mz_scope_names.specs.Sets.{holds, with_name}
use Rattle.mz_scope_names.specs.Uses.{with_bound, with_generator, with_gens, with_let, with_lets}

-- a list that begins with another
pub record Begins (h g : List Name) : Type 0 where
  pub more : List Name
  pub is : g ≡ h ++ more

begins_itself : (h : List Name) → Begins h h
begins_itself h = record { more = []; is = sym (append-nil h) }

begins_on : (h g k : List Name) → Begins h g → Begins g k → Begins h k
begins_on h g k p q = record { more = p.more ++ q.more; is = q.is ∙ ap (λ z. z ++ q.more) p.is ∙ append_assoc h p.more q.more }

begins_case : (b : Bool) (h : List Name) (n : Name) → Begins h (if b then h else h ++ n ∷ [])
begins_case true h n = begins_itself h
begins_case false h n = record { more = n ∷ []; is = refl }

begins_name : (h : List Name) (n : Name) → Begins h (with_name h n)
begins_name h n = begins_case (holds n h) h n

begins_bound : (h : List Name) (ns : List (Name × Span)) → Begins h (with_bound h ns)
unfolding with_bound
begins_bound h [] = begins_itself h
begins_bound h (n ∷ ns) = begins_on h (with_name h n.0) (with_bound (with_name h n.0) ns) (begins_name h n.0) (begins_bound (with_name h n.0) ns)

begins_generator : (h : List Name) (g : Generator) → Begins h (with_generator h g)
begins_generator h (pure.generator ns e c) = begins_bound h ns

pub begins_gens : (h : List Name) (gs : Gens) → Begins h (with_gens h gs)
unfolding with_gens
begins_gens h pure.no_gens = begins_itself h
begins_gens h (pure.a_gen g gs) = begins_on h (with_generator h g) (with_gens (with_generator h g) gs) (begins_generator h g) (begins_gens (with_generator h g) gs)

begins_let : (h : List Name) (l : Let) → Begins h (with_let h l)
begins_let h (pure.declared (pure.declaration t n s e)) = begins_name h n
begins_let h (pure.constrained e) = begins_itself h

pub begins_lets : (h : List Name) (ls : Lets) → Begins h (with_lets h ls)
unfolding with_lets
begins_lets h pure.no_lets = begins_itself h
begins_lets h (pure.a_let l ls) = begins_on h (with_let h l) (with_lets (with_let h l) ls) (begins_let h l) (begins_lets (with_let h l) ls)

front_taken : (h more : List Name) → take (length h) (h ++ more) ≡ h
front_taken [] more = refl
front_taken (n ∷ h) more = ap (λ z. n ∷ z) (front_taken h more)

-- what is left when a scope ends: `now` is the list after the scope's names, `depth` how many were hidden before it
pub left_again : (h now last : List Name) (depth : ℕ) → depth ≡ length h → Begins h now → last ≡ take depth now → last ≡ h
left_again h now last depth d b e = e ∙ ap (λ z. take z now) d ∙ ap (λ z. take (length h) z) b.is ∙ front_taken h b.more

-- the same, where what is in the scope leaves the hidden names as they are
pub left_after : (h with_it one two three : List Name) (depth : ℕ) → depth ≡ length h → Begins h with_it → one ≡ with_it → two ≡ one → three ≡ take depth two → three ≡ h
left_after h with_it one two three depth d b p q e = left_again h with_it three depth d b (e ∙ ap (λ z. take depth z) (q ∙ p))
