-- An order of types by what declarations and functions use is one of the scoped model that they are of.
use Rattle.std.proofs.Common.{◌≡◌, ℕ, ◌<◌, List, [], ◌∷◌, ◌++◌, map, length, sym, ap, subst}
use Rattle.std.proofs.lemmas.List.{length-map, get_or-map}
use Rattle.mz_scope_names.specs.Sketches.{Sketch, decl_sketch, function_sketch}
use Rattle.mz_scope_order.specs.Dependencies.{sketch_at}
use Rattle.mz_scope_order.specs.Parts.{decl_at, function_at}
use Rattle.mz_scope_order.specs.Scoped.{ScopedTree}
use Rattle.mz_scope_order.specs.Subjects.{Subject, of_decl, of_function, IsCounted, AreCounted, AreBefore, ComeAfter, types_of, types_in, IsTypeSequence, IsOrderOf}

module _ (s : ScopedTree) where
  abbrev ds : List Sketch
  ds = map decl_sketch s.decls

  abbrev fs : List Sketch
  fs = map function_sketch s.functions

  decl_counted : (d : ℕ) → d < length s.decls → d < length ds
  decl_counted d l = subst (λ n. d < n) (sym (length-map s.decls decl_sketch)) l

  function_counted : (f : ℕ) → f < length s.functions → f < length fs
  function_counted f l = subst (λ n. f < n) (sym (length-map s.functions function_sketch)) l

  counted_of : (xs : List Subject) → AreCounted (length ds) (length fs) xs → AreCounted (length s.decls) (length s.functions) xs
  counted_of xs c =
      subst (λ n. AreCounted n (length s.functions) xs) (length-map s.decls decl_sketch)
      (subst (λ n. AreCounted (length ds) n xs) (length-map s.functions function_sketch) c)

  types_same : (x : Subject) → IsCounted (length s.decls) (length s.functions) x → types_of ds fs x ≡ types_in s x
  types_same (of_decl d) l = ap (λ (z : Sketch). z.types) (get_or-map decl_sketch s.decls d (decl_at [] 0) (sketch_at [] 0) l)
  types_same (of_function f) l = ap (λ (z : Sketch). z.types) (get_or-map function_sketch s.functions f (function_at [] 0) (sketch_at [] 0) l)

  after_of : (before xs : List Subject) → AreCounted (length s.decls) (length s.functions) xs → ComeAfter ds fs (types_of ds fs) before xs → ComeAfter ds fs (types_in s) before xs
  after_of before [] c h = tt
  after_of before (x ∷ xs) c h = (subst (λ us. AreBefore ds fs us before) (types_same x c.0) h.0, after_of (before ++ x ∷ []) xs c.1 h.1)

  pub order_of : (xs : List Subject) → IsTypeSequence ds fs xs → IsOrderOf s xs
  order_of xs q =
      let c = counted_of xs q.counted in
      record {
        types = record {
          decls = λ d l. q.decls d (decl_counted d l);
          functions = λ f l. q.functions f (function_counted f l);
          after = after_of [] xs c q.after;
        };
        once = q.once;
        among = c;
      }
