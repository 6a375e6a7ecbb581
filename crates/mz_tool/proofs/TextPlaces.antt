-- The places of the faults of a stream: those of solutions' texts are in the program, and those of lines in the stream.
use Rattle.std.proofs.Common.{◌≡◌, ℕ, ◌+◌, ◌<◌, pos, List, [], ◌∷◌, ◌++◌, Option, Some, None, inl, inr, refl, sym, ap, subst}
use Rattle.std.specs.Prelude.{◌⊎◌}
use Rattle.std.specs.List.{AllByRecursion as AllBy, Contains}
use Rattle.std.proofs.lemmas.List.Elements.{All-contains, recursion_from_All, Contains-get_or}
use Rattle.mz_base.specs.declared.fault.Fault.{Fault}
use Rattle.mz_base.specs.declared.fault.Span.{Span}
use Rattle.mz_base.specs.declared.kind.Kind.TheVariants as kind
use Rattle.mz_value.specs.Contents.{Content}
use Rattle.mz_core.specs.Program.{PlainProgram}
use Rattle.mz_core.specs.Tree.{Tree, place_of}
use Rattle.mz_meaning.specs.Runs.{Run, Answer, Out, Stopped, start, loop}
use Rattle.mz_meaning.specs.Cells.{Bare, value_of}
use Rattle.mz_meaning.specs.Contexts.{Untested}
use Rattle.mz_meaning.specs.Forms.{World}
use Rattle.mz_meaning.specs.Walk.{Limits, Assignment, levels, world_at}
use Rattle.mz_meaning_laws.specs.Places.{places_of}
use Rattle.mz_meaning_laws.proofs.Parts.{IsPlaced, IsPlacedProgram, place_placed, program_placed}
use Rattle.mz_meaning_laws.proofs.Stopping.{StopsAt, StopsThere, GivesThere, then_there, with_there, both_there, gives_there, given_there, give_there, stop_there}
use Rattle.mz_meaning_laws.proofs.PlaceForms.{eval_there}
use Rattle.mz_print_model.specs.Given.{OutputItem, OutputName, assigned, joined_items, output_env, output_item, output_text, text_by, variable_slots, text_of, limits_of, texts_of}
use Rattle.mz_print_stream.specs.Printing as printing
use Rattle.mz_print_stream.specs.Printing.{Text, says, refuses, output, block_before, end_by, Written}
use Rattle.mz_print_stream.specs.Reading.{Close, complete, bad_at, cut}
use Rattle.soln_reader.specs.Stream.{Event, block, mark}
use Rattle.soln_reader.specs.Reader.{bad_line}
use Rattle.fz_items.specs.Forms.{Form}
use Rattle.mz_analysis.specs.PlacePromise.{LiesIn}
use Rattle.mz_tool.specs.Status.{stream_number}

-- ---- output items

module _ (P : Span → Type 0) where
  abbrev IsPlacedItem : OutputItem → Type 0
  IsPlacedItem i = P i.0

  abbrev ArePlacedItems : List OutputItem → Type 0
  ArePlacedItems items = AllBy IsPlacedItem items

  one_more : (items : List OutputItem) (i : OutputItem) → ArePlacedItems items → P i.0 → ArePlacedItems (items ++ i ∷ [])
  one_more [] i h p = (p, tt)
  one_more (j ∷ items) i h p = (h.0, one_more items i h.1 p)

  loop_gives : {A S : Type 0} (Q : S → Type 0) (K : A → Type 0) (step : S → A → Run S) → ((acc : S) (x : A) → Q acc → K x → GivesThere P Q (step acc x)) → (acc : S) (xs : List A) → Q acc → AllBy K xs → GivesThere P Q (loop step acc xs)
  loop_gives Q K step h acc [] q ks = given_there P Q acc q
  loop_gives Q K step h acc (x ∷ xs) q ks = both_there P Q Q (h acc x q ks.0) (λ next r. loop_gives Q K step h next xs r ks.1)

  joined_there : (n : ℕ) (items : List OutputItem) → ArePlacedItems items → StopsThere P (joined_items n items)
  joined_there n [] h = give_there P _
  joined_there n ((at, None) ∷ items) h = stop_there P kind.OutputUndefined at (pos n) h.0
  joined_there n ((at, Some x) ∷ items) h = then_there P (joined_there n items h.1) (λ rest. give_there P _)

  module _ (table : List (List ℕ)) (l : Limits) (p : PlainProgram) (placed : IsPlacedProgram P p) (xs : List OutputName) (a : Assignment) (n : ℕ) where
    abbrev TheWorld : World
    TheWorld = world_at l Bare p (output_env a xs)

    item_gives : (items : List OutputItem) (e : Tree) → ArePlacedItems items → IsPlaced P e → GivesThere P ArePlacedItems (output_item TheWorld items e)
    item_gives items e h q =
        gives_there P ArePlacedItems (eval_there P TheWorld placed.functions levels Untested e TheWorld.top q)
        (λ c. given_there P ArePlacedItems (items ++ (place_of e, value_of c) ∷ []) (one_more items (place_of e, value_of c) h (place_placed P e q)))

    text_there : (es : List Tree) → AllBy (IsPlaced P) es → StopsThere P (text_by table l Bare p xs a n es)
    text_there [] h = give_there P _
    text_there (e ∷ es) h = with_there P ArePlacedItems (loop_gives ArePlacedItems (IsPlaced P) (output_item TheWorld) item_gives [] (e ∷ es) tt h) (λ items k. joined_there n items k)

    pub output_there : StopsThere P (output_text table l Bare p xs a n)
    unfolding output_text
    output_there = text_there p.outputs placed.outputs

itself : (ps : List Span) → AllBy (Contains ps) ps
itself ps = recursion_from_All (Contains ps) ps (λ k d low. Contains-get_or ps k d low)

stopped_at : {A : Type 0} (P : Span → Type 0) (x : Answer A) (f : Fault) → x ≡ Stopped f → StopsAt P x → P f.span
stopped_at P (Out v s) f is h = absurd (cc)
stopped_at P (Stopped g) f is h = let same : g ≡ f = cc in subst (λ (k : Fault). P k.span) same h

refused_text : (x : Answer (List ℕ)) (f : Fault) → text_of x ≡ refuses f → x ≡ Stopped f
refused_text (Out t s) f is = absurd (cc)
refused_text (Stopped g) f is = let same : g ≡ f = cc in ap Stopped same

-- the text of a solution is refused at a place of the program
text_placed : (table : List (List ℕ)) (l : Limits) (p : PlainProgram) (names : List OutputName) (files : ℕ) → LiesIn files p → (xs : List Content) (n : ℕ) (f : Fault) → texts_of table l.budget l.int_range p names xs n ≡ refuses f → f.span.file < files
text_placed table l p names files lies xs n f is =
    let k = limits_of l.budget l.int_range in
    let a = assigned (variable_slots names) xs in
    let run = output_text table k Bare p names a n start in
    let stops : run ≡ Stopped f = refused_text run f is in
    All-contains (λ (at : Span). at.file < files) (places_of p) f.span lies
    (stopped_at (Contains (places_of p)) run f stops ((output_there (Contains (places_of p)) table k p (program_placed (Contains (places_of p)) p (itself (places_of p))) names a n).by start))

-- ---- a stream

module _ (ts : printing.Texts) (P : Fault → Type 0) (texts : (xs : List Content) (n : ℕ) (f : Fault) → ts xs n ≡ refuses f → P f) where
  block_fault : (t : Text) (n : ℕ) (w : Written) (f : Fault) → (block_before t n w).fault ≡ Some f → ((g : Fault) → t ≡ refuses g → P g) → (w.fault ≡ Some f → P f) → P f
  block_fault (says bytes) n w f is here rest = rest is
  block_fault (refuses g) n w f is here rest = let same : g ≡ f = cc in subst P same (here g refl)

  output_fault : (n : ℕ) (es : List Event) (f : Fault) → (output ts n es).fault ≡ Some f → P f
  unfolding output
  output_fault n [] f is = absurd (cc)
  output_fault n (block xs ∷ es) f is = block_fault (ts xs (n + 1)) (n + 1) (output ts (n + 1) es) f is (λ g h. texts xs (n + 1) g h) (λ h. output_fault (n + 1) es f h)
  output_fault n (mark m ∷ es) f is = output_fault n es f is

  end_fault : (o : Option Fault) (x : Close) (f : Fault) → printing.refused f ≡ end_by o x → (o ≡ Some f → P f) → ((n : ℕ) → P (bad_line n)) → P printing.too_long → P f
  end_fault (Some g) x f is here bad long = let same : f ≡ g = cc in here (ap Some (sym same))
  end_fault None complete f is here bad long = absurd (cc)
  end_fault None (bad_at n) f is here bad long = let same : f ≡ bad_line n = cc in subst P (sym same) (bad n)
  end_fault None cut f is here bad long = let same : f ≡ printing.too_long = cc in subst P (sym same) long

  pub stream_fault : (fs : List Form) (limit : ℕ) (stream out : List ℕ) (f : Fault) → printing.Prints ts fs limit stream out (printing.refused f) → ((n : ℕ) → P (bad_line n)) → P printing.too_long → P f
  stream_fault fs limit stream out f prints bad long = end_fault (output ts 0 prints.events).fault prints.close f prints.ends (λ h. output_fault 0 prints.events f h) bad long

-- the place of a fault of the stream of a program's solutions is in the stream, or in the program
pub stream_placed : (table : List (List ℕ)) (l : Limits) (p : PlainProgram) (names : List OutputName) (ts : printing.Texts) (files : ℕ) → ts ≡ texts_of table l.budget l.int_range p names → LiesIn files p → (fs : List Form) (limit : ℕ) (stream out : List ℕ) (f : Fault) → printing.Prints ts fs limit stream out (printing.refused f)
    → (f.span.file ≡ stream_number) ⊎ (f.span.file < files)
stream_placed table l p names ts files same lies fs limit stream out f prints =
    stream_fault ts (λ g. (g.span.file ≡ stream_number) ⊎ (g.span.file < files))
    (λ xs n g h. inr (text_placed table l p names files lies xs n g (subst (λ us. us xs n ≡ refuses g) same h)))
    fs limit stream out f prints (λ n. inl refl) (inl refl)
