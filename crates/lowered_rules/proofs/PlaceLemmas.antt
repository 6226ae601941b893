-- What stands at each place of a lowered graph: the body of a reached function, and each reached function has one place.
use Rattle.std.proofs.Common.{◌≡◌, ℕ, zero, suc, ◌+◌, ◌-◌, ◌<◌, ◌≤◌, Bool, true, false, Some, List, [], ◌∷◌, length, inl, inr, refl, sym, ap, subst, ◌∙◌, arith}
use Rattle.std.specs.Prelude.{slice_get, slice_index_or, if◌then◌else◌}
use Rattle.std.proofs.lemmas.Bool.{cases_order, false≢true}
use Rattle.std.proofs.lemmas.Option.{slice_get_within}
use Rattle.c_tree.specs.declared.tree.Function.{Function}
use Rattle.c_tree.specs.declared.tree.Program.{Program}
use Rattle.sound_programs.specs.SoundPrograms.{IsSound}
use Rattle.flow_graph.specs.declared.graph.Func.{Func}
use Rattle.lowered_graphs.specs.declared.numbering.Numbering.{Numbering}
use Rattle.lowered_graphs.specs.Exprs.{place_of, setting_of}
use Rattle.lowered_graphs.specs.GraphOf.{add_function, add_named, bodies_from, func_of, globals, graph_of, homes_of, made_function, objects_before, places_from, reached, temporaries, with_function}
use Rattle.lowered_rules.proofs.FunctionFit.{AreTemporaries}
use Rattle.lowered_rules.proofs.ObjectRules.{sound_there}
use Rattle.lowered_rules.proofs.ReachedLemmas.{reached_length}
use Rattle.lowered_rules.proofs.ThingLemmas.{Numbered, Temporary, Thing, pairs_length}
use Rattle.lowered_rules.proofs.ThingsOf.{AllThere, StandsFrom, globals_numbered, numbered_function, numbered_named, onto_globals, onto_locals, onto_result, stands_head, stands_tail, stands_whole, temporary_at, things, things_function, things_functions, things_globals, things_named, variables_of}

-- ---- places

-- the places of functions from the k-th on are k or more
places_low : (ms : List Bool) (k i : ℕ) → slice_index_or ms i false ≡ true → k ≤ slice_index_or (places_from ms k) i 0
places_low [] k i h = absurd (false≢true h)
places_low (true ∷ ms) k zero h = omega arith
places_low (true ∷ ms) k (suc i) h = let more = places_low ms (k + 1) i h in omega (arith, more)
places_low (false ∷ ms) k zero h = absurd (false≢true h)
places_low (false ∷ ms) k (suc i) h = places_low ms k i h

places_rise : (ms : List Bool) (k i j : ℕ) → slice_index_or ms i false ≡ true → slice_index_or ms j false ≡ true → i < j → slice_index_or (places_from ms k) i 0 < slice_index_or (places_from ms k) j 0
places_rise [] k i j h g lt = absurd (false≢true h)
places_rise (b ∷ ms) k i zero h g lt = absurd (omega (arith, lt))
places_rise (true ∷ ms) k zero (suc j) h g lt = let more = places_low ms (k + 1) j g in omega (arith, more)
places_rise (false ∷ ms) k zero (suc j) h g lt = absurd (false≢true h)
places_rise (true ∷ ms) k (suc i) (suc j) h g lt = places_rise ms (k + 1) i j h g (omega (arith, lt))
places_rise (false ∷ ms) k (suc i) (suc j) h g lt = places_rise ms k i j h g (omega (arith, lt))

-- ---- the numbering before a function

-- before the k-th of these functions
abbrev pub before_from : Program → ℕ → List Function → Numbering → ℕ → Numbering
before_from p n [] m k = m
before_from p n (f ∷ fs) m zero = m
before_from p n (f ∷ fs) m (suc k) = before_from p (n + 1) fs (if slice_index_or (reached p) n false then add_function p n f m else m) k

abbrev pub before : Program → ℕ → Numbering
before p k = before_from p 0 p.functions (globals p) k

module _ (p : Program) where
  abbrev pub place : ℕ → ℕ
  place n = place_of (setting_of p (homes_of p)) n

  abbrev IsReached : ℕ → Type 0
  IsReached n = slice_index_or (reached p) n false ≡ true

  -- reached functions at one place are one
  pub one_place : (n m : ℕ) → IsReached n → IsReached m → place n ≡ place m → n ≡ m
  one_place n m r s same = elim (cases_order n m) [
    | inl is ↦ is
    | inr other ↦ elim other [
      | inl lt ↦ let less = places_rise (reached p) 0 n m r s lt in absurd (omega (arith, less, same))
      | inr lt ↦ let less = places_rise (reached p) 0 m n s r lt in absurd (omega (arith, less, same))
    ]
  ]

  -- the function of the graph that a function of the program became: the number of its first operation, and its first temporary
  pub record BodyAt (n : ℕ) (f : Function) (g : Func) : Type 0 where
    pub op : ℕ
    pub base : ℕ
    pub base_is : base ≡ objects_before p n f (before p n)
    pub same : g ≡ func_of f (made_function p (homes_of p) n op base f)
    pub owns : AreTemporaries p n base (base + temporaries p n f)

  -- ---- one function after another

  record Walk (n : ℕ) (m : Numbering) (fs : List Function) (ms : List Bool) : Type 0 where
    pub things_so : List Thing
    pub named : List ℕ
    pub resulting : List ℕ
    pub numbered : Numbered p m things_so named resulting
    pub stands : StandsFrom p.functions n fs
    pub there : AllThere p n fs
    pub whole : things p ≡ things_functions p n fs things_so
    pub marks : (i : ℕ) → slice_index_or ms i false ≡ slice_index_or (reached p) (n + i) false
    pub count : length ms ≡ length fs
    pub before_is : (i : ℕ) → before_from p n fs m i ≡ before p (n + i)

  head_mark : (n : ℕ) (b : Bool) (ms : List Bool) → ((i : ℕ) → slice_index_or (b ∷ ms) i false ≡ slice_index_or (reached p) (n + i) false) → slice_index_or (reached p) n false ≡ b
  head_mark n b ms h = let e : n ≡ n + 0 = omega arith in ap (λ k. slice_index_or (reached p) k false) e ∙ sym (h 0)

  rest_marks : (n : ℕ) (b : Bool) (ms : List Bool) → ((i : ℕ) → slice_index_or (b ∷ ms) i false ≡ slice_index_or (reached p) (n + i) false) → (i : ℕ) → slice_index_or ms i false ≡ slice_index_or (reached p) (n + 1 + i) false
  rest_marks n b ms h i = let e : n + suc i ≡ n + 1 + i = omega arith in h (suc i) ∙ ap (λ k. slice_index_or (reached p) k false) e

  whole_in : (n : ℕ) (m : Numbering) (f : Function) (fs : List Function) (ms : List Bool) (w : Walk n m (f ∷ fs) (true ∷ ms)) → things p ≡ things_functions p (n + 1) fs (things_function p n f w.things_so)
  whole_in n m f fs ms w = w.whole ∙ ap (λ b. things_functions p (n + 1) fs (if b then things_function p n f w.things_so else w.things_so)) (head_mark n true ms w.marks)

  rest_before : (n : ℕ) (m k : Numbering) (f : Function) (fs : List Function) (b : Bool) → slice_index_or (reached p) n false ≡ b → (if b then add_function p n f m else m) ≡ k
      → ((i : ℕ) → before_from p n (f ∷ fs) m i ≡ before p (n + i)) → (i : ℕ) → before_from p (n + 1) fs k i ≡ before p (n + 1 + i)
  rest_before n m k f fs b is next h i =
      let e : n + suc i ≡ n + 1 + i = omega arith in
      ap (λ z. before_from p (n + 1) fs z i) (sym next ∙ ap (λ z. if z then add_function p n f m else m) (sym is)) ∙ (h (suc i) ∙ ap (before p) e)

  walk_in : (n : ℕ) (m : Numbering) (f : Function) (fs : List Function) (ms : List Bool) → Walk n m (f ∷ fs) (true ∷ ms) → Walk (n + 1) (add_function p n f m) fs ms
  walk_in n m f fs ms w =
      let lt = slice_get_within p.functions n f (stands_head p.functions n f fs w.stands) in
      record {
        things_so = things_function p n f w.things_so;
        named = onto_locals (variables_of p n f) w.named;
        resulting = onto_result p n f.result w.resulting;
        numbered = numbered_function p n f m w.things_so w.named w.resulting lt w.there.0 w.numbered;
        stands = stands_tail p.functions n f fs w.stands;
        there = w.there.1;
        whole = whole_in n m f fs ms w;
        marks = rest_marks n true ms w.marks;
        count = omega (arith, w.count);
        before_is = rest_before n m (add_function p n f m) f fs true (head_mark n true ms w.marks) refl w.before_is;
      }

  walk_by : (n : ℕ) (m : Numbering) (f : Function) (fs : List Function) (ms : List Bool) → Walk n m (f ∷ fs) (false ∷ ms) → Walk (n + 1) m fs ms
  walk_by n m f fs ms w = record {
    things_so = w.things_so;
    named = w.named;
    resulting = w.resulting;
    numbered = w.numbered;
    stands = stands_tail p.functions n f fs w.stands;
    there = w.there.1;
    whole = w.whole ∙ ap (λ b. things_functions p (n + 1) fs (if b then things_function p n f w.things_so else w.things_so)) (head_mark n false ms w.marks);
    marks = rest_marks n false ms w.marks;
    count = omega (arith, w.count);
    before_is = rest_before n m m f fs false (head_mark n false ms w.marks) refl w.before_is;
  }

  -- the temporaries of the function that is made now
  owns_here : (n : ℕ) (m : Numbering) (f : Function) (fs : List Function) (ms : List Bool) → Walk n m (f ∷ fs) (true ∷ ms) → AreTemporaries p n (objects_before p n f m) (objects_before p n f m + temporaries p n f)
  owns_here n m f fs ms w t lo hi =
      let lt = slice_get_within p.functions n f (stands_head p.functions n f fs w.stands) in
      let named = numbered_named p n f m w.things_so w.named w.resulting lt w.there.0 w.numbered in
      let many : length (things_named p n f w.things_so) ≡ objects_before p n f m = pairs_length p (things_named p n f w.things_so) (add_named p n f m).objects named.pairs in
      let i : ℕ = t - objects_before p n f m in
      let at : length (things_named p n f w.things_so) + i ≡ t = omega (arith, many, lo) in
      ap (λ ts. slice_get ts t) (whole_in n m f fs ms w) ∙ subst (λ k. slice_get (things_functions p (n + 1) fs (things_function p n f w.things_so)) k ≡ Some (Temporary n)) at
      (temporary_at p n f fs w.things_so i (omega (arith, lo, hi)))

  abbrev Made : ℕ → ℕ → Numbering → Function → Func
  Made n op m f = func_of f (made_function p (homes_of p) n op (objects_before p n f m) f)

  body_here : (n op : ℕ) (m : Numbering) (f : Function) (fs : List Function) (ms : List Bool) → Walk n m (f ∷ fs) (true ∷ ms) → BodyAt n f (Made n op m f)
  body_here n op m f fs ms w =
      let here : n + 0 ≡ n = omega arith in
      record { op = op; base = objects_before p n f m; base_is = ap (objects_before p n f) (w.before_is 0 ∙ ap (before p) here); same = refl; owns = owns_here n m f fs ms w }

  abbrev Funcs : ℕ → ℕ → Numbering → List Function → List Func
  Funcs n op m fs = (bodies_from p (homes_of p) n op m fs).functions

  abbrev behind : ℕ → ℕ → Numbering → Function → ℕ
  behind n op m f = (made_function p (homes_of p) n op (objects_before p n f m) f).counts.op

  funcs_in : (n op : ℕ) (m : Numbering) (f : Function) (fs : List Function) → slice_index_or (reached p) n false ≡ true → Funcs n op m (f ∷ fs) ≡ Made n op m f ∷ Funcs (n + 1) (behind n op m f) (add_function p n f m) fs
  funcs_in n op m f fs e = ap (λ b. (if b then with_function f (made_function p (homes_of p) n op (objects_before p n f m) f) (bodies_from p (homes_of p) (n + 1) (behind n op m f) (add_function p n f m) fs) else bodies_from p (homes_of p) (n + 1) op m fs).functions) e

  funcs_by : (n op : ℕ) (m : Numbering) (f : Function) (fs : List Function) → slice_index_or (reached p) n false ≡ false → Funcs n op m (f ∷ fs) ≡ Funcs (n + 1) op m fs
  funcs_by n op m f fs e = ap (λ b. (if b then with_function f (made_function p (homes_of p) n op (objects_before p n f m) f) (bodies_from p (homes_of p) (n + 1) (behind n op m f) (add_function p n f m) fs) else bodies_from p (homes_of p) (n + 1) op m fs).functions) e

  -- ---- each reached function has its place

  record Placed (n k : ℕ) (ms : List Bool) (funcs : List Func) (i : ℕ) (f : Function) : Type 0 where
    pub at : ℕ
    pub place_is : slice_index_or (places_from ms k) i 0 ≡ k + at
    pub func : Func
    pub there : slice_get funcs at ≡ Some func
    pub body : BodyAt (n + i) f func

  placed_from : (n op k : ℕ) (m : Numbering) (fs : List Function) (ms : List Bool) → Walk n m fs ms → (i : ℕ) (f : Function) → slice_get fs i ≡ Some f → slice_index_or ms i false ≡ true → Placed n k ms (Funcs n op m fs) i f
  placed_from n op k m [] ms w i f e r = absurd (cc)
  placed_from n op k m (g ∷ fs) [] w i f e r = absurd (false≢true r)
  placed_from n op k m (g ∷ fs) (true ∷ ms) w zero f e r =
      let same : g ≡ f = cc in
      let here : n ≡ n + 0 = omega arith in
      let is : BodyAt (n + 0) g (Made n op m g) = subst (λ j. BodyAt j g (Made n op m g)) here (body_here n op m g fs ms w) in
      record {
        at = 0;
        place_is = omega arith;
        func = Made n op m g;
        there = ap (λ fs. slice_get fs 0) (funcs_in n op m g fs (head_mark n true ms w.marks));
        body = subst (λ h. BodyAt (n + 0) h (Made n op m g)) same is;
      }
  placed_from n op k m (g ∷ fs) (false ∷ ms) w zero f e r = absurd (false≢true r)
  placed_from n op k m (g ∷ fs) (true ∷ ms) w (suc i) f e r =
      let q = placed_from (n + 1) (behind n op m g) (k + 1) (add_function p n g m) fs ms (walk_in n m g fs ms w) i f e r in
      let there : n + 1 + i ≡ n + suc i = omega arith in
      record {
        at = suc q.at;
        place_is = omega (arith, q.place_is);
        func = q.func;
        there = ap (λ fs. slice_get fs (suc q.at)) (funcs_in n op m g fs (head_mark n true ms w.marks)) ∙ q.there;
        body = subst (λ j. BodyAt j f q.func) there q.body;
      }
  placed_from n op k m (g ∷ fs) (false ∷ ms) w (suc i) f e r =
      let q = placed_from (n + 1) op k m fs ms (walk_by n m g fs ms w) i f e r in
      let there : n + 1 + i ≡ n + suc i = omega arith in
      record {
        at = q.at;
        place_is = q.place_is;
        func = q.func;
        there = ap (λ fs. slice_get fs q.at) (funcs_by n op m g fs (head_mark n false ms w.marks)) ∙ q.there;
        body = subst (λ j. BodyAt j f q.func) there q.body;
      }

  -- ---- and what stands at a place is one

  record Found (n k : ℕ) (fs : List Function) (ms : List Bool) (at : ℕ) (func : Func) : Type 0 where
    pub index : ℕ
    pub function : Function
    pub there : slice_get fs index ≡ Some function
    pub marked : slice_index_or ms index false ≡ true
    pub place_is : slice_index_or (places_from ms k) index 0 ≡ k + at
    pub body : BodyAt (n + index) function func

  found_from : (n op k : ℕ) (m : Numbering) (fs : List Function) (ms : List Bool) → Walk n m fs ms → (at : ℕ) (func : Func) → slice_get (Funcs n op m fs) at ≡ Some func → Found n k fs ms at func
  found_from n op k m [] ms w at func e = absurd (cc)
  found_from n op k m (g ∷ fs) [] w at func e = absurd (omega (arith, w.count))
  found_from n op k m (g ∷ fs) (true ∷ ms) w zero func e =
      let is = sym (ap (λ fs. slice_get fs 0) (funcs_in n op m g fs (head_mark n true ms w.marks))) ∙ e in
      let same : Made n op m g ≡ func = cc in
      let here : n ≡ n + 0 = omega arith in
      record {
        index = 0;
        function = g;
        there = refl;
        marked = refl;
        place_is = omega arith;
        body = subst (λ j. BodyAt j g func) here (subst (BodyAt n g) same (body_here n op m g fs ms w));
      }
  found_from n op k m (g ∷ fs) (true ∷ ms) w (suc at) func e =
      let q = found_from (n + 1) (behind n op m g) (k + 1) (add_function p n g m) fs ms (walk_in n m g fs ms w) at func (sym (ap (λ fs. slice_get fs (suc at)) (funcs_in n op m g fs (head_mark n true ms w.marks))) ∙ e) in
      let there : n + 1 + q.index ≡ n + suc q.index = omega arith in
      record {
        index = suc q.index;
        function = q.function;
        there = q.there;
        marked = q.marked;
        place_is = omega (arith, q.place_is);
        body = subst (λ j. BodyAt j q.function func) there q.body;
      }
  found_from n op k m (g ∷ fs) (false ∷ ms) w at func e =
      let q = found_from (n + 1) op k m fs ms (walk_by n m g fs ms w) at func (sym (ap (λ fs. slice_get fs at) (funcs_by n op m g fs (head_mark n false ms w.marks))) ∙ e) in
      let there : n + 1 + q.index ≡ n + suc q.index = omega arith in
      record {
        index = suc q.index;
        function = q.function;
        there = q.there;
        marked = q.marked;
        place_is = q.place_is;
        body = subst (λ j. BodyAt j q.function func) there q.body;
      }

  -- ---- the whole graph

  whole_walk : IsSound p → Walk 0 (globals p) p.functions (reached p)
  whole_walk sound = record {
    things_so = things_globals 0 p.variables [];
    named = onto_globals 0 p.variables [];
    resulting = [];
    numbered = globals_numbered p;
    stands = stands_whole p.functions;
    there = sound_there p sound;
    whole = refl;
    marks = λ i. let e : i ≡ 0 + i = omega arith in ap (λ k. slice_index_or (reached p) k false) e;
    count = reached_length p;
    before_is = λ i. let e : i ≡ 0 + i = omega arith in ap (before p) e;
  }

  -- a reached function stands at its place
  pub record StandsAt (n : ℕ) (f : Function) : Type 0 where
    pub func : Func
    pub there : slice_get (graph_of p).functions (place n) ≡ Some func
    pub body : BodyAt n f func

  pub stands_at : IsSound p → (n : ℕ) (f : Function) → slice_get p.functions n ≡ Some f → IsReached n → StandsAt n f
  stands_at sound n f e r =
      let q = placed_from 0 0 0 (globals p) p.functions (reached p) (whole_walk sound) n f e r in
      let at : q.at ≡ place n = omega (arith, q.place_is) in
      let here : 0 + n ≡ n = omega arith in
      record {
        func = q.func;
        there = subst (λ k. slice_get (graph_of p).functions k ≡ Some q.func) at q.there;
        body = subst (λ k. BodyAt k f q.func) here q.body;
      }

  -- a function of the graph is a reached one's
  pub record FoundAt (at : ℕ) (func : Func) : Type 0 where
    pub number : ℕ
    pub function : Function
    pub there : slice_get p.functions number ≡ Some function
    pub is_reached : IsReached number
    pub place_is : place number ≡ at
    pub body : BodyAt number function func

  pub found_at : IsSound p → (at : ℕ) (func : Func) → slice_get (graph_of p).functions at ≡ Some func → FoundAt at func
  found_at sound at func e =
      let q = found_from 0 0 0 (globals p) p.functions (reached p) (whole_walk sound) at func e in
      let here : 0 + q.index ≡ q.index = omega arith in
      record {
        number = q.index;
        function = q.function;
        there = q.there;
        is_reached = q.marked;
        place_is = omega (arith, q.place_is);
        body = subst (λ k. BodyAt k q.function func) here q.body;
      }
