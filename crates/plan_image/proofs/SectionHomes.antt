-- The homes of a section's objects: in SRAM one behind another, apart from each other and within its room, and in FRAM where all objects stand.
use Rattle.std.proofs.Common.{◌≡◌, ◌≢◌, ◌⊎◌, ℕ, ◌+◌, ◌*◌, ◌≤◌, Bool, true, false, Option, Some, None, List, [], ◌∷◌, refl, sym, ap, ◌∙◌, subst, arith, inl, inr}
use Rattle.std.specs.Prelude.{◌==◌, ◌||◌, if◌then◌else◌, slice_get}
use Rattle.std.proofs.lemmas.Bool.{cases_Bool, eq-eqb, eqb-true, ne_eqb}
use Rattle.flow_graph.specs.declared.graph.Object as declared
use Rattle.home_planner.specs.Sets.{is_in}
use Rattle.laid_code.proofs.Words.{IsRoom, address, at_home}
use Rattle.msp430_machine.specs.Addresses.{fram_start, region, sram_start}
use Rattle.op_cost.specs.Weights.{SamePlace, placed}
use Rattle.op_cost.specs.Weights as cost
use Rattle.laid_code.proofs.Homing.{HomesApart, Stretch, fram_home, place_in, sram_home}
use Rattle.graph_flow.specs.GraphFlow.{size_of, sizes}
use Rattle.graph_code.specs.Homes.{HaveHomes, first_word}
use Rattle.graph_code.proofs.HomeLemmas.{home_room, homes_apart}
use Rattle.chain_units.specs.Known.{Known, object_words, words_in}
use Rattle.plan_code.specs.Sections.{Section}
use Rattle.plan_code.specs.Positions.{is_written, nodes_in}
use Rattle.plan_code.specs.PlanBlocks.{home_of, words_up_to}
use Rattle.plan_image.proofs.Homed.{AreHomes}
use Rattle.stretched_code.proofs.LinedRuns.{place_fram, place_sram}

-- ---- Objects one behind another

module _ (words : ℕ → ℕ) where
  abbrev pub all_words : List ℕ → ℕ
  all_words [] = 0
  all_words (x ∷ xs) = words x + all_words xs

  abbrev up : List ℕ → ℕ → ℕ
  up xs o = words_up_to words xs o

  first_up : (x : ℕ) (xs : List ℕ) (o : ℕ) → (x == o) ≡ true → up (x ∷ xs) o ≡ 0
  first_up x xs o e = ap (λ c. if c then 0 else words x + up xs o) e

  later_up : (x : ℕ) (xs : List ℕ) (o : ℕ) → (x == o) ≡ false → up (x ∷ xs) o ≡ words x + up xs o
  later_up x xs o e = ap (λ c. if c then 0 else words x + up xs o) e

  later_in : (x : ℕ) (xs : List ℕ) (o : ℕ) → (x == o) ≡ false → is_in (x ∷ xs) o ≡ true → is_in xs o ≡ true
  later_in x xs o e is =
      let other : (o == x) ≡ false = ne_eqb o x (λ same. let bad : true ≡ false = sym (eq-eqb x o (sym same)) ∙ e in absurd (cc)) in
      sym (ap (λ c. c || is_in xs o) other) ∙ is

  -- each ends within the words of all
  pub up_within : (xs : List ℕ) (o : ℕ) → is_in xs o ≡ true → up xs o + words o ≤ all_words xs
  up_within [] o is = let bad : false ≡ true = is in absurd (cc)
  up_within (x ∷ xs) o is = elim (cases_Bool (x == o)) [
    | inl e ↦ let a = first_up x xs o e in let w = ap words (eqb-true x o e) in omega (arith, a, w)
    | inr e ↦ let a = later_up x xs o e in let h = up_within xs o (later_in x xs o e is) in omega (arith, a, h)
  ]

  -- and before or behind each other
  pub up_apart : (xs : List ℕ) (o t : ℕ) → o ≢ t → is_in xs o ≡ true → is_in xs t ≡ true → (up xs t + words t ≤ up xs o) ⊎ (up xs o + words o ≤ up xs t)
  up_apart [] o t ne is_o is_t = let bad : false ≡ true = is_o in absurd (cc)
  up_apart (x ∷ xs) o t ne is_o is_t = elim (cases_Bool (x == o)) [
    | inl e ↦ elim (cases_Bool (x == t)) [
      | inl e' ↦ absurd (ne (sym (eqb-true x o e) ∙ eqb-true x t e'))
      | inr e' ↦ inr (let a = first_up x xs o e in let b = later_up x xs t e' in let w = ap words (eqb-true x o e) in omega (arith, a, b, w))
    ]
    | inr e ↦ elim (cases_Bool (x == t)) [
      | inl e' ↦ inl (let a = later_up x xs o e in let b = first_up x xs t e' in let w = ap words (eqb-true x t e') in omega (arith, a, b, w))
      | inr e' ↦
          let a = later_up x xs o e in
          let b = later_up x xs t e' in
          elim (up_apart xs o t ne (later_in x xs o e is_o) (later_in x xs t e' is_t)) [ inl h ↦ inl (omega (arith, a, b, h)) | inr h ↦ inr (omega (arith, a, b, h)) ]
    ]
  ]

-- ---- The homes of a section

words_same : (x : Option declared.Object) → words_in x ≡ size_of x
words_same None = refl
words_same (Some x) = refl

module _ (k : Known) (s : Section) where
  abbrev pub section_stretch : Stretch
  section_stretch = record {
    in_sram = is_in s.opening.homes;
    writes = is_written (nodes_in k.graph s);
    sram = λ o. words_up_to (object_words k.graph) s.opening.homes o;
    fram = first_word k.graph;
  }

  sized : (o : ℕ) → object_words k.graph o ≡ sizes k.graph o
  sized o = words_same (slice_get k.graph.objects o)

  module _ (homes : HaveHomes k.graph) (room : all_words (object_words k.graph) s.opening.homes ≤ 1024) where
    pub section_apart : HomesApart (sizes k.graph) section_stretch
    section_apart = record {
      fram = homes_apart k.graph homes;
      sram = λ o t ne is_o is_t.
          let a = sized o in
          let b = sized t in
          elim (up_apart (object_words k.graph) s.opening.homes o t ne is_o is_t) [ inl h ↦ inl (omega (arith, a, b, h)) | inr h ↦ inr (omega (arith, a, b, h)) ];
    }

    pub sram_room : (o : ℕ) → is_in s.opening.homes o ≡ true → IsRoom (sram_home section_stretch o) (sizes k.graph o)
    sram_room o is = let a = sized o in let h = up_within (object_words k.graph) s.opening.homes o is in omega (arith, a, h, room)

    pub section_homes : AreHomes k.graph (place_in section_stretch) (home_of k s)
    section_homes = record {
      room = λ o. elim (cases_Bool (is_in s.opening.homes o)) [
        | inl is ↦ subst (λ h. IsRoom h (sizes k.graph o)) (sym (place_sram section_stretch o is)) (sram_room o is)
        | inr out ↦ subst (λ h. IsRoom h (sizes k.graph o)) (sym (place_fram section_stretch o out)) (home_room k.graph homes o)
      ];
      is = λ o. by_home o (is_in s.opening.homes o) refl;
    }
      where
        by_home : (o : ℕ) (c : Bool) → is_in s.opening.homes o ≡ c → home_of k s o ≡ address (place_in section_stretch o) 0
        by_home o true e =
            let place : address (place_in section_stretch o) 0 ≡ 0x1C00 + 2 * (words_up_to (object_words k.graph) s.opening.homes o + 0) = ap (λ h. address h 0) (place_sram section_stretch o e) in
            let home : home_of k s o ≡ 0x1C00 + 2 * words_up_to (object_words k.graph) s.opening.homes o =
            ap (λ c. if c then 0x1C00 + 2 * words_up_to (object_words k.graph) s.opening.homes o else 2 * first_word k.graph o) e in
            omega (arith, place, home)
        by_home o false e =
            let place : address (place_in section_stretch o) 0 ≡ 2 * (first_word k.graph o + 0) = ap (λ h. address h 0) (place_fram section_stretch o e) in
            let home : home_of k s o ≡ 2 * first_word k.graph o = ap (λ c. if c then 0x1C00 + 2 * words_up_to (object_words k.graph) s.opening.homes o else 2 * first_word k.graph o) e in
            omega (arith, place, home)

    -- ---- Only the memory that an object is in counts

    chosen_same : (xs : List ℕ) (o : ℕ) → cost.is_in xs o ≡ is_in xs o
    chosen_same [] o = refl
    chosen_same (x ∷ xs) o = elim (cases_Bool (x == o)) [
      | inl e ↦ ap (λ c. if c then true else cost.is_in xs o) e ∙ sym (ap (λ c. c || is_in xs o) (eq-eqb o x (sym (eqb-true x o e))))
      | inr e ↦
          let other : (o == x) ≡ false = ne_eqb o x (λ same. let bad : true ≡ false = sym (eq-eqb x o (sym same)) ∙ e in absurd (cc)) in
          ap (λ c. if c then true else cost.is_in xs o) e ∙ chosen_same xs o ∙ sym (ap (λ c. c || is_in xs o) other)
    ]

    abbrev by_memory : Bool → ℕ
    by_memory c = if c then sram_start else fram_start

    same_by : (o : ℕ) (c : Bool) → is_in s.opening.homes o ≡ c → 1 ≤ sizes k.graph o → SamePlace (home_of k s o) (by_memory c)
    same_by o true e some =
        let at = at_home (sram_home section_stretch o) (sizes k.graph o) 0 (sram_room o e) (omega (arith, some)) in
        let there : home_of k s o ≡ address (sram_home section_stretch o) 0 = section_homes.is o ∙ ap (λ h. address h 0) (place_sram section_stretch o e) in
        let high = at.inside.high in
        record { same = ap region there ∙ at.inside.lies; low = omega (arith, there, high); low' = omega arith }
    same_by o false e some =
        let at = at_home (fram_home section_stretch o) (sizes k.graph o) 0 (home_room k.graph homes o) (omega (arith, some)) in
        let there : home_of k s o ≡ address (fram_home section_stretch o) 0 = section_homes.is o ∙ ap (λ h. address h 0) (place_fram section_stretch o e) in
        let high = at.inside.high in
        record { same = ap region there ∙ at.inside.lies; low = omega (arith, there, high); low' = omega arith }

    pub section_same : (o : ℕ) → 1 ≤ sizes k.graph o → SamePlace (home_of k s o) (placed s.opening.homes o)
    section_same o some = subst (λ c. SamePlace (home_of k s o) (by_memory c)) (sym (chosen_same s.opening.homes o)) (same_by o (is_in s.opening.homes o) refl some)
