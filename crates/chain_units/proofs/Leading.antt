-- Items that are placed one behind the other.
use Rattle.std.specs.Prelude.{if◌then◌else◌, drop, take}
use denote.Param.Weighed.{most}
use Rattle.std.proofs.Common.{◌≡◌, ◌≤◌, ◌++◌, ℕ, Bool, true, false, List, [], ◌∷◌, refl, sym, ap, ◌∙◌, subst, append_assoc, arith}
use Rattle.flow_graph.specs.declared.graph.Item.{Item, out-Item, size-Item}
use Rattle.flow_graph.specs.declared.nodes.Around.{Around}
use Rattle.flow_graph.specs.Nodes.{at_behind, first_of, laid_items}
use Rattle.chain_units.specs.declared.cutting.Placer.{Placer}
use Rattle.chain_units.specs.Known.{Known}
use Rattle.chain_units.specs.Marks.{Flat, Joins, Mark, marks_of, placed, placed_items}
use Rattle.chain_units.specs.Parts.{begins_pair, marks_by}
use Rattle.chain_units.specs.Placements.{IsBehind, Places}
use Rattle.chain_units.proofs.Meeting.{places_two}
use Rattle.chain_units.proofs.PlacedLemmas.{items_same, placed_same}
use Rattle.chain_units.proofs.PartsLemmas.{marks_level}

append-nil : {A : Type 0} (xs : List A) → xs ++ [] ≡ xs
append-nil [] = refl
append-nil (x ∷ xs) = ap (λ ys. x ∷ ys) (append-nil xs)

-- so far some marks are met, and those of the items that are left are still to come
abbrev pub Leads : Known → Around → List Item → List Item → Placer → Placer → Type 0
Leads k c all left old new = (done : List Mark) × Places k done old new × (marks_of k (placed_items k all) c ≡ done ++ marks_of k (placed_items k left) c)

pub leads_start : (k : Known) (c : Around) (all : List Item) (p : Placer) → Leads k c all all p p
leads_start k c all p = ([], λ before b. subst (λ (ms : List Mark). IsBehind k ms p) (sym (append-nil before)) b, refl)

pub leads_end : (k : Known) (c : Around) (all left : List Item) (old new : Placer) → left ≡ [] → Leads k c all left old new → Places k (marks_of k (placed_items k all) c) old new
leads_end k c all left old new e (done, places, same) =
    subst (λ (ms : List Mark). Places k ms old new) (sym (same ∙ (ap (λ (xs : List Item). done ++ marks_of k (placed_items k xs) c) e ∙ append-nil done))) places

-- ---- the next item, or two that are one unit

if_not : (t : Bool) (x y : List Mark) → t ≡ false → (if t then x else y) ≡ y
if_not true x y e = absurd (cc)
if_not false x y e = refl

if_so : (t : Bool) (x y : List Mark) → t ≡ true → (if t then x else y) ≡ x
if_so true x y e = refl
if_so false x y e = absurd (cc)

-- the marks of two items and more, by the items themselves
module _ (k : Known) (x y : Item) (ys : List Item) (c : Around) where
  abbrev together : List Mark
  together = Joins (Flat (x ∷ y ∷ []) (first_of (laid_items ys) c.behind)) ∷ marks_of k (placed_items k ys) c

  abbrev apart : List Mark
  apart = (placed k x).marks (at_behind c (first_of (laid_items (y ∷ ys)) c.behind)) ++ marks_of k (placed_items k (y ∷ ys)) c

  marks-two : marks_of k (placed_items k (x ∷ y ∷ ys)) c ≡ (if begins_pair k (x ∷ y ∷ ys) then together else apart)
  marks-two = rw (placed_same k x, placed_same k y, items_same k ys) refl

pub marks-cons : (k : Known) (x : Item) (xs : List Item) (c : Around) → begins_pair k (x ∷ xs) ≡ false
    → marks_of k (placed_items k (x ∷ xs)) c ≡ (placed k x).marks (at_behind c (first_of (laid_items xs) c.behind)) ++ marks_of k (placed_items k xs) c
marks-cons k x [] c e = sym (append-nil ((placed k x).marks c))
marks-cons k x (y ∷ ys) c e = marks-two k x y ys c ∙ if_not (begins_pair k (x ∷ y ∷ ys)) (together k x y ys c) (apart k x y ys c) e

marks-pair : (k : Known) (items : List Item) (c : Around) → begins_pair k items ≡ true
    → marks_of k (placed_items k items) c ≡ Joins (Flat (take 2 items) (first_of (laid_items (drop 2 items)) c.behind)) ∷ marks_of k (placed_items k (drop 2 items)) c
marks-pair k [] c e = absurd (cc)
marks-pair k (x ∷ []) c e = absurd (cc)
marks-pair k (x ∷ (y ∷ ys)) c e = marks-two k x y ys c ∙ if_so (begins_pair k (x ∷ y ∷ ys)) (together k x y ys c) (apart k x y ys c) e

pub leads_more : (k : Known) (c : Around) (all left : List Item) (x : Item) (behind : List Item) (around : Around) (next : ℕ) (b : Bool) (old mid new : Placer) → Leads k c all left old mid → left ≡ x ∷ behind
    → b ≡ begins_pair k left → b ≡ false → next ≡ first_of (laid_items behind) c.behind → around ≡ at_behind c next → Places k (marks_by k (out-Item x) around) mid new → Leads k c all behind old new
leads_more k c all left x behind around next b old mid new (done, places, same) e pair fails first at met =
    let here = at_behind c (first_of (laid_items behind) c.behind) in
    let ms = (placed k x).marks here in
    let is : marks_by k (out-Item x) around ≡ ms = ap (λ (d : Around). marks_by k (out-Item x) d) (at ∙ ap (at_behind c) first) ∙ sym (marks_level k x here) in
    let not : begins_pair k (x ∷ behind) ≡ false = sym (ap (λ (xs : List Item). begins_pair k xs) e) ∙ (sym pair ∙ fails) in (
      done ++ ms,
      places_two k done ms old mid new places (subst (λ (ns : List Mark). Places k ns mid new) is met),
      same ∙ (ap (λ (xs : List Item). done ++ marks_of k (placed_items k xs) c) e
          ∙ (ap (λ (ns : List Mark). done ++ ns) (marks-cons k x behind c not) ∙ sym (append_assoc done ms (marks_of k (placed_items k behind) c)))),
    )

pub leads_pair : (k : Known) (c : Around) (all left two rest : List Item) (after : ℕ) (b : Bool) (old mid new : Placer) → Leads k c all left old mid → b ≡ begins_pair k left → b ≡ true → two ≡ take 2 left → rest ≡ drop 2 left
    → after ≡ first_of (laid_items rest) c.behind → Places k (Joins (Flat two after) ∷ []) mid new → Leads k c all rest old new
leads_pair k c all left two rest after b old mid new (done, places, same) pair holds e e' first met =
    let ms = Joins (Flat two after) ∷ [] in
    let is : marks_of k (placed_items k left) c ≡ ms ++ marks_of k (placed_items k rest) c =
    marks-pair k left c (sym pair ∙ holds)
    ∙ sym (ap (λ (n : ℕ). Joins (Flat two n) ∷ marks_of k (placed_items k rest) c) first
    ∙ (ap (λ (xs : List Item). Joins (Flat xs (first_of (laid_items rest) c.behind)) ∷ marks_of k (placed_items k rest) c) e
    ∙ ap (λ (xs : List Item). Joins (Flat (take 2 left) (first_of (laid_items xs) c.behind)) ∷ marks_of k (placed_items k xs) c) e')) in (
      done ++ ms,
      places_two k done ms old mid new places met,
      same ∙ (ap (λ (ns : List Mark). done ++ ns) is ∙ sym (append_assoc done ms (marks_of k (placed_items k rest) c))),
    )

-- what lies behind two items is no deeper
pub behind_smaller : (left rest : List Item) (m : ℕ) → rest ≡ drop 2 left → most size-Item left ≤ m → most size-Item rest ≤ m
behind_smaller left rest m e h = subst (λ (xs : List Item). most size-Item xs ≤ m) (sym e) (by left h)
  where
    by : (left : List Item) → most size-Item left ≤ m → most size-Item (drop 2 left) ≤ m
    by [] h = h
    by (x ∷ []) h = omega arith
    by (x ∷ (y ∷ ys)) h = omega (arith, h)
