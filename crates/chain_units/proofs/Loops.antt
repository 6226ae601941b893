-- The marks of branches, switches and loops are met where those of their parts are.
use Rattle.std.specs.Prelude.{if◌then◌else◌}
use Rattle.std.proofs.Common.{◌≡◌, ◌++◌, ◌||◌, ℕ, Bool, true, false, List, [], ◌∷◌, refl, sym, ap, ◌∙◌, subst}
use Rattle.flow_graph.specs.declared.graph.Op.{Op}
use Rattle.flow_graph.specs.declared.graph.Item.{Item}
use Rattle.flow_graph.specs.declared.graph.Item.TheOpen.{Item-F}
use Rattle.flow_graph.specs.declared.graph.Item.TheVariants.{Loop, outs-Loop}
use Rattle.flow_graph.specs.declared.nodes.Node.{Node}
use Rattle.flow_graph.specs.declared.nodes.Around.{Around}
use Rattle.flow_graph.specs.Nodes.{first_of, in_loop, laid_items, node, test_node}
use Rattle.flow_graph.proofs.LaidLemmas.{laid-Loop}
use Rattle.chain_units.specs.declared.cutting.Turning as code
use Rattle.chain_units.specs.declared.cutting.Placer.{Placer}
use Rattle.chain_units.specs.Known.{Known}
use Rattle.chain_units.specs.Marks.{Alone, Closes, Flat, Joins, Mark, are_flat, ends, flat_or, is_conditional, marks_of, placed_items, some_continues, turn_of}
use Rattle.chain_units.specs.Parts.{IsConditional, IsLoopOf, branch_parts, close_if, loop_parts, split_parts, switch_parts}
use Rattle.chain_units.specs.Planned.{IsGreatest, turning_by}
use Rattle.chain_units.specs.Placements.{HasClosed, IsTurnBy, IsTurningOf, Places, StandsAlone}
use Rattle.chain_units.proofs.Meeting.{places_alone, places_close, places_none, places_two}

if_not : (t : Bool) (x y : List Mark) → t ≡ false → (if t then x else y) ≡ y
if_not true x y e = absurd (cc)
if_not false x y e = refl

if_so : (t : Bool) (x y : List Mark) → t ≡ true → (if t then x else y) ≡ x
if_so true x y e = refl
if_so false x y e = absurd (cc)

-- ---- an item that is flat

pub flat_met : (k : Known) (x : Item) (n : ℕ) (marks : List Mark) (xs ys : List Item) (b : Bool) (old new : Placer) → xs ≡ x ∷ [] → ys ≡ x ∷ [] → b ≡ are_flat k xs → b ≡ true → Places k (Joins (Flat ys n) ∷ []) old new
    → Places k (flat_or k x n marks) old new
flat_met k x n marks xs ys b old new e e' is holds met =
    subst (λ (ms : List Mark). Places k ms old new) (sym (if_so (are_flat k (x ∷ [])) (Joins (Flat (x ∷ []) n) ∷ []) marks (ap (are_flat k) (sym e) ∙ (sym is ∙ holds))))
    (subst (λ (zs : List Item). Places k (Joins (Flat zs n) ∷ []) old new) e' met)

pub not_flat_met : (k : Known) (x : Item) (n : ℕ) (marks : List Mark) (xs : List Item) (b : Bool) (old new : Placer) → xs ≡ x ∷ [] → b ≡ are_flat k xs → b ≡ false → Places k marks old new → Places k (flat_or k x n marks) old new
not_flat_met k x n marks xs b old new e is fails met =
    subst (λ (ms : List Mark). Places k ms old new) (sym (if_not (are_flat k (x ∷ [])) (Joins (Flat (x ∷ []) n) ∷ []) marks (ap (are_flat k) (sym e) ∙ (sym is ∙ fails)))) met

-- ---- branches and switches

pub branch_met : (k : Known) (test : Op) (a b : List Item) (c : Around) (old p q r s new : Placer) → ((x : Node) → x.op ≡ test → Places k (ends x) old p) → Places k (marks_of k (placed_items k a) c) p q → HasClosed q r
    → Places k (marks_of k (placed_items k b) c) r s → HasClosed s new → Places k (branch_parts k test a b c) old new
branch_met k test a b c old p q r s new tested in_yes between in_no closed =
    let t = test_node test (first_of (laid_items a) c.behind) (first_of (laid_items b) c.behind) in
    let last = places_two k (marks_of k (placed_items k b) c) (Closes ∷ []) r s new in_no (places_close k s new closed) in
    let arms = places_two k (Closes ∷ []) (marks_of k (placed_items k b) c ++ Closes ∷ []) q r new (places_close k q r between) last in
    places_two k (ends t) (marks_of k (placed_items k a) c ++ Closes ∷ (marks_of k (placed_items k b) c ++ Closes ∷ [])) old p new (tested t refl)
    (places_two k (marks_of k (placed_items k a) c) (Closes ∷ (marks_of k (placed_items k b) c ++ Closes ∷ [])) p q new in_yes arms)

pub switch_met : (k : Known) (items : List Item) (c inner : Around) (old mid new : Placer) → inner ≡ record { behind = c.behind; break_to = c.behind; continue_to = c.continue_to } → Places k (marks_of k (placed_items k items) inner) old mid
    → HasClosed mid new → Places k (switch_parts k items c) old new
switch_met k items c inner old mid new e met closed =
    places_two k (marks_of k (placed_items k items) (record c { break_to = c.behind })) (Closes ∷ []) old mid new
    (subst (λ (d : Around). Places k (marks_of k (placed_items k items) d) old mid) e met) (places_close k mid new closed)

-- ---- loops

module _ (k : Known) (x : Item) (pre : List Item) (test : Op) (post step : List Item) (back : Op) (c : Around) where
  abbrev top : ℕ
  top = first_of (laid_items pre) test.number

  turning_is : (n : ℕ) (t : code.Turning) → IsLoopOf x pre test post step back → IsConditional k pre test post step n t → IsTurningOf k x n t
  turning_is n t of is =
      let whole = Loop pre test post step back of.count in
      subst (λ (y : Item). IsTurningOf k y n t) (sym of.parts) (record {
        first = is.turn.first ∙ sym (ap (λ l. l.first n) (laid-Loop pre test post step back of.count));
        turn = subst (λ (l : Item-F Item). IsTurnBy k l n t.turn) (sym (outs-Loop pre test post step back of.count)) is.turn;
        greatest = subst (λ (l : Item-F Item). IsGreatest (turning_by k l n) 1024 k.board.budget t.greatest.turns t.greatest.homes.items t.greatest.cost) (sym (outs-Loop pre test post step back of.count)) is.greatest;
      })

  pub loop_alone : (t : code.Turning) (old mid new : Placer) → IsLoopOf x pre test post step back → HasClosed old mid → IsConditional k pre test post step c.behind t → StandsAlone mid t new
      → Places k (loop_parts k x pre test post step back c) old new
  loop_alone t old mid new of closed is stands =
      let both = if is_conditional k (turn_of pre test post step) top c.behind then Alone x c.behind ∷ [] else split_parts k pre test post step back c in
      places_two k (Closes ∷ []) both old mid new (places_close k old mid closed)
      (subst (λ (ms : List Mark). Places k ms mid new) (sym (if_so (is_conditional k (turn_of pre test post step) top c.behind) (Alone x c.behind ∷ []) (split_parts k pre test post step back c) is.yes))
      (places_alone k x c.behind t mid new stands (turning_is c.behind t of is)))

  pub loop_split : (old mid new : Placer) → HasClosed old mid → is_conditional k (turn_of pre test post step) (first_of (laid_items pre) test.number) c.behind ≡ false → Places k (split_parts k pre test post step back c) mid new
      → Places k (loop_parts k x pre test post step back c) old new
  loop_split old mid new closed not met =
      let both = if is_conditional k (turn_of pre test post step) top c.behind then Alone x c.behind ∷ [] else split_parts k pre test post step back c in
      places_two k (Closes ∷ []) both old mid new (places_close k old mid closed)
      (subst (λ (ms : List Mark). Places k ms mid new) (sym (if_not (is_conditional k (turn_of pre test post step) top c.behind) (Alone x c.behind ∷ []) (split_parts k pre test post step back c) not)) met)

  -- a part of the loop, with what lies around it as the code holds it
  part_met : (items : List Item) (inner : Around) (again n m : ℕ) (old new : Placer) → again ≡ first_of (laid_items step) back.number → inner ≡ record { behind = n; break_to = c.behind; continue_to = again } → n ≡ m
      → Places k (marks_of k (placed_items k items) inner) old new → Places k (marks_of k (placed_items k items) (in_loop (laid_items step) back c m)) old new
  part_met items inner again n m old new e e' e'' met =
      let same : inner ≡ in_loop (laid_items step) back c m =
      e' ∙ (ap (λ (j : ℕ). record { behind = j; break_to = c.behind; continue_to = again }) e'' ∙ ap (λ (j : ℕ). record { behind = m; break_to = c.behind; continue_to = j }) e) in
      subst (λ (d : Around). Places k (marks_of k (placed_items k items) d) old new) same met

  pub split_met : (again : ℕ) (in_pre in_post in_step : Around) (continued : Bool) (old p q r s t new : Placer) → again ≡ first_of (laid_items step) back.number
      → in_pre ≡ record { behind = test.number; break_to = c.behind; continue_to = again } → Places k (marks_of k (placed_items k pre) in_pre) old p
      → ((y : Node) → y.op ≡ test → Places k (ends y) p q)
      → in_post ≡ record { behind = again; break_to = c.behind; continue_to = again } → Places k (marks_of k (placed_items k post) in_post) q r
      → continued ≡ ((some_continues pre || some_continues post) || some_continues step) → Places k (close_if continued) r s
      → in_step ≡ record { behind = back.number; break_to = c.behind; continue_to = again } → Places k (marks_of k (placed_items k step) in_step) s t
      → ((y : Node) → y.op ≡ back → Places k (ends y) t new)
      → Places k (split_parts k pre test post step back c) old new
  split_met again in_pre in_post in_step continued old p q r s t new e e1 met1 tested e2 met2 cont met3 e3 met4 gone =
      let laid_step = laid_items step in
      let next = first_of laid_step back.number in
      let here = first_of (laid_items pre) test.number in
      let one = part_met pre in_pre again test.number test.number old p e e1 refl met1 in
      let two = part_met post in_post again again next q r e e2 e met2 in
      let three = subst (λ (b : Bool). Places k (close_if b) r s) cont met3 in
      let four = part_met step in_step again back.number back.number s t e e3 refl met4 in
      let test' = test_node test (first_of (laid_items post) next) c.behind in
      let back' = node back here in
      let f = places_two k (marks_of k (placed_items k step) (in_loop laid_step back c back.number)) (ends back') s t new four (gone back' refl) in
      let g = places_two k (close_if ((some_continues pre || some_continues post) || some_continues step)) (marks_of k (placed_items k step) (in_loop laid_step back c back.number) ++ ends back') r s new three f in
      let h = places_two k (marks_of k (placed_items k post) (in_loop laid_step back c next))
      (close_if ((some_continues pre || some_continues post) || some_continues step) ++ (marks_of k (placed_items k step) (in_loop laid_step back c back.number) ++ ends back')) q r new two g in
      let i = places_two k (ends test')
      (marks_of k (placed_items k post) (in_loop laid_step back c next)
      ++ (close_if ((some_continues pre || some_continues post) || some_continues step) ++ (marks_of k (placed_items k step) (in_loop laid_step back c back.number) ++ ends back'))) p q new (tested test' refl) h in
      places_two k (marks_of k (placed_items k pre) (in_loop laid_step back c test.number))
      (ends test'
      ++ (marks_of k (placed_items k post) (in_loop laid_step back c next)
      ++ (close_if ((some_continues pre || some_continues post) || some_continues step) ++ (marks_of k (placed_items k step) (in_loop laid_step back c back.number) ++ ends back')))) old p new one i

-- the chain closes where something holds
pub where_met : (k : Known) (old new : Placer) → HasClosed old new → (b : Bool) → b ≡ true → Places k (close_if b) old new
where_met k old new closed b e = subst (λ (c : Bool). Places k (close_if c) old new) (sym e) (places_close k old new closed)

pub nowhere_met : (k : Known) (p : Placer) (b : Bool) → b ≡ false → Places k (close_if b) p p
nowhere_met k p b e = subst (λ (c : Bool). Places k (close_if c) p p) (sym e) (places_none k p)
