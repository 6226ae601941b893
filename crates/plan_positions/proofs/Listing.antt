-- The positions of a section as the code makes them are those of the definition.
use Rattle.std.proofs.Common.{◌≡◌, ℕ, ◌+◌, ◌-◌, true, false, List, [], ◌∷◌, ◌++◌, length, refl, ap, ◌∙◌, append_assoc}
use Rattle.std.specs.Prelude.{map, take, drop, Vec}
use Rattle.std.specs.declared.alloc.Global.{Global}
use Rattle.flow_graph.specs.declared.graph.Func.{Func}
use Rattle.flow_graph.specs.declared.nodes.Next.{Next}
use Rattle.flow_graph.specs.declared.nodes.Next.TheVariants as next
use Rattle.flow_graph.specs.declared.nodes.Node.{Node}
use Rattle.chain_units.specs.Known.{Known}
use Rattle.plan_code.specs.Sections as code
use Rattle.plan_code.specs.Positions as positions
use Rattle.plan_positions.specs.declared.section.Shape.{Shape}
use Rattle.plan_positions.specs.declared.section.Shape.TheVariants.{Callee, Straight, Rounds}
use Rattle.plan_positions.specs.declared.section.Section.{Section}
use Rattle.plan_positions.specs.declared.position.Goal.TheVariants.{To}
use Rattle.plan_positions.specs.declared.position.Position.{Position}
use Rattle.plan_positions.specs.declared.frame.Frame.{Frame}
use Rattle.plan_positions.specs.Listed.{end_goal_by, ending_by, exit_by, front_by, going_by, head_by, inner_by, inner_goal_by, listed_by, restore_by, save_by, sets_by, turn_begun_by, turn_ended_by}
use Rattle.plan_positions.specs.Told.{told, told_goal, told_section}

pub map_join : {A B : Type 0} (f : A → B) (xs ys : List A) → map f (xs ++ ys) ≡ map f xs ++ map f ys
map_join f [] ys = refl
map_join f (x ∷ xs) ys = ap (λ l. f x ∷ l) (map_join f xs ys)

map_both : {A B C : Type 0} (f : A → B) (g : B → C) (h : A → C) → ((x : A) → g (f x) ≡ h x) → (xs : List A) → map g (map f xs) ≡ map h xs
map_both f g h same [] = refl
map_both f g h same (x ∷ xs) = ap (λ y. y ∷ map g (map f xs)) (same x) ∙ ap (λ l. h x ∷ l) (map_both f g h same xs)

module _ (k : Known) (at first behind chain cost : ℕ) (homes : Vec ℕ Global) where
  abbrev section : Shape → Section
  section shape = record { first = first; behind = behind; shape = shape; homes = homes; chain = chain; cost = cost }

  abbrev s : Shape → code.Section
  s shape = told_section (section shape)

  abbrev restored : Shape → List ℕ
  restored shape = positions.restored k (s shape)

  abbrev saved : Shape → List ℕ
  saved shape = positions.saved k (s shape)

  abbrev frame : Shape → Frame
  frame shape = record {
    at = at;
    first = first;
    behind = behind;
    front = front_by shape (length (restored shape));
    exit = exit_by shape (front_by shape (length (restored shape))) (behind - first) (length (saved shape));
  }

  goal_told : (shape : Shape) (n : Next) → told_goal (inner_goal_by (frame shape) k.graph.functions n) ≡ positions.inner_goal k at (s shape) n
  goal_told Callee (next.To n) = refl
  goal_told Callee (next.Either n m) = refl
  goal_told Callee (next.Into h n) = refl
  goal_told Callee next.Returns = refl
  goal_told Callee next.Ends = refl
  goal_told (Straight ends) (next.To n) = refl
  goal_told (Straight ends) (next.Either n m) = refl
  goal_told (Straight ends) (next.Into h n) = refl
  goal_told (Straight ends) next.Returns = refl
  goal_told (Straight ends) next.Ends = refl
  goal_told (Rounds turns) (next.To n) = refl
  goal_told (Rounds turns) (next.Either n m) = refl
  goal_told (Rounds turns) (next.Into h n) = refl
  goal_told (Rounds turns) next.Returns = refl
  goal_told (Rounds turns) next.Ends = refl

  end_told : (shape : Shape) (n : Next) → told_goal (end_goal_by k.graph.functions n) ≡ positions.end_goal k at (s shape) n
  end_told shape (next.To n) = refl
  end_told shape (next.Either n m) = refl
  end_told shape (next.Into h n) = refl
  end_told shape next.Returns = refl
  end_told shape next.Ends = refl

  abbrev here : Shape → ℕ → positions.What → positions.Goal → positions.Position
  here shape spot what goal = positions.here k at (s shape) spot what goal

  inners : (shape : Shape) (xs : List Node) → map (told (s shape)) (map (inner_by (frame shape) k.graph.functions) xs) ≡ map (positions.inner k at (s shape)) xs
  inners shape xs = map_both (inner_by (frame shape) k.graph.functions) (told (s shape)) (positions.inner k at (s shape)) (λ x. ap (λ g. here shape x.op.number (positions.Does x) g) (goal_told shape x.next)) xs

  endings : (shape : Shape) (xs : List Node) → map (told (s shape)) (map (ending_by k.graph.functions) xs) ≡ map (positions.ending k at (s shape)) xs
  endings shape xs = map_both (ending_by k.graph.functions) (told (s shape)) (positions.ending k at (s shape)) (λ x. ap (λ g. here shape x.op.number (positions.Does x) g) (end_told shape x.next)) xs

  goings : (shape : Shape) (i : ℕ) (xs : List Node) → map (told (s shape)) (map (going_by (To i)) xs) ≡ map (positions.going k at (s shape) (positions.To i)) xs
  goings shape i xs = map_both (going_by (To i)) (told (s shape)) (positions.going k at (s shape) (positions.To i)) (λ x. refl) xs

  saves : (shape : Shape) (spot : ℕ) → map (told (s shape)) (map (save_by spot) (saved shape)) ≡ positions.saves_at k at (s shape) spot
  saves shape spot = map_both (save_by spot) (told (s shape)) (λ o. here shape spot (positions.Saves o) positions.Nowhere) (λ o. refl) (saved shape)

  heads : (shape : Shape) → map (told (s shape)) (head_by first (restored shape)) ≡ positions.head_and_restores k at (s shape)
  heads shape = ap (λ l. here shape first positions.Sleeps positions.Nowhere ∷ l)
      (map_both (restore_by first) (told (s shape)) (λ o. here shape first (positions.Restores o) positions.Nowhere) (λ o. refl) (restored shape))

  -- two parts that are told
  joined : (shape : Shape) (xs ys : List Position) (us vs : List positions.Position) → map (told (s shape)) xs ≡ us → map (told (s shape)) ys ≡ vs → map (told (s shape)) (xs ++ ys) ≡ us ++ vs
  joined shape xs ys us vs e d = map_join (told (s shape)) xs ys ∙ (ap (λ l. l ++ map (told (s shape)) ys) e ∙ ap (λ l. us ++ l) d)

  abbrev nodes : Shape → List Node
  nodes shape = positions.nodes_in k.graph (s shape)

  abbrev leading : Shape → List Node
  leading shape = take (behind - first - 1) (nodes shape)

  abbrev last : Shape → List Node
  last shape = drop (behind - first - 1) (nodes shape)

  ended : (turns : ℕ) → map (told (s (Rounds turns))) (turn_ended_by (frame (Rounds turns)) (saved (Rounds turns)) (nodes (Rounds turns)))
      ≡ positions.turn_ends k at (s (Rounds turns)) ∷ (map (positions.going k at (s (Rounds turns)) (positions.To (at + positions.front_size k (s (Rounds turns)).opening.shape (s (Rounds turns))))) (last (Rounds turns))
      ++ (positions.saves_at k at (s (Rounds turns)) (behind - 1) ++ (map (positions.going k at (s (Rounds turns)) (positions.To at)) (last (Rounds turns)) ++ positions.saves_at k at (s (Rounds turns)) behind)))
  ended turns =
      ap (λ l. positions.turn_ends k at (s (Rounds turns)) ∷ l)
      (joined (Rounds turns) _ _ _ _ (goings (Rounds turns) _ (last (Rounds turns)))
      (joined (Rounds turns) _ _ _ _ (saves (Rounds turns) (behind - 1))
      (joined (Rounds turns) _ _ _ _ (goings (Rounds turns) _ (last (Rounds turns))) (saves (Rounds turns) behind))))

  begun : (turns : ℕ) → map (told (s (Rounds turns))) (turn_begun_by (frame (Rounds turns)) k.graph.functions (restored (Rounds turns)) (nodes (Rounds turns)) turns)
      ≡ positions.head_and_restores k at (s (Rounds turns)) ++ here (Rounds turns) first (positions.Sets turns) positions.Nowhere ∷ map (positions.inner k at (s (Rounds turns))) (leading (Rounds turns))
  begun turns = joined (Rounds turns) (head_by first (restored (Rounds turns)))
      (sets_by (frame (Rounds turns)) turns ∷ map (inner_by (frame (Rounds turns)) k.graph.functions) (leading (Rounds turns)))
      (positions.head_and_restores k at (s (Rounds turns)))
      (here (Rounds turns) first (positions.Sets turns) positions.Nowhere ∷ map (positions.inner k at (s (Rounds turns))) (leading (Rounds turns)))
      (heads (Rounds turns)) (ap (λ l. here (Rounds turns) first (positions.Sets turns) positions.Nowhere ∷ l) (inners (Rounds turns) (leading (Rounds turns))))

  abbrev head : Shape → List Position
  head shape = head_by first (restored shape)

  abbrev inner : Shape → List Node → List Position
  inner shape xs = map (inner_by (frame shape) k.graph.functions) xs

  abbrev save : Shape → ℕ → List Position
  save shape spot = map (save_by spot) (saved shape)

  abbrev ending : List Node → List Position
  ending xs = map (ending_by k.graph.functions) xs

  abbrev inner_told : Shape → List Node → List positions.Position
  inner_told shape xs = map (positions.inner k at (s shape)) xs

  abbrev save_told : Shape → ℕ → List positions.Position
  save_told shape spot = positions.saves_at k at (s shape) spot

  abbrev head_told : Shape → List positions.Position
  head_told shape = positions.head_and_restores k at (s shape)

  abbrev ending_told : Shape → List Node → List positions.Position
  ending_told shape xs = map (positions.ending k at (s shape)) xs

  open_stretch : map (told (s (Straight false))) (listed_by (Straight false) (frame (Straight false)) k.graph.functions (restored (Straight false)) (saved (Straight false)) (nodes (Straight false)))
      ≡ positions.section_positions k at (s (Straight false))
  open_stretch =
      let sh : Shape = Straight false in
      joined sh (head sh) (inner sh (nodes sh) ++ save sh behind) (head_told sh) (inner_told sh (nodes sh) ++ save_told sh behind) (heads sh)
      (joined sh (inner sh (nodes sh)) (save sh behind) (inner_told sh (nodes sh)) (save_told sh behind) (inners sh (nodes sh)) (saves sh behind))

  ended_stretch : map (told (s (Straight true))) (listed_by (Straight true) (frame (Straight true)) k.graph.functions (restored (Straight true)) (saved (Straight true)) (nodes (Straight true)))
      ≡ positions.section_positions k at (s (Straight true))
  ended_stretch =
      let sh : Shape = Straight true in
      joined sh (head sh) (inner sh (leading sh) ++ (save sh (behind - 1) ++ ending (last sh))) (head_told sh) (inner_told sh (leading sh) ++ (save_told sh (behind - 1) ++ ending_told sh (last sh))) (heads sh)
      (joined sh (inner sh (leading sh)) (save sh (behind - 1) ++ ending (last sh)) (inner_told sh (leading sh)) (save_told sh (behind - 1) ++ ending_told sh (last sh)) (inners sh (leading sh))
      (joined sh (save sh (behind - 1)) (ending (last sh)) (save_told sh (behind - 1)) (ending_told sh (last sh)) (saves sh (behind - 1)) (endings sh (last sh))))

  abbrev begun_told : ℕ → List positions.Position
  begun_told turns = here (Rounds turns) first (positions.Sets turns) positions.Nowhere ∷ inner_told (Rounds turns) (leading (Rounds turns))

  abbrev ended_told : ℕ → List positions.Position
  ended_told turns =
      positions.turn_ends k at (s (Rounds turns)) ∷ (map (positions.going k at (s (Rounds turns)) (positions.To (at + positions.front_size k (s (Rounds turns)).opening.shape (s (Rounds turns))))) (last (Rounds turns))
      ++ (positions.saves_at k at (s (Rounds turns)) (behind - 1) ++ (map (positions.going k at (s (Rounds turns)) (positions.To at)) (last (Rounds turns)) ++ positions.saves_at k at (s (Rounds turns)) behind)))

  turning : (turns : ℕ) → map (told (s (Rounds turns))) (listed_by (Rounds turns) (frame (Rounds turns)) k.graph.functions (restored (Rounds turns)) (saved (Rounds turns)) (nodes (Rounds turns)))
      ≡ positions.section_positions k at (s (Rounds turns))
  turning turns =
      joined (Rounds turns) (turn_begun_by (frame (Rounds turns)) k.graph.functions (restored (Rounds turns)) (nodes (Rounds turns)) turns) (turn_ended_by (frame (Rounds turns)) (saved (Rounds turns)) (nodes (Rounds turns)))
      (head_told (Rounds turns) ++ begun_told turns) (ended_told turns) (begun turns) (ended turns)
      ∙ append_assoc (head_told (Rounds turns)) (begun_told turns) (ended_told turns)

  all : (shape : Shape) → map (told (s shape)) (listed_by shape (frame shape) k.graph.functions (restored shape) (saved shape) (nodes shape)) ≡ positions.section_positions k at (s shape)
  all Callee = inners Callee (nodes Callee)
  all (Straight false) = open_stretch
  all (Straight true) = ended_stretch
  all (Rounds turns) = turning turns

-- by what was called
pub section_told : (k : Known) (at : ℕ) (section : Section) (f : Frame) (functions : List Func) (restored saved : List ℕ) (nodes : List Node) → f.at ≡ at → f.first ≡ section.first → f.behind ≡ section.behind
    → f.front ≡ front_by section.shape (length restored)
    → f.exit ≡ exit_by section.shape (front_by section.shape (length restored)) (section.behind - section.first) (length saved)
    → functions ≡ k.graph.functions → restored ≡ positions.restored k (told_section section) → saved ≡ positions.saved k (told_section section)
    → nodes ≡ positions.nodes_in k.graph (told_section section)
    → map (told (told_section section)) (listed_by section.shape f functions restored saved nodes) ≡ positions.section_positions k at (told_section section)
section_told k at section f functions restored saved nodes e_at e_first e_behind e_front e_exit e_functions e_restored e_saved e_nodes =
    let one : Frame → List Func → List ℕ → List ℕ → List Node → List positions.Position = λ h fs r v xs. map (told (told_section section)) (listed_by section.shape h fs r v xs) in
    let same : f ≡ record {
      at = at;
      first = section.first;
      behind = section.behind;
      front = front_by section.shape (length restored);
      exit = exit_by section.shape (front_by section.shape (length restored)) (section.behind - section.first) (length saved);
    } =
    λ i. record { at = e_at i; first = e_first i; behind = e_behind i; front = e_front i; exit = e_exit i } in
    let by : List ℕ → List ℕ → Frame = λ r v. record {
      at = at;
      first = section.first;
      behind = section.behind;
      front = front_by section.shape (length r);
      exit = exit_by section.shape (front_by section.shape (length r)) (section.behind - section.first) (length v);
    } in
    ap (λ h. one h functions restored saved nodes) same
    ∙ (ap (λ fs. one (by restored saved) fs restored saved nodes) e_functions
    ∙ (ap (λ r. one (by r saved) k.graph.functions r saved nodes) e_restored
    ∙ (ap (λ v. one (by (positions.restored k (told_section section)) v) k.graph.functions (positions.restored k (told_section section)) v nodes) e_saved
    ∙ (ap (λ xs. one (by (positions.restored k (told_section section)) (positions.saved k (told_section section))) k.graph.functions (positions.restored k (told_section section)) (positions.saved k (told_section section)) xs) e_nodes
    ∙ all k at section.first section.behind section.chain section.cost section.homes section.shape))))
