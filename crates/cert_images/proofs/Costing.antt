-- The rows of stretches are those of heads, and the budget pays for each.
use Rattle.std.proofs.Common.{◌≡◌, ℕ, zero, suc, ◌+◌, ◌≤◌, Bool, true, false, Some, None, List, [], ◌∷◌, refl, sym, ap, ◌∙◌, subst, arith}
use Rattle.std.specs.Prelude.{is_some, slice_get, sum_by, pos, if◌then◌else◌}
use Rattle.board_table.specs.declared.board.Board.{Board}
use Rattle.certificate.specs.declared.cert.StretchRow.{StretchRow}
use Rattle.msp430_isa.specs.declared.instr.Src.TheVariants.{Imm}
use Rattle.msp430_isa.specs.declared.instr.Dst.TheVariants.{Abs as ToAbs}
use Rattle.msp430_isa.specs.declared.instr.TwoOp.TheVariants.{Mov as MOV}
use Rattle.msp430_isa.specs.declared.instr.Instr.{Instr}
use Rattle.msp430_isa.specs.declared.instr.Instr.TheVariants.{Two}
use Rattle.msp430_machine.specs.Addresses.{resume}
use Rattle.msp430_machine.specs.Cost.{instruction_cost}
use Rattle.flow_graph.specs.declared.graph.Graph.{Graph}
use Rattle.flow_graph.specs.declared.nodes.Node.{Node}
use Rattle.flow_graph.specs.Nodes.{graph_nodes}
use Rattle.flow_graph.specs.Rules.{IsGraph, IsNumbered, OpFits}
use Rattle.graph_code.specs.Homes.{HaveHomes}
use Rattle.graph_code.specs.Pieces.{address_of, jumps_to}
use Rattle.graph_code.proofs.Pieces.{address_is}
use Rattle.op_cost.specs.Templates.{template, weight_of}
use Rattle.op_cost.specs.Weights.{overhead, sleep_code as sleep_items, wake_code as wake_items, weight}
use Rattle.each_image.specs.Image.{StretchesFit, fram_homes, fram_template, left_at, up_to_head}
use Rattle.each_image.proofs.Places.{steady}
use Rattle.each_image.proofs.Reading.{weight_is}
use Rattle.cert_rules.specs.declared.Rule.TheVariants.{Budget}
use Rattle.cert_rules.specs.Faults.{first_of, unless}
use Rattle.cert_rules.specs.Overhead.{sleep_code, sleep_cost, wake_code, wake_cost}
use Rattle.cert_rules.specs.Tables.{budget_fault}
use Rattle.cert_pieces.proofs.Stepping.{both}
use Rattle.cert_templates.specs.Frames.{bytes_at, cost_to_head, stretch_rows}
use Rattle.cert_images.specs.Images.{positions_by, rows_of_heads}
use Rattle.cert_images.proofs.Coding.{le_is}
use Rattle.cert_images.proofs.Graphing.{get_within}
use Rattle.cert_images.proofs.Placing.{start_at, start_same}

-- ---- Numbers of operations

pub number_at : (xs : List Node) (n k : ℕ) (x : Node) → IsNumbered n xs → slice_get xs k ≡ Some x → x.op.number ≡ n + k
number_at [] n k x h e = absurd (let no : false ≡ true = ap (λ o. is_some o) e in cc)
number_at (y ∷ xs) n zero x h e = let same : y ≡ x = cc in ap (λ (z : Node). z.op.number) (sym same) ∙ h.0 ∙ (let start : n ≡ n + 0 = omega arith in start)
number_at (y ∷ xs) n (suc k) x h e = number_at xs (n + 1) k x h.1 e ∙ (let shift : n + 1 + k ≡ n + suc k = omega arith in shift)

pub number_is : (g : Graph) → IsGraph g → (k : ℕ) (x : Node) → slice_get (graph_nodes g) k ≡ Some x → x.op.number ≡ k
number_is g rules k x e = number_at (graph_nodes g) 0 k x rules.numbered e ∙ (let start : 0 + k ≡ k = omega arith in start)

-- where an operation's code begins
pub start_there : (g : Graph) (heads : ℕ → Bool) (j : ℕ) → address_of (fram_template g) heads g j ≡ start_at (fram_homes g) 0x8012 (positions_by (address_of (fram_template g) heads g) heads (graph_nodes g)) j
start_there g heads j = address_is (fram_template g) heads (steady g) g j ∙ start_same g heads (address_of (fram_template g) heads g) 9 (graph_nodes g) j

-- ---- A wake and a sleep

abbrev sum_of : (Instr → ℕ) → List Instr → ℕ
sum_of f [] = 0
sum_of f (i ∷ is) = f i + sum_of f is

abbrev resume_is : ℕ → Instr
resume_is r = Two MOV false (Imm r) (ToAbs resume)

sums_same : (f : Instr → ℕ) → f (resume_is 0x8024) ≡ f (resume_is 0) → sum_by f wake_items + sum_by f sleep_items ≡ sum_of f wake_code + sum_of f sleep_code
sums_same f e = omega (arith, e)

-- What MOV #r,&RESUME costs doesn't depend on r.
overhead_parts : (b : Board) → overhead b ≡ wake_cost b + sleep_cost b
overhead_parts b = sums_same (λ i. instruction_cost b i) refl

-- ---- Rows

module _ (b : Board) (heads : ℕ → Bool) (g : Graph) (homes : HaveHomes g) (address : ℕ → ℕ) where
  abbrev AllOpsFit : List Node → Type 0
  AllOpsFit [] = Unit {0}
  AllOpsFit (x ∷ xs) = OpFits g x.op × AllOpsFit xs

  all_fit : (xs : List Node) → ((k : ℕ) (x : Node) → slice_get xs k ≡ Some x → OpFits g x.op) → AllOpsFit xs
  all_fit [] h = tt
  all_fit (x ∷ xs) h = (h 0 x refl, all_fit xs (λ k y e. h (suc k) y e))

  costs_to_head : (xs : List Node) → AllOpsFit xs → cost_to_head b (fram_homes g) (positions_by address heads xs) ≡ up_to_head b heads xs
  costs_to_head [] f = refl
  costs_to_head (x ∷ xs) f = by (heads x.op.number) (costs_to_head xs f.1)
    where
      by : (c : Bool) → cost_to_head b (fram_homes g) (positions_by address heads xs) ≡ up_to_head b heads xs
          → (if c then 0 else weight_of b (template (fram_homes g) (address (jumps_to x.next)) x.op) + cost_to_head b (fram_homes g) (positions_by address heads xs)) ≡ (if c then 0 else weight b [] x.op + up_to_head b heads xs)
      by true e = refl
      by false e = let own = weight_is g homes b (address (jumps_to x.next)) x.op f.0 in omega (arith, own, e)

  -- operations stand where the address says
  abbrev StandThere : ℕ → List Node → Type 0
  StandThere a xs = (k : ℕ) (x : Node) → slice_get xs k ≡ Some x → address x.op.number ≡ start_at (fram_homes g) a (positions_by address heads xs) k

  rows_by : (xs : List Node) (a : ℕ) → AllOpsFit xs → StandThere a xs → stretch_rows b (fram_homes g) a (positions_by address heads xs) ≡ rows_of_heads b heads address xs
  rows_by [] a f at = refl
  rows_by (x ∷ xs) a f at = by (heads x.op.number) (rows_by xs (a + bytes) f.1 (λ k y e. at (suc k) y e))
    where
      bytes : ℕ
      bytes = bytes_at (fram_homes g) (record { op = x.op; target = address (jumps_to x.next); has_head = heads x.op.number })

      row : ℕ → ℕ → StretchRow
      row start cost = record { head = start; chain = 1; turns = 0; cost = cost }

      before : ℕ
      before = wake_cost b + sleep_cost b + (weight_of b (template (fram_homes g) (address (jumps_to x.next)) x.op) + cost_to_head b (fram_homes g) (positions_by address heads xs))

      costs : before ≡ weight b [] x.op + up_to_head b heads xs + overhead b
      costs =
          let own = weight_is g homes b (address (jumps_to x.next)) x.op f.0 in
          let rest = costs_to_head xs f.1 in
          let around = overhead_parts b in
          omega (arith, own, rest, around)

      by : (c : Bool) → stretch_rows b (fram_homes g) (a + bytes) (positions_by address heads xs) ≡ rows_of_heads b heads address xs
          → (if c then row a before ∷ stretch_rows b (fram_homes g) (a + bytes) (positions_by address heads xs) else stretch_rows b (fram_homes g) (a + bytes) (positions_by address heads xs))
          ≡ (if c then row (address x.op.number) (weight b [] x.op + up_to_head b heads xs + overhead b) ∷ rows_of_heads b heads address xs else rows_of_heads b heads address xs)
      by true e =
          ap (λ rows. row a before ∷ rows) e ∙ ap (λ s. row s before ∷ rows_of_heads b heads address xs) (sym (at 0 x refl))
          ∙ ap (λ n. row (address x.op.number) n ∷ rows_of_heads b heads address xs) costs
      by false e = e

  -- the budget pays for what is left at each head
  abbrev Afforded : List Node → Type 0
  Afforded xs = (k : ℕ) (x : Node) → slice_get xs k ≡ Some x → heads x.op.number ≡ true → left_at b heads xs k + overhead b ≤ b.budget

  rows_afford : (xs : List Node) → Afforded xs → first_of (budget_fault b.budget) (rows_of_heads b heads address xs) ≡ None
  rows_afford [] h = refl
  rows_afford (x ∷ xs) h = by (heads x.op.number) refl (rows_afford xs (λ k y e has. h (suc k) y e has))
    where
      by : (c : Bool) → heads x.op.number ≡ c → first_of (budget_fault b.budget) (rows_of_heads b heads address xs) ≡ None
          → first_of (budget_fault b.budget) (if c then record { head = address x.op.number; chain = 1; turns = 0; cost = weight b [] x.op + up_to_head b heads xs + overhead b } ∷ rows_of_heads b heads address xs else rows_of_heads b heads address xs) ≡ None
      by true e rest =
          both _ _ (ap (λ c. unless c Budget (address x.op.number) (pos (weight b [] x.op + up_to_head b heads xs + overhead b)) (pos b.budget)) (le_is _ _ (h 0 x refl e))) rest
      by false e rest = rest

module _ (b : Board) (heads : ℕ → Bool) (g : Graph) (rules : IsGraph g) (homes : HaveHomes g) where
  abbrev places : ℕ → ℕ
  places = address_of (fram_template g) heads g

  pub rows_are : stretch_rows b (fram_homes g) 0x8012 (positions_by places heads (graph_nodes g)) ≡ rows_of_heads b heads places (graph_nodes g)
  rows_are = rows_by b heads g homes places (graph_nodes g) 0x8012 (all_fit b heads g homes places (graph_nodes g) rules.operations)
      (λ k x e. ap (λ n. places n) (number_is g rules k x e) ∙ start_there g heads k)

  pub budgets_fine : StretchesFit b heads g → first_of (budget_fault b.budget) (stretch_rows b (fram_homes g) 0x8012 (positions_by places heads (graph_nodes g))) ≡ None
  budgets_fine fit =
      ap (λ rows. first_of (budget_fault b.budget) rows) rows_are
      ∙ rows_afford b heads g homes places (graph_nodes g)
      (λ k x e has. fit k (get_within (graph_nodes g) k x e) (subst (λ n. heads n ≡ true) (number_is g rules k x e) has))
