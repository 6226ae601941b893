-- The instructions of an image are of the profile.
use Rattle.std.proofs.Common.{◌≡◌, ℕ, suc, ◌+◌, ◌*◌, ◌<◌, ◌≤◌, Bool, true, false, Option, Some, None, List, [], ◌∷◌, ◌++◌, refl, sym, ap, ◌∙◌, subst, arith}
use Rattle.std.specs.Prelude.{nat_lt, ◌&&◌, if◌then◌else◌, IsTrue, All, ⊤, slice_get}
use Rattle.std.proofs.lemmas.Bool.{and_parts}
use Rattle.std.proofs.lemmas.Bool.Decides.{nat_tests}
use Rattle.std.proofs.lemmas.List.Elements.{All-nil, All-cons, All-append, All-from_recursion}
use Rattle.msp430_isa.specs.declared.instr.Instr.{Instr}
use Rattle.msp430_isa.specs.declared.instr.Instr.TheVariants.{Two}
use Rattle.msp430_isa.specs.declared.instr.Src.TheVariants.{Imm, Short}
use Rattle.msp430_isa.specs.declared.instr.Dst.TheVariants.{Abs as ToAbs}
use Rattle.msp430_isa.specs.declared.instr.TwoOp.{TwoOp}
use Rattle.msp430_isa.specs.declared.instr.TwoOp.TheVariants.{Mov as MOV, Cmp as CMP}
use Rattle.msp430_isa.specs.Profile.{in_profile, is_constant}
use Rattle.flow_graph.specs.declared.graph.ArrayUse.{ArrayUse}
use Rattle.flow_graph.specs.declared.graph.Object as declared
use Rattle.flow_graph.specs.declared.graph.Op.{Op}
use Rattle.flow_graph.specs.declared.graph.Operand.{Operand}
use Rattle.flow_graph.specs.declared.graph.Operand.TheVariants.{Const, Object}
use Rattle.flow_graph.specs.declared.graph.OpKind.{OpKind}
use Rattle.flow_graph.specs.declared.graph.OpKind.TheVariants as kind
use Rattle.flow_graph.specs.declared.graph.Graph.{Graph}
use Rattle.flow_graph.specs.declared.nodes.Node.{Node}
use Rattle.flow_graph.specs.Nodes.{graph_nodes}
use Rattle.flow_graph.specs.Rules.{ArrayFits, HasWords, IsGraph, OpFits, OperandFits, parts_of}
use Rattle.resumed_runs.specs.Code.{boot, head, size_of}
use Rattle.laid_code.specs.Chosen.{chosen_code, head_code, head_size}
use Rattle.graph_code.specs.Homes.{HaveHomes}
use Rattle.graph_code.specs.Pieces.{address_of, jumps_to, pieces, pieces_by}
use Rattle.graph_code.proofs.Pieces.{address_is}
use Rattle.op_cost.specs.Templates.{Counted, Homes, array_of, binary, by, code_of, constant, core, go, length_in, loads, once, operand_place, place_of, result, source, stores, template_by, unary}
use Rattle.each_image.specs.Image.{code_words, fram_homes, fram_template}
use Rattle.each_image.proofs.Places.{head_sized, place_low, size-append, steady}

abbrev Is : Instr → Type 0
Is i = IsTrue (in_profile i)

-- ---- Tests of lists

abbrev fine : List Counted → Bool
fine [] = true
fine (c ∷ cs) = in_profile c.instr && fine cs

both : (a b : Bool) → a ≡ true → b ≡ true → (a && b) ≡ true
both a b e f = ap (λ x. x && b) e ∙ f

fine_append : (xs ys : List Counted) → fine xs ≡ true → fine ys ≡ true → fine (xs ++ ys) ≡ true
fine_append [] ys h k = k
fine_append (x ∷ xs) ys h k = let p = and_parts (in_profile x.instr) (fine xs) h in both (in_profile x.instr) (fine (xs ++ ys)) p.0 (fine_append xs ys p.1 k)

fine_is : (cs : List Counted) → fine cs ≡ true → All (λ i. IsTrue (in_profile i)) (code_of cs)
fine_is [] h = All-nil Is
fine_is (c ∷ cs) h = let p = and_parts (in_profile c.instr) (fine cs) h in All-cons Is c.instr (code_of cs) p.0 (fine_is cs p.1)

-- ---- Instructions

word : (v : ℕ) → v < 65536 → nat_lt v 65536 ≡ true
word v low = grind (arith, nat_tests)

-- a constant is a word
abbrev ConstLow : Operand → Type 0
ConstLow (Const v) = v < 65536
ConstLow (Object o) = ⊤

abbrev AreLow : Homes → Type 0
AreLow homes = (o : ℕ) → homes o < 65536

abbrev by_source : Bool → TwoOp → ℕ → ℕ → Instr
by_source c op v r = by op (if c then Short v else Imm v) r

first_fine : (homes : Homes) → AreLow homes → (a : Operand) → ConstLow a → in_profile (loads homes 15 a) ≡ true
first_fine homes low (Const v) h =
    elim (is_constant v) as (λ c. is_constant v ≡ c → in_profile (by_source c MOV v 15) ≡ true) [
      | true ↦ λ e. ap (λ c. c && true && true && true && true && true && (true && true)) e
      | false ↦ λ e. ap (λ c. c && true) (word v h)
    ] refl
first_fine homes low (Object o) h = ap (λ c. c && true) (word (homes o) (low o))

second_fine : (homes : Homes) → AreLow homes → (a : Operand) → ConstLow a → in_profile (loads homes 14 a) ≡ true
second_fine homes low (Const v) h =
    elim (is_constant v) as (λ c. is_constant v ≡ c → in_profile (by_source c MOV v 14) ≡ true) [
      | true ↦ λ e. ap (λ c. c && true && true && true && true && true && (true && true)) e
      | false ↦ λ e. ap (λ c. c && true) (word v h)
    ] refl
second_fine homes low (Object o) h = ap (λ c. c && true) (word (homes o) (low o))

-- an index is compared with a length
tests_fine : (n : ℕ) → n < 65536 → in_profile (by CMP (constant n) 14) ≡ true
tests_fine n h =
    elim (is_constant n) as (λ c. is_constant n ≡ c → in_profile (by_source c CMP n 14) ≡ true) [
      | true ↦ λ e. ap (λ c. c && true && true && true && true && true && (true && true)) e
      | false ↦ λ e. ap (λ c. c && true) (word n h)
    ] refl

abbrev compares : Bool → ℕ → ℕ → Instr
compares c v d = Two CMP false (if c then Short v else Imm v) (ToAbs d)

-- a variable is compared with its bound
below_fine : (homes : Homes) → AreLow homes → (b : Operand) → ConstLow b → (d : ℕ) → d < 65536 → in_profile (Two CMP false (source homes b) (ToAbs d)) ≡ true
below_fine homes low (Const v) h d small =
    elim (is_constant v) as (λ c. is_constant v ≡ c → in_profile (compares c v d) ≡ true) [
      | true ↦ λ e. both _ _ (ap (λ c. c && true && true && true && true && true) e) (word d small)
      | false ↦ λ e. both _ _ (word v h) (word d small)
    ] refl
below_fine homes low (Object o) h d small = both _ _ (word (homes o) (low o)) (word d small)

-- the result goes to its place
result_fine : (k : OpKind) (d : ℕ) → d < 65536 → in_profile (stores (result k) d) ≡ true
result_fine kind.Mul d low = word d low
result_fine k d low = word d low

go_fine : (target : ℕ) → target < 65536 → in_profile (go target) ≡ true
go_fine target low = ap (λ c. c && true) (word target low)

core_fine : (k : OpKind) → fine (core k) ≡ true
core_fine kind.Mul = refl
core_fine k = refl

-- ---- Places

dest_low : (homes : Homes) → AreLow homes → (dest : Option ℕ) → place_of homes dest < 65536
dest_low homes low None = omega arith
dest_low homes low (Some o) = low o

array_low : (homes : Homes) → AreLow homes → (array : Option ArrayUse) → array_of homes array < 65536
array_low homes low None = omega arith
array_low homes low (Some u) = low u.object

operand_low : (homes : Homes) → AreLow homes → (a : Operand) → operand_place homes a < 65536
operand_low homes low (Const v) = omega arith
operand_low homes low (Object o) = low o

-- ---- Templates

module _ (homes : Homes) (low : AreLow homes) (target : ℕ) (goes : target < 65536) (op : Op) (a : ConstLow op.a) (b : ConstLow op.b) (n : length_in op.array < 65536) where
  load_a : in_profile (loads homes 15 op.a) ≡ true
  load_a = first_fine homes low op.a a

  store_d : in_profile (stores 15 (place_of homes op.dest)) ≡ true
  store_d = word (place_of homes op.dest) (dest_low homes low op.dest)

  unary_fine : fine (unary homes op) ≡ true
  unary_fine =
      fine_append (once (loads homes 15 op.a ∷ []) ++ core op.kind) (once (stores (result op.kind) (place_of homes op.dest) ∷ []))
      (fine_append (once (loads homes 15 op.a ∷ [])) (core op.kind) (both _ true load_a refl) (core_fine op.kind))
      (both _ true (result_fine op.kind (place_of homes op.dest) (dest_low homes low op.dest)) refl)

  binary_fine : fine (binary homes op) ≡ true
  binary_fine =
      fine_append (once (loads homes 15 op.a ∷ loads homes 14 op.b ∷ []) ++ core op.kind) (once (stores (result op.kind) (place_of homes op.dest) ∷ []))
      (fine_append (once (loads homes 15 op.a ∷ loads homes 14 op.b ∷ [])) (core op.kind) (both _ _ load_a (both _ true (second_fine homes low op.b b) refl)) (core_fine op.kind))
      (both _ true (result_fine op.kind (place_of homes op.dest) (dest_low homes low op.dest)) refl)

  by_kind : (k : OpKind) → fine (template_by k homes target op) ≡ true
  by_kind kind.Copy = unary_fine
  by_kind kind.Neg = unary_fine
  by_kind kind.Inv = unary_fine
  by_kind kind.ToU8 = unary_fine
  by_kind kind.ToS8 = unary_fine
  by_kind kind.Load =
      both _ _ (second_fine homes low op.a a)
      (both _ _ (tests_fine (length_in op.array) n) (both _ _ (ap (λ c. c && true) (word (array_of homes op.array) (array_low homes low op.array))) (both _ true store_d refl)))
  by_kind kind.Store =
      both _ _ load_a (both _ _ (second_fine homes low op.b b)
      (both _ _ (tests_fine (length_in op.array) n) (both _ true (word (array_of homes op.array) (array_low homes low op.array)) refl)))
  by_kind kind.Input = both _ true store_d refl
  by_kind kind.Output = both _ true load_a refl
  by_kind kind.Finish = both _ true load_a refl
  by_kind kind.Test = both _ _ load_a (both _ true (go_fine target goes) refl)
  by_kind kind.Below = both _ _ (below_fine homes low op.b b (operand_place homes op.a) (operand_low homes low op.a)) (both _ true (go_fine target goes) refl)
  by_kind kind.Step = both _ true (word (place_of homes op.dest) (dest_low homes low op.dest)) refl
  by_kind kind.Go = both _ true (go_fine target goes) refl
  by_kind kind.Call = both _ true (word target goes) refl
  by_kind kind.Ret = refl
  by_kind k = binary_fine

-- ---- Operations of a graph

const_low : (g : Graph) (used : Bool) (a : Operand) → OperandFits g used a → ConstLow a
const_low g true (Const w) h = h
const_low g true (Object o) h = tt
const_low g false a h = subst ConstLow (sym h) (omega arith)

words_low : (g : Graph) → IsGraph g → (o n : ℕ) (x : Option declared.Object) → slice_get g.objects o ≡ x → HasWords n x → n < 65536
words_low g rules o n None e h = absurd h
words_low g rules o n (Some x) e h = let size = (rules.objects o x e).size in omega (arith, size, h)

length_low : (g : Graph) → IsGraph g → (used : Bool) (array : Option ArrayUse) → ArrayFits g used array → length_in array < 65536
length_low g rules true None h = absurd h
length_low g rules true (Some u) h = words_low g rules u.object u.length (slice_get g.objects u.object) refl h.0
length_low g rules false array h = subst (λ x. length_in x < 65536) (sym h) (omega arith)

module _ (g : Graph) (rules : IsGraph g) (homes : HaveHomes g) where
  fram_low : AreLow (fram_homes g)
  fram_low o = let r = homes.room o in omega (arith, r)

  pub template_allowed : (target : ℕ) → target < 65536 → (op : Op) → OpFits g op → All (λ i. IsTrue (in_profile i)) (fram_template g target op)
  template_allowed target goes op fits =
      fine_is (template_by op.kind (fram_homes g) target op)
      (by_kind (fram_homes g) fram_low target goes op (const_low g (parts_of op.kind).a op.a fits.a) (const_low g (parts_of op.kind).b op.b fits.b)
      (length_low g rules (parts_of op.kind).array op.array fits.array) op.kind)

-- ---- The code

pub head_allowed : (r : ℕ) → r < 65536 → All (λ i. IsTrue (in_profile i)) (head r)
head_allowed r low = All-from_recursion Is (head r) (refl, (ap (λ c. c && true) (word r low), (refl, (refl, (refl, tt)))))

head_code_allowed : (c : Bool) (k : ℕ) → k + head_size c ≤ 0x3FC0 → All (λ i. IsTrue (in_profile i)) (head_code c k)
head_code_allowed true k room = head_allowed (0x8000 + 2 * (k + 9)) (omega (arith, room))
head_code_allowed false k room = All-nil Is

module _ (g : Graph) (rules : IsGraph g) (homes : HaveHomes g) (heads : ℕ → Bool) (address : ℕ → ℕ) (low : (n : ℕ) → address n < 65536) where
  pieces_allowed : (k : ℕ) (xs : List Node) → ((n : ℕ) (x : Node) → slice_get xs n ≡ Some x → OpFits g x.op) → k + size_of (chosen_code k (pieces_by (fram_template g) heads address xs)) ≤ 0x3FC0
      → All (λ i. IsTrue (in_profile i)) (chosen_code k (pieces_by (fram_template g) heads address xs))
  pieces_allowed k [] fits room = All-nil Is
  pieces_allowed k (x ∷ xs) fits room =
      let t = fram_template g (address (jumps_to x.next)) x.op in
      let c = heads x.op.number in
      let k2 = k + head_size c + size_of t in
      let rest = chosen_code k2 (pieces_by (fram_template g) heads address xs) in
      let outer = size-append (head_code c k) (t ++ rest) in
      let inner = size-append t rest in
      let sized = head_sized c k in
      All-append Is (head_code c k) (t ++ rest) (head_code_allowed c k (omega (arith, room, outer, inner, sized)))
      (All-append Is t rest (template_allowed g rules homes (address (jumps_to x.next)) (low (jumps_to x.next)) x.op (fits 0 x refl))
      (pieces_allowed k2 xs (λ n y e. fits (suc n) y e) (omega (arith, room, outer, inner, sized))))

pub address_low : (g : Graph) (heads : ℕ → Bool) → code_words heads g ≤ 0x3FC0 → (n : ℕ) → address_of (fram_template g) heads g n < 65536
address_low g heads room n =
    let is = address_is (fram_template g) heads (steady g) g n in
    let low = place_low 9 (pieces (fram_template g) heads g) n in
    omega (arith, is, low, room)

pub code_allowed : (g : Graph) (heads : ℕ → Bool) → IsGraph g → HaveHomes g → code_words heads g ≤ 0x3FC0 → All (λ i. IsTrue (in_profile i)) (boot ++ chosen_code 9 (pieces (fram_template g) heads g))
code_allowed g heads rules homes room =
    All-append Is boot (chosen_code 9 (pieces (fram_template g) heads g)) (All-from_recursion Is boot (refl, (refl, (refl, (refl, (refl, tt))))))
    (pieces_allowed g rules homes heads (address_of (fram_template g) heads g) (address_low g heads room) 9 (graph_nodes g) rules.operations (omega (arith, room)))
