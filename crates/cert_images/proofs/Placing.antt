-- The code of a graph's pieces is that of its positions, and heads stand where operations have them.
use Rattle.std.proofs.Common.{◌≡◌, ℕ, zero, suc, ◌+◌, ◌*◌, Bool, true, false, Some, List, [], ◌∷◌, ◌++◌, refl, ap, ◌∙◌, arith}
use Rattle.std.specs.Prelude.{is_some, slice_get}
use Rattle.msp430_isa.specs.declared.instr.Instr.{Instr}
use Rattle.flow_graph.specs.declared.graph.Graph.{Graph}
use Rattle.flow_graph.specs.declared.nodes.Node.{Node}
use Rattle.resumed_runs.specs.Code.{head, size_of}
use Rattle.laid_code.specs.Chosen.{chosen_at, chosen_code, head_code, head_size}
use Rattle.graph_code.specs.Pieces.{jumps_to, pieces_by}
use Rattle.op_cost.specs.Templates.{Homes, code_of, weight_of, template}
use Rattle.cert_rules.specs.Sheet.{Sheet}
use Rattle.each_image.specs.Image.{fram_homes, fram_template}
use Rattle.cert_templates.specs.Frames.{Position, bytes_at, bytes_of_code, code_at, goes_through, head_bytes_of}
use Rattle.cert_images.specs.Images.{positions_by}
use Rattle.cert_images.proofs.Laying.{HeadAt, Suffix, code_from, head_at_start}
use Rattle.cert_images.proofs.Folding.{Static, head_stands, next, spent_before, stretch_of}
use Rattle.cert_images.proofs.Forming.{kind_first}

-- ---- Words and bytes

pub twice_size : (is : List Instr) → 2 * size_of is ≡ bytes_of_code is
twice_size [] = refl
twice_size (i ∷ is) = let h = twice_size is in omega (arith, h)

twice_head : (c : Bool) → 2 * head_size c ≡ head_bytes_of c
twice_head true = refl
twice_head false = refl

-- where the code of a position begins
abbrev pub start_at : Homes → ℕ → List Position → ℕ → ℕ
start_at homes a [] j = a
start_at homes a (p ∷ ps) zero = a
start_at homes a (p ∷ ps) (suc j) = start_at homes (a + bytes_at homes p) ps j

module _ (g : Graph) (heads : ℕ → Bool) (address : ℕ → ℕ) where
  step : (k : ℕ) (x : Node) → 0x8000 + 2 * (k + head_size (heads x.op.number) + size_of (fram_template g (address (jumps_to x.next)) x.op))
      ≡ 0x8000 + 2 * k + (head_bytes_of (heads x.op.number) + bytes_of_code (code_of (template (fram_homes g) (address (jumps_to x.next)) x.op)))
  step k x =
      let h = twice_head (heads x.op.number) in
      let b = twice_size (fram_template g (address (jumps_to x.next)) x.op) in
      omega (arith, h, b)

  head_same : (c : Bool) (k : ℕ) → head_code c k ≡ head_at_start c (0x8000 + 2 * k)
  head_same true k = ap (λ r. head r) (let e : 0x8000 + 2 * (k + 9) ≡ 0x8000 + 2 * k + 18 = omega arith in e)
  head_same false k = refl

  pub code_same : (k : ℕ) (xs : List Node) → chosen_code k (pieces_by (fram_template g) heads address xs) ≡ code_from (fram_homes g) (0x8000 + 2 * k) (positions_by address heads xs)
  code_same k [] = refl
  code_same k (x ∷ xs) =
      let is = fram_template g (address (jumps_to x.next)) x.op in
      ap (λ js. head_code (heads x.op.number) k ++ (is ++ js)) (code_same (k + head_size (heads x.op.number) + size_of is) xs ∙ ap (λ a. code_from (fram_homes g) a (positions_by address heads xs)) (step k x))
      ∙ ap (λ js. js ++ (is ++ code_from (fram_homes g) (0x8000 + 2 * k + (head_bytes_of (heads x.op.number) + bytes_of_code is)) (positions_by address heads xs))) (head_same (heads x.op.number) k)

  pub start_same : (k : ℕ) (xs : List Node) (j : ℕ) → 0x8000 + 2 * chosen_at k (pieces_by (fram_template g) heads address xs) j ≡ start_at (fram_homes g) (0x8000 + 2 * k) (positions_by address heads xs) j
  start_same k [] j = refl
  start_same k (x ∷ xs) zero = refl
  start_same k (x ∷ xs) (suc j) =
      start_same (k + head_size (heads x.op.number) + size_of (fram_template g (address (jumps_to x.next)) x.op)) xs j
      ∙ ap (λ a. start_at (fram_homes g) a (positions_by address heads xs) j) (step k x)

-- a head stands where a position has one
pub heads_stand : (t : Sheet) (homes : Homes) → Static t → (ps : List Position) (a st n : ℕ) (falls : Bool) → Suffix t homes ps a st n falls → (j : ℕ) (p : Position) → slice_get ps j ≡ Some p → p.has_head ≡ true
    → HeadAt t (start_at homes a ps j)
heads_stand t homes static [] a st n falls s j p e has = absurd (let no : false ≡ true = ap (λ o. is_some o) e in cc)
heads_stand t homes static (q ∷ ps) a st n falls s zero p e has =
    let same : q ≡ p = cc in
    by q.has_head (ap (λ (r : Position). r.has_head) same ∙ has) s
  where
    by : (c : Bool) → c ≡ true → Suffix t homes (record { op = q.op; target = q.target; has_head = c } ∷ ps) a st n falls → HeadAt t a
    by true f u = (let first = kind_first homes q.target q.op q.op.kind in head_stands t homes static q.op q.target ps a st n falls u first.0 first.1)
    by false f u = absurd (let no : false ≡ true = f in cc)
heads_stand t homes static (q ∷ ps) a st n falls s (suc j) p e has =
    let first = kind_first homes q.target q.op q.op.kind in
    heads_stand t homes static ps (a + bytes_at homes q) (stretch_of q a st) (spent_before t q n + weight_of t.board (code_at homes q)) (goes_through q.op.kind)
    (next t homes static q.op q.target ps a st n falls q.has_head s first.0 first.1) j p e has
