-- The rows of operations are those of the first and those of the others.
use Rattle.std.proofs.Common.{◌≡◌, ℕ, ◌+◌, Bool, true, false, List, [], ◌∷◌, ◌++◌, refl, sym, ap, ◌∙◌, subst, arith}
use Rattle.std.proofs.lemmas.List.{append_assoc}
use Rattle.board_table.specs.declared.board.Board.{Board}
use Rattle.certificate.specs.declared.cert.StretchRow.{StretchRow}
use Rattle.certificate.specs.Rows.{Point}
use Rattle.flow_graph.specs.declared.graph.Op.{Op}
use Rattle.flow_graph.specs.declared.nodes.Node.{Node}
use Rattle.op_cost.specs.Templates.{Homes, code_of, template, weight_of}
use Rattle.cert_rules.specs.Overhead.{sleep_cost, wake_cost}
use Rattle.cert_templates.specs.Frames.{Position, bytes_of_all, bytes_of_code, cost_to_head, goes_through, head_bytes_of, points_from, stretch_rows}
use Rattle.emit_certs.specs.Standing.{bare_by, entered, head_in, own_by, passed, points_of_all, row_by, row_costing, rows_of_all, still}
use Rattle.emit_certs.specs.declared.standing.Standing.{Standing}

abbrev pub at_zero : Bool → Op → Position
at_zero has op = record { op = op; target = 0; has_head = has }

module _ (b : Board) (homes : Homes) (op : Op) (ps : List Position) where
  pub points_step : (has : Bool) (s : Standing)
      → points_of_all b homes s (at_zero has op ∷ ps) ≡ (bare_by has s ++ own_by b homes op (entered b has s)) ++ points_of_all b homes (passed b homes op (entered b has s)) ps
  points_step true s =
      ap (λ a. own_by b homes op (entered b true s) ++ points_from b homes s.at (wake_cost b + weight_of b (template homes 0 op)) a (goes_through op.kind) ps)
      (let e : s.at + (head_bytes_of true + bytes_of_code (code_of (template homes 0 op))) ≡ s.at + head_bytes_of true + bytes_of_code (code_of (template homes 0 op)) = omega arith in e)
  points_step false s =
      ap (λ a. bare_by false s ++ (own_by b homes op (entered b false s) ++ points_from b homes s.stretch (s.spent + weight_of b (template homes 0 op)) a (goes_through op.kind) ps))
      (let e : s.at + (head_bytes_of false + bytes_of_code (code_of (template homes 0 op))) ≡ s.at + head_bytes_of false + bytes_of_code (code_of (template homes 0 op)) = omega arith in e)
      ∙ sym (append_assoc (bare_by false s) (own_by b homes op (entered b false s)) _)

  -- ---- Stretches

  abbrev row : ℕ → ℕ → StretchRow
  row head cost = record { head = head; chain = 1; turns = 0; cost = cost }

  behind_at : (has : Bool) (a : ℕ) → a + (head_bytes_of has + bytes_of_code (code_of (template homes 0 op))) ≡ a + head_bytes_of has + bytes_of_code (code_of (template homes 0 op))
  behind_at has a = omega arith

  at_head : (begun : Bool) (at stretch spent : ℕ) (falls : Bool) → let s : Standing = record { at = at; stretch = stretch; spent = spent; falls = falls; begun = begun } in
      rows_of_all b homes s (at_zero true op ∷ ps) ≡ row_by b true s ++ rows_of_all b homes (passed b homes op (entered b true s)) ps
  at_head true at stretch spent falls =
      ap (λ c. row stretch c ∷ row at (wake_cost b + sleep_cost b + (weight_of b (template homes 0 op) + cost_to_head b homes ps)) ∷ stretch_rows b homes (at + (head_bytes_of true + bytes_of_code (code_of (template homes 0 op)))) ps)
      (let e : spent + sleep_cost b + 0 ≡ spent + sleep_cost b = omega arith in e)
      ∙ (ap (λ c. row stretch (spent + sleep_cost b) ∷ row at c ∷ stretch_rows b homes (at + (head_bytes_of true + bytes_of_code (code_of (template homes 0 op)))) ps)
      (let e : wake_cost b + sleep_cost b + (weight_of b (template homes 0 op) + cost_to_head b homes ps) ≡ wake_cost b + weight_of b (template homes 0 op) + sleep_cost b + cost_to_head b homes ps = omega arith in e)
      ∙ ap (λ a. row stretch (spent + sleep_cost b) ∷ row at (wake_cost b + weight_of b (template homes 0 op) + sleep_cost b + cost_to_head b homes ps) ∷ stretch_rows b homes a ps) (behind_at true at))
  at_head false at stretch spent falls =
      ap (λ c. row at c ∷ stretch_rows b homes (at + (head_bytes_of true + bytes_of_code (code_of (template homes 0 op)))) ps)
      (let e : wake_cost b + sleep_cost b + (weight_of b (template homes 0 op) + cost_to_head b homes ps) ≡ wake_cost b + weight_of b (template homes 0 op) + sleep_cost b + cost_to_head b homes ps = omega arith in e)
      ∙ ap (λ a. row at (wake_cost b + weight_of b (template homes 0 op) + sleep_cost b + cost_to_head b homes ps) ∷ stretch_rows b homes a ps) (behind_at true at)

  along : (begun : Bool) (at stretch spent : ℕ) (falls : Bool) → let s : Standing = record { at = at; stretch = stretch; spent = spent; falls = falls; begun = begun } in
      rows_of_all b homes s (at_zero false op ∷ ps) ≡ row_by b false s ++ rows_of_all b homes (passed b homes op (entered b false s)) ps
  along true at stretch spent falls =
      ap (λ c. row stretch c ∷ stretch_rows b homes (at + (head_bytes_of false + bytes_of_code (code_of (template homes 0 op)))) ps)
      (let e : spent + sleep_cost b + (weight_of b (template homes 0 op) + cost_to_head b homes ps) ≡ spent + weight_of b (template homes 0 op) + sleep_cost b + cost_to_head b homes ps = omega arith in e)
      ∙ ap (λ a. row stretch (spent + weight_of b (template homes 0 op) + sleep_cost b + cost_to_head b homes ps) ∷ stretch_rows b homes a ps) (behind_at false at)
  along false at stretch spent falls = ap (λ a. stretch_rows b homes a ps) (behind_at false at)

  pub rows_step : (has : Bool) (s : Standing) → rows_of_all b homes s (at_zero has op ∷ ps) ≡ row_by b has s ++ rows_of_all b homes (passed b homes op (entered b has s)) ps
  rows_step true s = at_head s.begun s.at s.stretch s.spent s.falls
  rows_step false s = along s.begun s.at s.stretch s.spent s.falls

  -- ---- of what is there already

  module _ (has : Bool) (s t : Standing) (behind : t ≡ passed b homes op (entered b has s)) where
    pub rows_next : (old new whole : List StretchRow) → new ≡ old ++ row_by b has s → old ++ rows_of_all b homes s (at_zero has op ∷ ps) ≡ whole → new ++ rows_of_all b homes t ps ≡ whole
    rows_next old new whole e h =
        ap (λ (l : List StretchRow). l ++ rows_of_all b homes t ps) e
        ∙ append_assoc old (row_by b has s) (rows_of_all b homes t ps)
        ∙ ap (λ (x : Standing). old ++ (row_by b has s ++ rows_of_all b homes x ps)) behind
        ∙ ap (λ (l : List StretchRow). old ++ l) (sym (rows_step has s))
        ∙ h

    pub points_next : (old new whole : List Point) → new ≡ old ++ (bare_by has s ++ own_by b homes op (entered b has s)) → old ++ points_of_all b homes s (at_zero has op ∷ ps) ≡ whole
        → new ++ points_of_all b homes t ps ≡ whole
    points_next old new whole e h =
        ap (λ (l : List Point). l ++ points_of_all b homes t ps) e
        ∙ append_assoc old (bare_by has s ++ own_by b homes op (entered b has s)) (points_of_all b homes t ps)
        ∙ ap (λ (x : Standing). old ++ ((bare_by has s ++ own_by b homes op (entered b has s)) ++ points_of_all b homes x ps)) behind
        ∙ ap (λ (l : List Point). old ++ l) (sym (points_step has s))
        ∙ h

    pub room_next : s.at + bytes_of_all homes (at_zero has op ∷ ps) ≡ t.at + bytes_of_all homes ps
    room_next = let e = ap (λ (x : Standing). x.at) behind in omega (arith, e)

-- ---- of a list of operations

module _ (b : Board) (homes : Homes) (heads : List Bool) (x : Node) (left rest : List Node) (left_is : left ≡ x ∷ rest) (has : Bool) (has_is : has ≡ head_in heads x.op.number)
    (s t : Standing) (behind : t ≡ passed b homes x.op (entered b has s)) where
  pub rows_after : (old new whole : List StretchRow) → new ≡ old ++ row_by b has s → old ++ rows_of_all b homes s (still (head_in heads) left) ≡ whole → new ++ rows_of_all b homes t (still (head_in heads) rest) ≡ whole
  rows_after old new whole e h =
      rows_next b homes x.op (still (head_in heads) rest) has s t behind old new whole e
      (subst (λ c. old ++ rows_of_all b homes s (at_zero c x.op ∷ still (head_in heads) rest) ≡ whole) (sym has_is)
      (subst (λ (xs : List Node). old ++ rows_of_all b homes s (still (head_in heads) xs) ≡ whole) left_is h))

  pub points_after : (old new whole : List Point) → new ≡ old ++ (bare_by has s ++ own_by b homes x.op (entered b has s)) → old ++ points_of_all b homes s (still (head_in heads) left) ≡ whole
      → new ++ points_of_all b homes t (still (head_in heads) rest) ≡ whole
  points_after old new whole e h =
      points_next b homes x.op (still (head_in heads) rest) has s t behind old new whole e
      (subst (λ c. old ++ points_of_all b homes s (at_zero c x.op ∷ still (head_in heads) rest) ≡ whole) (sym has_is)
      (subst (λ (xs : List Node). old ++ points_of_all b homes s (still (head_in heads) xs) ≡ whole) left_is h))

  pub room_after : (whole : ℕ) → s.at + bytes_of_all homes (still (head_in heads) left) ≡ whole → t.at + bytes_of_all homes (still (head_in heads) rest) ≡ whole
  room_after whole h =
      sym (room_next b homes x.op (still (head_in heads) rest) has s t behind)
      ∙ (subst (λ c. s.at + bytes_of_all homes (at_zero c x.op ∷ still (head_in heads) rest) ≡ whole) (sym has_is)
      (subst (λ (xs : List Node). s.at + bytes_of_all homes (still (head_in heads) xs) ≡ whole) left_is h))
