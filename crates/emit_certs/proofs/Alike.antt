-- Certificates of operations whose code has the same sizes, costs and points.
use Rattle.std.proofs.Common.{◌≡◌, ℕ, ◌+◌, Bool, true, false, None, List, [], ◌∷◌, ◌++◌, refl, sym, ap, ◌∙◌, subst}
use Rattle.std.specs.Prelude.{◌||◌, if◌then◌else◌}
use Rattle.board_table.specs.declared.board.Board.{Board}
use Rattle.certificate.specs.declared.cert.StretchRow.{StretchRow}
use Rattle.certificate.specs.Rows.{Certificate, Point}
use Rattle.flow_graph.specs.declared.graph.Op.{Op}
use Rattle.flow_graph.specs.declared.graph.OpKind.{OpKind}
use Rattle.flow_graph.specs.declared.graph.OpKind.TheVariants as kind
use Rattle.op_cost.specs.Templates.{Counted, Homes, code_of, length_in, template, weight_of}
use Rattle.cert_rules.specs.Overhead.{sleep_cost, wake_cost}
use Rattle.cert_templates.specs.Frames.{Position, bare_point, bytes_at, bytes_of_all, bytes_of_code, certificate_of, code_at, cost_to_head, goes_through, head_bytes_of, inner_by, inner_on, points_from, stretch_rows, template_as, walked}

-- the points of code, wherever it stands
abbrev pub points_in : Board → OpKind → ℕ → List Counted → ℕ → ℕ → ℕ → List Point
points_in b k n code st spent a = walked st spent a (code_of code) (inner_on (inner_by k b n code))

-- the code of an operation has the same size, cost and points where its objects lie elsewhere or its jump goes elsewhere
pub record IsAlike (b : Board) (h h' : Homes) (p p' : Position) : Type 0 where
  pub op : p'.op ≡ p.op
  pub head : p'.has_head ≡ p.has_head
  pub bytes : bytes_of_code (code_of (code_at h p)) ≡ bytes_of_code (code_of (code_at h' p'))
  pub weight : weight_of b (code_at h p) ≡ weight_of b (code_at h' p')
  pub points : (st spent a : ℕ) → points_in b p.op.kind (length_in p.op.array) (code_at h p) st spent a ≡ points_in b p.op.kind (length_in p.op.array) (code_at h' p') st spent a

module _ (b : Board) (h h' : Homes) where
  abbrev pub AllAlike : List Position → List Position → Type 0
  AllAlike [] [] = Unit {0}
  AllAlike [] (q ∷ qs) = ⊥
  AllAlike (p ∷ ps) [] = ⊥
  AllAlike (p ∷ ps) (q ∷ qs) = IsAlike b h h' p q × AllAlike ps qs

  pub bytes_alike : (ps qs : List Position) → AllAlike ps qs → bytes_of_all h ps ≡ bytes_of_all h' qs
  bytes_alike [] [] all = refl
  bytes_alike [] (q ∷ qs) all = absurd all
  bytes_alike (p ∷ ps) [] all = absurd all
  bytes_alike (p ∷ ps) (q ∷ qs) all =
      ap (λ n. head_bytes_of p.has_head + n + bytes_of_all h ps) all.0.bytes
      ∙ (ap (λ c. head_bytes_of c + bytes_of_code (code_of (code_at h' q)) + bytes_of_all h ps) (sym all.0.head)
      ∙ ap (λ n. head_bytes_of q.has_head + bytes_of_code (code_of (code_at h' q)) + n) (bytes_alike ps qs all.1))

  one_size : (p q : Position) → IsAlike b h h' p q → bytes_at h p ≡ bytes_at h' q
  one_size p q one = ap (λ n. head_bytes_of p.has_head + n) one.bytes ∙ ap (λ c. head_bytes_of c + bytes_of_code (code_of (code_at h' q))) (sym one.head)

  costs_alike : (ps qs : List Position) → AllAlike ps qs → cost_to_head b h ps ≡ cost_to_head b h' qs
  costs_alike [] [] all = refl
  costs_alike [] (q ∷ qs) all = absurd all
  costs_alike (p ∷ ps) [] all = absurd all
  costs_alike (p ∷ ps) (q ∷ qs) all =
      ap (λ c. if c then 0 else weight_of b (code_at h p) + cost_to_head b h ps) (sym all.0.head)
      ∙ (ap (λ n. if q.has_head then 0 else n + cost_to_head b h ps) all.0.weight
      ∙ ap (λ n. if q.has_head then 0 else weight_of b (code_at h' q) + n) (costs_alike ps qs all.1))

  abbrev row : ℕ → ℕ → StretchRow
  row a n = record { head = a; chain = 1; turns = 0; cost = wake_cost b + sleep_cost b + n }

  rows_alike : (a : ℕ) (ps qs : List Position) → AllAlike ps qs → stretch_rows b h a ps ≡ stretch_rows b h' a qs
  rows_alike a [] [] all = refl
  rows_alike a [] (q ∷ qs) all = absurd all
  rows_alike a (p ∷ ps) [] all = absurd all
  rows_alike a (p ∷ ps) (q ∷ qs) all =
      let rest : stretch_rows b h (a + bytes_at h p) ps ≡ stretch_rows b h' (a + bytes_at h' q) qs =
      rows_alike (a + bytes_at h p) ps qs all.1 ∙ ap (λ n. stretch_rows b h' (a + n) qs) (one_size p q all.0) in
      let cost : weight_of b (code_at h p) + cost_to_head b h ps ≡ weight_of b (code_at h' q) + cost_to_head b h' qs =
      ap (λ n. n + cost_to_head b h ps) all.0.weight ∙ ap (λ n. weight_of b (code_at h' q) + n) (costs_alike ps qs all.1) in
      ap (λ c. if c then row a (weight_of b (code_at h p) + cost_to_head b h ps) ∷ stretch_rows b h (a + bytes_at h p) ps else stretch_rows b h (a + bytes_at h p) ps) (sym all.0.head)
      ∙ (ap (λ n. if q.has_head then row a n ∷ stretch_rows b h (a + bytes_at h p) ps else stretch_rows b h (a + bytes_at h p) ps) cost
      ∙ ap (λ rs. if q.has_head then row a (weight_of b (code_at h' q) + cost_to_head b h' qs) ∷ rs else rs) rest)

  points_alike : (st n a : ℕ) (falls : Bool) (ps qs : List Position) → AllAlike ps qs → points_from b h st n a falls ps ≡ points_from b h' st n a falls qs
  points_alike st n a falls [] [] all = refl
  points_alike st n a falls [] (q ∷ qs) all = absurd all
  points_alike st n a falls (p ∷ ps) [] all = absurd all
  points_alike st n a falls (p ∷ ps) (q ∷ qs) all = by p.has_head q.has_head all.0.head p.op q.op all.0.op
      all.0.bytes all.0.weight all.0.points (λ st' m a' f. points_alike st' m a' f ps qs all.1)
    where
      with_code : Homes → List Counted → List Position → Bool → Op → List Point
      with_code homes code rest has op =
          let here = if has then a else st in
          let so_far = if has then wake_cost b else n in
          (if has || falls then [] else bare_point st n a ∷ [])
          ++ (points_in b op.kind (length_in op.array) code here so_far (a + head_bytes_of has) ++ points_from b homes here (so_far + weight_of b code) (a + (head_bytes_of has + bytes_of_code (code_of code))) (goes_through op.kind) rest)

      by : (c d : Bool) → d ≡ c → (o o' : Op) → o' ≡ o → bytes_of_code (code_of (code_at h p)) ≡ bytes_of_code (code_of (code_at h' q)) → weight_of b (code_at h p) ≡ weight_of b (code_at h' q)
          → ((st' m a' : ℕ) → points_in b o.kind (length_in o.array) (code_at h p) st' m a' ≡ points_in b o.kind (length_in o.array) (code_at h' q) st' m a')
          → ((st' m a' : ℕ) (f : Bool) → points_from b h st' m a' f ps ≡ points_from b h' st' m a' f qs)
          → with_code h (code_at h p) ps c o ≡ with_code h' (code_at h' q) qs d o'
      by c d e o o' f size cost own rest =
          let here = if c then a else st in
          let so_far = if c then wake_cost b else n in
          let bare = if c || falls then [] else bare_point st n a ∷ [] in
          ap (λ xs. bare ++ (xs ++ points_from b h here (so_far + weight_of b (code_at h p)) (a + (head_bytes_of c + bytes_of_code (code_of (code_at h p)))) (goes_through o.kind) ps)) (own here so_far (a + head_bytes_of c))
          ∙ (ap (λ m. bare ++ (points_in b o.kind (length_in o.array) (code_at h' q) here so_far (a + head_bytes_of c) ++ points_from b h here (so_far + m) (a + (head_bytes_of c + bytes_of_code (code_of (code_at h p)))) (goes_through o.kind) ps)) cost
          ∙ (ap (λ m. bare ++ (points_in b o.kind (length_in o.array) (code_at h' q) here so_far (a + head_bytes_of c) ++ points_from b h here (so_far + weight_of b (code_at h' q)) (a + (head_bytes_of c + m)) (goes_through o.kind) ps)) size
          ∙ (ap (λ xs. bare ++ (points_in b o.kind (length_in o.array) (code_at h' q) here so_far (a + head_bytes_of c) ++ xs)) (rest here (so_far + weight_of b (code_at h' q)) (a + (head_bytes_of c + bytes_of_code (code_of (code_at h' q)))) (goes_through o.kind))
          ∙ (ap (λ x. with_code h' (code_at h' q) qs x o) (sym e) ∙ ap (λ x. with_code h' (code_at h' q) qs d x) (sym f)))))

  pub certificate_alike : (ps qs : List Position) → AllAlike ps qs → certificate_of b h ps ≡ certificate_of b h' qs
  certificate_alike ps qs all =
      ap (λ n. whole n (stretch_rows b h 0x8012 ps) (points_from b h 0x8012 0 0x8012 false ps)) (bytes_alike ps qs all)
      ∙ (ap (λ rs. whole (bytes_of_all h' qs) rs (points_from b h 0x8012 0 0x8012 false ps)) (rows_alike 0x8012 ps qs all)
      ∙ ap (λ xs. whole (bytes_of_all h' qs) (stretch_rows b h' 0x8012 qs) xs) (points_alike 0x8012 0 0x8012 false ps qs all))
    where
      whole : ℕ → List StretchRow → List Point → Certificate
      whole n rows points = record { budget = b.budget; functions = record { start = 0x8012; end = 0x8012 + n; height = 1; flat = None } ∷ []; stretches = rows; points = points }
