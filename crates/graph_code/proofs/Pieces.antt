-- Where the pieces of a graph's code stand.
use Rattle.std.proofs.Common.{◌≡◌, ℕ, zero, suc, ◌+◌, ◌*◌, ◌<◌, Bool, List, [], ◌∷◌, length, Some, refl, ap, ◌∙◌, arith}
use Rattle.std.specs.Prelude.{slice_get}
use Rattle.flow_graph.specs.declared.graph.Graph.{Graph}
use Rattle.flow_graph.specs.declared.nodes.Node.{Node}
use Rattle.flow_graph.specs.Nodes.{graph_nodes}
use Rattle.resumed_runs.specs.Code.{size_of}
use Rattle.laid_code.specs.Chosen.{Piece, chosen_at, head_at, head_size, template_of}
use Rattle.graph_code.specs.Pieces.{Template, IsSteady, jumps_to, pieces_by, address_of, pieces}

module _ (template : Template) (has_head : ℕ → Bool) where
  pub pieces-length : (address : ℕ → ℕ) (xs : List Node) → length (pieces_by template has_head address xs) ≡ length xs
  pieces-length address [] = refl
  pieces-length address (x ∷ xs) = ap suc (pieces-length address xs)

  pub template_is : (address : ℕ → ℕ) (xs : List Node) (i : ℕ) (x : Node) → slice_get xs i ≡ Some x → template_of (pieces_by template has_head address xs) i ≡ template (address (jumps_to x.next)) x.op
  template_is address [] i x e = absurd (cc)
  template_is address (y ∷ ys) zero x e = let same : y ≡ x = cc in ap (λ z. template (address (jumps_to z.next)) z.op) same
  template_is address (y ∷ ys) (suc i) x e = template_is address ys i x e

  pub head_is : (address : ℕ → ℕ) (xs : List Node) (i : ℕ) (x : Node) → slice_get xs i ≡ Some x → head_at (pieces_by template has_head address xs) i ≡ has_head x.op.number
  head_is address [] i x e = absurd (cc)
  head_is address (y ∷ ys) zero x e = let same : y ≡ x = cc in ap (λ z. has_head z.op.number) same
  head_is address (y ∷ ys) (suc i) x e = head_is address ys i x e

  -- where pieces stand doesn't depend on where jumps go to
  pub places_same : IsSteady template → (a b : ℕ → ℕ) (k : ℕ) (xs : List Node) (i : ℕ) → chosen_at k (pieces_by template has_head a xs) i ≡ chosen_at k (pieces_by template has_head b xs) i
  places_same steady a b k [] i = refl
  places_same steady a b k (x ∷ xs) zero = refl
  places_same steady a b k (x ∷ xs) (suc i) =
      ap (λ n. chosen_at (k + head_size (has_head x.op.number) + n) (pieces_by template has_head a xs) i) (steady (a (jumps_to x.next)) (b (jumps_to x.next)) x.op)
      ∙ places_same steady a b (k + head_size (has_head x.op.number) + size_of (template (b (jumps_to x.next)) x.op)) xs i

  -- so each jump goes to where its operation stands
  pub address_is : IsSteady template → (g : Graph) (n : ℕ) → address_of template has_head g n ≡ 0x8000 + 2 * chosen_at 9 (pieces template has_head g) n
  address_is steady g n = ap (λ k. 0x8000 + 2 * k) (places_same steady (λ m. 0) (address_of template has_head g) 9 (graph_nodes g) n)

-- behind each piece the next begins
pub place_next : (k : ℕ) (ps : List Piece) (i : ℕ) → i < length ps → chosen_at k ps (suc i) ≡ chosen_at k ps i + head_size (head_at ps i) + size_of (template_of ps i)
place_next k [] i low = absurd (omega (arith, low))
place_next k (p ∷ []) zero low = refl
place_next k (p ∷ q ∷ ps) zero low = refl
place_next k (p ∷ ps) (suc i) low = place_next (k + head_size p.has_head + size_of p.template) ps i (omega (arith, low))
