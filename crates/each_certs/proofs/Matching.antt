-- The rows of the operations of a graph, with its objects at their addresses and with its heads, are those of its certificate.
use Rattle.std.proofs.Common.{◌≡◌, ℕ, zero, suc, ◌+◌, ◌*◌, ◌<◌, ◌≤◌, Bool, true, false, Option, Some, None, List, [], ◌∷◌, length, sum_by, refl, sym, ap, ◌∙◌, subst, append-nil, arith}
use Rattle.std.specs.Prelude.{◌&&◌, nat_le, slice_get}
use Rattle.std.proofs.lemmas.Option.{slice_get_within}
use Rattle.board_table.specs.declared.board.Board.{Board}
use Rattle.flow_graph.specs.declared.graph.ArrayUse.{ArrayUse}
use Rattle.flow_graph.specs.declared.graph.Func.{Func}
use Rattle.flow_graph.specs.declared.graph.Graph.{Graph}
use Rattle.flow_graph.specs.declared.graph.Object as declared
use Rattle.flow_graph.specs.declared.nodes.Node.{Node}
use Rattle.flow_graph.specs.Nodes.{all_nodes, body_nodes, graph_nodes}
use Rattle.flow_graph.specs.Rules.{ArrayFits, HasWords, IsGraph, IsNumbered, OpFits, parts_of}
use Rattle.laid_code.specs.Chosen.{chosen_code}
use Rattle.graph_code.specs.Heads.{are_straight, has_head}
use Rattle.graph_code.specs.Homes.{data_bytes, most_data}
use Rattle.graph_code.specs.Pieces.{address_of, jumps_to, pieces}
use Rattle.op_cost.specs.Templates.{Counted, code_of, length_in, template, weight_of}
use Rattle.op_cost.specs.Weights.{overhead}
use Rattle.emit_templates.specs.Placed.{home_in}
use Rattle.each_image.specs.Each.{all_weights, each_heads, is_first_straight, one_stretch}
use Rattle.each_image.specs.Image.{code_words, fram_homes, fram_template}
use Rattle.emit_each.specs.Parts.{addresses_from}
use Rattle.emit_each.proofs.Objects.{words_cons}
use Rattle.emit_each.proofs.Same.{counted_same, has_homes}
use Rattle.cert_templates.specs.Frames.{bytes_of_all, bytes_of_code, certificate_of}
use Rattle.cert_images.specs.Images.{each_certificate, positions, positions_by}
use Rattle.cert_images.proofs.Laying.{behind_is, code_from}
use Rattle.cert_images.proofs.Placing.{code_same, twice_size}
use Rattle.cert_images.proofs.Sheeting.{code_ends_at}
use Rattle.emit_certs.specs.Standing.{HaveHomes, head_in, still}
use Rattle.emit_certs.proofs.Alike.{AllAlike, bytes_alike, certificate_alike, points_in}
use Rattle.emit_certs.proofs.EachKind.{aimed_bytes, aimed_points, aimed_weight}

-- ---- Arrays

word_small : (xs : List declared.Object) (o n : ℕ) → HasWords n (slice_get xs o) → n ≤ sum_by (λ x. x.words) xs
word_small [] o n h = absurd h
word_small (x ∷ xs) zero n h = let sum = words_cons x xs in omega (arith, h, sum)
word_small (x ∷ xs) (suc o) n h = let w = word_small xs o n h in let sum = words_cons x xs in omega (arith, w, sum)

array_small : (g : Graph) → data_bytes g ≤ most_data → (used : Bool) (array : Option ArrayUse) → ArrayFits g used array → length_in array ≤ 65535
array_small g few true None h = absurd h
array_small g few true (Some u) h = let w = word_small g.objects u.object u.length h.0 in omega (arith, w, few)
array_small g few false array h = subst (λ x. length_in x ≤ 65535) (sym h) (let no : 0 ≤ 65535 = omega arith in no)

module _ (b : Board) (g : Graph) (rules : IsGraph g) (few : data_bytes g ≤ most_data) (places : List ℕ) (are : places ≡ addresses_from 0x4400 g.objects) where
  abbrev AllFit : List Node → Type 0
  AllFit xs = (i : ℕ) (x : Node) → slice_get xs i ≡ Some x → OpFits g x.op

  have : (xs : List Node) → AllFit xs → HaveHomes places xs
  have [] fits = tt
  have (x ∷ xs) fits = ((has_homes g places are x.op (fits 0 x refl), array_small g few (parts_of x.op.kind).array x.op.array (fits 0 x refl).array), have xs (λ i y e. fits (suc i) y e))

  -- ---- Alike

  alike : (address : ℕ → ℕ) (h h' : ℕ → Bool) (xs : List Node) → AllFit xs → ((i : ℕ) (x : Node) → slice_get xs i ≡ Some x → h x.op.number ≡ h' x.op.number)
      → AllAlike b (home_in places) (fram_homes g) (still h xs) (positions_by address h' xs)
  alike address h h' [] fits same = tt
  alike address h h' (x ∷ xs) fits same =
      let target = address (jumps_to x.next) in
      let e : template (home_in places) 0 x.op ≡ template (fram_homes g) 0 x.op = counted_same g places are x.op (fits 0 x refl) 0 in (
        record {
          op = refl;
          head = sym (same 0 x refl);
          bytes = ap (λ (cs : List Counted). bytes_of_code (code_of cs)) e ∙ aimed_bytes (fram_homes g) 0 target x.op;
          weight = ap (λ (cs : List Counted). weight_of b cs) e ∙ aimed_weight b (fram_homes g) 0 target x.op;
          points = λ st spent a. ap (λ (cs : List Counted). points_in b x.op.kind (length_in x.op.array) cs st spent a) e ∙ aimed_points b (length_in x.op.array) (fram_homes g) 0 target x.op st spent a;
        },
        alike address h h' xs (λ i y f. fits (suc i) y f) (λ i y f. same (suc i) y f),
      )

-- ---- Room

code_bytes : (g : Graph) (heads : ℕ → Bool) → 2 * code_words heads g ≡ 18 + bytes_of_all (fram_homes g) (positions heads g)
code_bytes g heads =
    let code = chosen_code 9 (pieces (fram_template g) heads g) in
    let laid = code_from (fram_homes g) 0x8012 (positions heads g) in
    let size = twice_size code in
    let same : bytes_of_code code ≡ bytes_of_code laid = ap (λ is. bytes_of_code is) (code_same g heads (address_of (fram_template g) heads g) 9 (graph_nodes g)) in
    let ends = code_ends_at (fram_homes g) 0x8012 (positions heads g) in
    let behind = behind_is 0x8012 laid in
    omega (arith, size, same, ends, behind)

-- ---- Heads

numbered_at : (k : ℕ) (xs : List Node) → IsNumbered k xs → (i : ℕ) (x : Node) → slice_get xs i ≡ Some x → x.op.number ≡ k + i
numbered_at k [] h i x e = absurd (cc)
numbered_at k (y ∷ ys) h zero x e = let same : y ≡ x = cc in ap (λ (z : Node). z.op.number) (sym same) ∙ (let n = h.0 in omega (arith, n))
numbered_at k (y ∷ ys) h (suc i) x e = let n = numbered_at (k + 1) ys h.1 i x e in omega (arith, n)

-- what was made of a graph of this function
pub record IsMade (b : Board) (g : Graph) (main : Func) (nodes : List Node) (places : List ℕ) (heads : List Bool) : Type 0 where
  pub rules : IsGraph g
  pub few : data_bytes g ≤ most_data
  pub room : code_words (each_heads b g) g ≤ 0x3FC0
  pub alone : g.functions ≡ main ∷ []
  pub nodes_are : nodes ≡ body_nodes main
  pub places_are : places ≡ addresses_from 0x4400 g.objects
  pub one : Bool
  pub one_is : one ≡ (are_straight main.body && nat_le (all_weights b nodes + overhead b) b.budget)
  pub heads_are : (n : ℕ) → n < length nodes → head_in heads n ≡ has_head one n

module _ (b : Board) (g : Graph) (main : Func) (nodes : List Node) (places : List ℕ) (heads : List Bool) (m : IsMade b g main nodes places heads) where
  all_nodes_are : nodes ≡ graph_nodes g
  all_nodes_are = m.nodes_are ∙ (sym (append-nil (body_nodes main)) ∙ ap (λ fs. all_nodes fs) (sym m.alone))

  one_same : m.one ≡ one_stretch b g
  one_same =
      m.one_is
      ∙ (ap (λ fs. is_first_straight fs && nat_le (all_weights b nodes + overhead b) b.budget) (sym m.alone)
      ∙ ap (λ xs. is_first_straight g.functions && nat_le (all_weights b xs + overhead b) b.budget) all_nodes_are)

  fit : (i : ℕ) (x : Node) → slice_get nodes i ≡ Some x → OpFits g x.op
  fit = subst (λ (xs : List Node). (i : ℕ) (x : Node) → slice_get xs i ≡ Some x → OpFits g x.op) (sym all_nodes_are) m.rules.operations

  numbered : IsNumbered 0 nodes
  numbered = subst (λ (xs : List Node). IsNumbered 0 xs) (sym all_nodes_are) m.rules.numbered

  same : (i : ℕ) (x : Node) → slice_get nodes i ≡ Some x → head_in heads x.op.number ≡ each_heads b g x.op.number
  same i x e =
      m.heads_are x.op.number (let n = numbered_at 0 nodes numbered i x e in let low = slice_get_within nodes i x e in omega (arith, n, low))
      ∙ ap (λ c. has_head c x.op.number) one_same

  all_alike : AllAlike b (home_in places) (fram_homes g) (still (head_in heads) nodes) (positions_by (address_of (fram_template g) (each_heads b g) g) (each_heads b g) nodes)
  all_alike = alike b g m.rules m.few places m.places_are (address_of (fram_template g) (each_heads b g) g) (head_in heads) (each_heads b g) nodes fit same

  pub few_nodes : length nodes ≤ 4096
  few_nodes = subst (λ (xs : List Node). length xs ≤ 4096) (sym all_nodes_are) m.rules.few

  pub have_homes : HaveHomes places nodes
  have_homes = have b g m.rules m.few places m.places_are nodes fit

  pub has_room : 0x8012 + bytes_of_all (home_in places) (still (head_in heads) nodes) ≤ 0xFF80
  has_room =
      let e = bytes_alike b (home_in places) (fram_homes g) (still (head_in heads) nodes) (positions_by (address_of (fram_template g) (each_heads b g) g) (each_heads b g) nodes) all_alike in
      let f = ap (λ (xs : List Node). bytes_of_all (fram_homes g) (positions_by (address_of (fram_template g) (each_heads b g) g) (each_heads b g) xs)) all_nodes_are in
      let words = code_bytes g (each_heads b g) in
      let room = m.room in
      omega (arith, e, f, words, room)

  pub made_is : certificate_of b (home_in places) (still (head_in heads) nodes) ≡ each_certificate b g
  made_is =
      certificate_alike b (home_in places) (fram_homes g) (still (head_in heads) nodes) (positions_by (address_of (fram_template g) (each_heads b g) g) (each_heads b g) nodes) all_alike
      ∙ ap (λ (xs : List Node). certificate_of b (fram_homes g) (positions_by (address_of (fram_template g) (each_heads b g) g) (each_heads b g) xs)) all_nodes_are
