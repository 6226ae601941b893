-- Templates at the addresses of objects are the graph's, so that what is laid out is the graph's image.
use Rattle.std.proofs.Common.{◌≡◌, ℕ, zero, suc, ◌+◌, ◌*◌, ◌<◌, ◌≤◌, Bool, true, false, Option, Some, None, List, [], ◌∷◌, ◌++◌, length, refl, sym, ap, ◌∙◌, subst, arith}
use Rattle.std.specs.Prelude.{All, IsTrue, slice_get, slice_index_or}
use Rattle.std.proofs.lemmas.Option.{slice_get_within}
use Rattle.ti_txt.specs.Image.{Block, IsImage}
use Rattle.msp430_isa.specs.declared.instr.Instr.{Instr}
use Rattle.msp430_isa.specs.declared.instr.Src.{Src}
use Rattle.msp430_isa.specs.declared.instr.Src.TheVariants.{Reg as FromReg, Index as FromIndex, Abs as FromAbs, Short}
use Rattle.msp430_isa.specs.declared.instr.Dst.TheVariants.{Index as ToIndex, Abs as ToAbs}
use Rattle.msp430_isa.specs.declared.instr.TwoOp.TheVariants.{Mov as MOV, Add as ADD, Cmp as CMP}
use Rattle.msp430_isa.specs.declared.instr.Cond.TheVariants.{Jne as JNE, Jnc as JNC}
use Rattle.msp430_isa.specs.declared.instr.Instr.TheVariants.{Two}
use Rattle.msp430_isa.specs.Profile.{in_profile}
use Rattle.flow_graph.specs.declared.graph.ArrayUse.{ArrayUse}
use Rattle.flow_graph.specs.declared.graph.Object as declared
use Rattle.flow_graph.specs.declared.graph.Op.{Op}
use Rattle.flow_graph.specs.declared.graph.Operand.{Operand}
use Rattle.flow_graph.specs.declared.graph.Operand.TheVariants.{Const, Object}
use Rattle.flow_graph.specs.declared.graph.OpKind.{OpKind}
use Rattle.flow_graph.specs.declared.graph.OpKind.TheVariants as kind
use Rattle.flow_graph.specs.declared.graph.Graph.{Graph}
use Rattle.flow_graph.specs.declared.nodes.Node.{Node}
use Rattle.flow_graph.specs.Nodes.{graph_nodes}
use Rattle.flow_graph.specs.Rules.{ArrayFits, DestFits, HasWords, IsGraph, IsNumbered, OpFits, OperandFits, parts_of}
use Rattle.msp430_machine.specs.Addresses.{code_start, gate, reset_vector}
use Rattle.resumed_runs.specs.Bytes.{bytes_in, bytes_of}
use Rattle.resumed_runs.specs.Code.{boot, size_of}
use Rattle.laid_code.specs.Chosen.{Piece, chosen_at, chosen_blocks, chosen_code}
use Rattle.graph_code.specs.Homes.{data_bytes, most_data}
use Rattle.graph_code.specs.Pieces.{Template, address_of, jumps_to, pieces, pieces_by}
use Rattle.graph_code.proofs.HomeLemmas.{objects_have_homes}
use Rattle.op_cost.specs.Templates.{Counted, Homes, array_of, binary, by, code_of, core, index_code, length_in, once, operand_place, place_of, result, source, stores, template, template_by, unary, unless}
use Rattle.emit_templates.specs.Placed.{HasArray, HasDest, HasHome, HasHomes, home_in}
use Rattle.each_image.specs.Image.{code_words, data_blocks, fram_homes, fram_template, graph_blocks}
use Rattle.each_image.proofs.Ascending.{are_images}
use Rattle.each_image.proofs.Places.{steady}
use Rattle.each_image.proofs.Profile.{address_low, template_allowed}
use Rattle.emit_each.specs.Emitting.{IsLaid}
use Rattle.emit_each.specs.Parts.{AllAllowed, AllHave, address_in, addresses_from, blocks_at, end_from, placed_template, starts_from}
use Rattle.emit_each.proofs.Laying.{end_is, end_same, start_is, start_low}
use Rattle.emit_each.proofs.Objects.{address_at, addresses-length, blocks_same}

-- ---- A template reads the places of its own objects alone

record SameAt (h h' : Homes) (op : Op) : Type 0 where
  a : source h op.a ≡ source h' op.a
  b : source h op.b ≡ source h' op.b
  dest : place_of h op.dest ≡ place_of h' op.dest
  array : array_of h op.array ≡ array_of h' op.array
  variable : operand_place h op.a ≡ operand_place h' op.a

abbrev unary_by : OpKind → Src → ℕ → List Counted
unary_by k s d = once (by MOV s 15 ∷ []) ++ core k ++ once (stores (result k) d ∷ [])

abbrev binary_by : OpKind → Src → Src → ℕ → List Counted
binary_by k s t d = once (by MOV s 15 ∷ by MOV t 14 ∷ []) ++ core k ++ once (stores (result k) d ∷ [])

abbrev load_by : ℕ → Src → ℕ → ℕ → List Counted
load_by n s x d = once (by MOV s 14 ∷ (index_code n ++ by MOV (FromIndex 14 x) 15 ∷ stores 15 d ∷ []))

abbrev store_by : ℕ → Src → Src → ℕ → List Counted
store_by n s t x = once (by MOV s 15 ∷ by MOV t 14 ∷ (index_code n ++ Two MOV false (FromReg 15) (ToIndex 14 x) ∷ []))

abbrev below_by : ℕ → Src → ℕ → List Counted
below_by target s d = once (Two CMP false s (ToAbs d) ∷ unless JNC target)

module _ (h h' : Homes) (target : ℕ) (op : Op) (e : SameAt h h' op) where
  unary_same : unary h op ≡ unary h' op
  unary_same = ap (λ s. unary_by op.kind s (place_of h op.dest)) e.a ∙ ap (λ d. unary_by op.kind (source h' op.a) d) e.dest

  binary_same : binary h op ≡ binary h' op
  binary_same =
      ap (λ s. binary_by op.kind s (source h op.b) (place_of h op.dest)) e.a
      ∙ (ap (λ t. binary_by op.kind (source h' op.a) t (place_of h op.dest)) e.b ∙ ap (λ d. binary_by op.kind (source h' op.a) (source h' op.b) d) e.dest)

  same_by : (k : OpKind) → template_by k h target op ≡ template_by k h' target op
  same_by kind.Copy = unary_same
  same_by kind.Neg = unary_same
  same_by kind.Inv = unary_same
  same_by kind.ToU8 = unary_same
  same_by kind.ToS8 = unary_same
  same_by kind.Load =
      ap (λ s. load_by (length_in op.array) s (array_of h op.array) (place_of h op.dest)) e.a
      ∙ (ap (λ x. load_by (length_in op.array) (source h' op.a) x (place_of h op.dest)) e.array ∙ ap (λ d. load_by (length_in op.array) (source h' op.a) (array_of h' op.array) d) e.dest)
  same_by kind.Store =
      ap (λ s. store_by (length_in op.array) s (source h op.b) (array_of h op.array)) e.a
      ∙ (ap (λ t. store_by (length_in op.array) (source h' op.a) t (array_of h op.array)) e.b ∙ ap (λ x. store_by (length_in op.array) (source h' op.a) (source h' op.b) x) e.array)
  same_by kind.Input = ap (λ d. once (by MOV (FromAbs 0x0F00) 15 ∷ stores 15 d ∷ [])) e.dest
  same_by kind.Output = ap (λ s. once (by MOV s 15 ∷ stores 15 0x0F02 ∷ [])) e.a
  same_by kind.Finish = ap (λ s. once (by MOV s 15 ∷ stores 15 0x0F04 ∷ [])) e.a
  same_by kind.Test = ap (λ s. once (by MOV s 15 ∷ by CMP (Short 0) 15 ∷ unless JNE target)) e.a
  same_by kind.Below = ap (λ s. below_by target s (operand_place h op.a)) e.b ∙ ap (λ d. below_by target (source h' op.b) d) e.variable
  same_by kind.Step = ap (λ d. once (Two ADD false (Short 1) (ToAbs d) ∷ [])) e.dest
  same_by kind.Go = refl
  same_by kind.Call = refl
  same_by kind.Ret = refl
  same_by k = binary_same

-- ---- Pieces

module _ (t t' : Template) (h h' : ℕ → Bool) where
  abbrev piece : Bool → List Instr → Piece
  piece c is = record { has_head = c; template = is }

  pub pieces_same : (a a' : ℕ → ℕ) → ((n : ℕ) → a n ≡ a' n) → (xs : List Node) → ((i : ℕ) (x : Node) → slice_get xs i ≡ Some x → (n : ℕ) → t n x.op ≡ t' n x.op)
      → ((i : ℕ) (x : Node) → slice_get xs i ≡ Some x → h x.op.number ≡ h' x.op.number) → pieces_by t h a xs ≡ pieces_by t' h' a' xs
  pieces_same a a' same [] templates heads = refl
  pieces_same a a' same (x ∷ xs) templates heads =
      ap (λ c. piece c (t (a (jumps_to x.next)) x.op) ∷ pieces_by t h a xs) (heads 0 x refl)
      ∙ (ap (λ n. piece (h' x.op.number) (t n x.op) ∷ pieces_by t h a xs) (same (jumps_to x.next))
      ∙ (ap (λ is. piece (h' x.op.number) is ∷ pieces_by t h a xs) (templates 0 x refl (a' (jumps_to x.next)))
      ∙ ap (λ ps. piece (h' x.op.number) (t' (a' (jumps_to x.next)) x.op) ∷ ps) (pieces_same a a' same xs (λ i y e. templates (suc i) y e) (λ i y e. heads (suc i) y e))))

-- ---- The objects of an operation have their addresses

object_low : (g : Graph) (o n : ℕ) (x : Option declared.Object) → slice_get g.objects o ≡ x → HasWords n x → o < length g.objects
object_low g o n None e h = absurd h
object_low g o n (Some x) e h = slice_get_within g.objects o x e

module _ (g : Graph) (places : List ℕ) (are : places ≡ addresses_from 0x4400 g.objects) where
  places-length : length places ≡ length g.objects
  places-length = ap (λ (l : List ℕ). length l) are ∙ addresses-length 0x4400 g.objects

  has_place : (o n : ℕ) → HasWords n (slice_get g.objects o) → o < length places
  has_place o n h = let low = object_low g o n (slice_get g.objects o) refl h in let long = places-length in omega (arith, low, long)

  home_same : (o n : ℕ) → HasWords n (slice_get g.objects o) → home_in places o ≡ fram_homes g o
  home_same o n h = ap (λ (l : List ℕ). slice_index_or l o 0) are ∙ address_at 0x2200 g.objects o (object_low g o n (slice_get g.objects o) refl h)

  source_same : (used : Bool) (a : Operand) → OperandFits g used a → source (home_in places) a ≡ source (fram_homes g) a
  source_same true (Const w) h = refl
  source_same true (Object o) h = ap (λ a. FromAbs a) (home_same o 1 h)
  source_same false a h = subst (λ x. source (home_in places) x ≡ source (fram_homes g) x) (sym h) refl

  variable_same : (used : Bool) (a : Operand) → OperandFits g used a → operand_place (home_in places) a ≡ operand_place (fram_homes g) a
  variable_same true (Const w) h = refl
  variable_same true (Object o) h = home_same o 1 h
  variable_same false a h = subst (λ x. operand_place (home_in places) x ≡ operand_place (fram_homes g) x) (sym h) refl

  dest_same : (used : Bool) (dest : Option ℕ) → DestFits g used dest → place_of (home_in places) dest ≡ place_of (fram_homes g) dest
  dest_same true None h = absurd h
  dest_same true (Some o) h = home_same o 1 h
  dest_same false dest h = subst (λ x. place_of (home_in places) x ≡ place_of (fram_homes g) x) (sym h) refl

  array_same : (used : Bool) (array : Option ArrayUse) → ArrayFits g used array → array_of (home_in places) array ≡ array_of (fram_homes g) array
  array_same true None h = absurd h
  array_same true (Some u) h = home_same u.object u.length h.0
  array_same false array h = subst (λ x. array_of (home_in places) x ≡ array_of (fram_homes g) x) (sym h) refl

  operand_has : (used : Bool) (a : Operand) → OperandFits g used a → HasHome places a
  operand_has true (Const w) h = tt
  operand_has true (Object o) h = has_place o 1 h
  operand_has false a h = subst (λ x. HasHome places x) (sym h) tt

  dest_has : (used : Bool) (dest : Option ℕ) → DestFits g used dest → HasDest places dest
  dest_has true None h = absurd h
  dest_has true (Some o) h = has_place o 1 h
  dest_has false dest h = subst (λ x. HasDest places x) (sym h) tt

  array_has : (used : Bool) (array : Option ArrayUse) → ArrayFits g used array → HasArray places array
  array_has true None h = absurd h
  array_has true (Some u) h = has_place u.object u.length h.0
  array_has false array h = subst (λ x. HasArray places x) (sym h) tt

  pub has_homes : (op : Op) → OpFits g op → HasHomes places op
  has_homes op fits = record {
    a = operand_has (parts_of op.kind).a op.a fits.a;
    b = operand_has (parts_of op.kind).b op.b fits.b;
    dest = dest_has (parts_of op.kind).dest op.dest fits.dest;
    array = array_has (parts_of op.kind).array op.array fits.array;
  }

  -- with how often each instruction counts
  pub counted_same : (op : Op) → OpFits g op → (target : ℕ) → template (home_in places) target op ≡ template (fram_homes g) target op
  counted_same op fits target = same_by (home_in places) (fram_homes g) target op (record {
    a = source_same (parts_of op.kind).a op.a fits.a;
    b = source_same (parts_of op.kind).b op.b fits.b;
    dest = dest_same (parts_of op.kind).dest op.dest fits.dest;
    array = array_same (parts_of op.kind).array op.array fits.array;
    variable = variable_same (parts_of op.kind).a op.a fits.a;
  }) op.kind

  template_same : (op : Op) → OpFits g op → (target : ℕ) → placed_template places target op ≡ fram_template g target op
  template_same op fits target = ap code_of (counted_same op fits target)

  -- ---- of each operation

  abbrev AllFits : List Node → Type 0
  AllFits xs = (i : ℕ) (x : Node) → slice_get xs i ≡ Some x → OpFits g x.op

  all_have : (xs : List Node) → AllFits xs → AllHave places xs
  all_have [] fits = tt
  all_have (x ∷ xs) fits = (has_homes x.op (fits 0 x refl), all_have xs (λ i y e. fits (suc i) y e))

  all_allowed : IsGraph g → data_bytes g ≤ most_data → (address : ℕ → ℕ) → ((n : ℕ) → address n < 65536) → (xs : List Node) → AllFits xs → AllAllowed (placed_template places) address xs
  all_allowed rules few address low [] fits = tt
  all_allowed rules few address low (x ∷ xs) fits = (
    subst (λ is. All (λ i. IsTrue (in_profile i)) is) (sym (template_same x.op (fits 0 x refl) (address (jumps_to x.next))))
        (template_allowed g rules (objects_have_homes g few) (address (jumps_to x.next)) (low (jumps_to x.next)) x.op (fits 0 x refl)),
    all_allowed rules few address low xs (λ i y e. fits (suc i) y e),
  )

  -- ---- the whole

  module _ (rules : IsGraph g) (heads : ℕ → Bool) (nodes : List Node) (all : nodes ≡ graph_nodes g) where
    fit : AllFits nodes
    fit = subst (λ (xs : List Node). AllFits xs) (sym all) rules.operations

    pub have : AllHave places nodes
    have = all_have nodes fit

    abbrev flat : List Piece
    flat = pieces_by (placed_template places) heads (λ m. 0) nodes

    -- with any addresses, the pieces are the graph's
    laid_same : (a a' : ℕ → ℕ) → ((n : ℕ) → a n ≡ a' n) → pieces_by (placed_template places) heads a nodes ≡ pieces_by (fram_template g) heads a' (graph_nodes g)
    laid_same a a' same =
        pieces_same (placed_template places) (fram_template g) heads heads a a' same nodes (λ i x e n. template_same x.op (fit i x e) n) (λ i x e. refl)
        ∙ ap (λ (xs : List Node). pieces_by (fram_template g) heads a' xs) all

    -- where the last ends
    pub words_are : end_from 9 (pieces_by (placed_template places) heads (λ m. 0) nodes) ≡ code_words heads g
    words_are =
        let flat_is = ap (λ (ps : List Piece). end_from 9 ps) (laid_same (λ m. 0) (λ m. 0) (λ n. refl)) in
        let steadily = end_same (fram_template g) heads (steady g) (λ m. 0) (address_of (fram_template g) heads g) 9 (graph_nodes g) in
        let end = end_is 9 (pieces (fram_template g) heads g) in
        omega (arith, flat_is, steadily, end)

    module _ (starts : List ℕ) (end : ℕ) (starts_are : starts ≡ starts_from 9 (pieces_by (placed_template places) heads (λ m. 0) nodes))
        (end_are : end ≡ end_from 9 (pieces_by (placed_template places) heads (λ m. 0) nodes)) where
      stands : (n : ℕ) → slice_index_or starts n end ≡ slice_index_or (starts_from 9 (pieces_by (placed_template places) heads (λ m. 0) nodes)) n (end_from 9 (pieces_by (placed_template places) heads (λ m. 0) nodes))
      stands n = ap (λ (l : List ℕ). slice_index_or l n end) starts_are ∙ ap (λ d. slice_index_or (starts_from 9 (pieces_by (placed_template places) heads (λ m. 0) nodes)) n d) end_are

      goes_same : (n : ℕ) → address_in starts end n ≡ address_of (fram_template g) heads g n
      goes_same n =
          ap (λ k. 0x8000 + 2 * k) (stands n ∙ start_is 9 (pieces_by (placed_template places) heads (λ m. 0) nodes) n)
          ∙ ap (λ (ps : List Piece). 0x8000 + 2 * chosen_at 9 ps n) (laid_same (λ m. 0) (λ m. 0) (λ k. refl))

      pub end_words : end ≡ code_words heads g
      end_words = let w = words_are in omega (arith, w, end_are)

      pub laid : pieces_by (placed_template places) heads (address_in starts end) nodes ≡ pieces (fram_template g) heads g
      laid = laid_same (address_in starts end) (address_of (fram_template g) heads g) goes_same

      pub low : end ≤ 0x3FC0 → (n : ℕ) → slice_index_or starts n end ≤ 0x3FC0
      low room n = let is = stands n in let below = start_low 9 (pieces_by (placed_template places) heads (λ m. 0) nodes) n in omega (arith, is, below, room, end_are)

      pub allowed : data_bytes g ≤ most_data → end ≤ 0x3FC0 → AllAllowed (placed_template places) (address_in starts end) nodes
      allowed few room =
          all_allowed rules few (address_in starts end)
          (λ n. let is = goes_same n in let below = address_low g heads (let e = end_words in omega (arith, e, room)) n in omega (arith, is, below)) nodes fit

      pub roomy : end ≤ 0x3FC0 → end_from 9 (pieces_by (placed_template places) heads (address_in starts end) nodes) ≤ 0x3FC0
      roomy room =
          let same = ap (λ (ps : List Piece). end_from 9 ps) laid in
          let is = end_is 9 (pieces (fram_template g) heads g) in
          let e = end_words in
          omega (arith, same, is, e, room)

      pub blocks_are : chosen_blocks (blocks_at 0x4400 g.objects) (pieces_by (placed_template places) heads (address_in starts end) nodes) ≡ graph_blocks heads g
      blocks_are =
          ap (λ (ps : List Piece). chosen_blocks (blocks_at 0x4400 g.objects) ps) laid
          ∙ ap (λ (bs : List Block). chosen_blocks bs (pieces (fram_template g) heads g)) (sym (blocks_same 0x2200 g.objects))

      module _ (objects : List declared.Object) (are_objects : objects ≡ g.objects) (few : data_bytes g ≤ most_data) (room : end ≤ 0x3FC0) where
        whole : chosen_blocks (blocks_at 0x4400 objects) (pieces_by (placed_template places) heads (address_in starts end) nodes) ≡ graph_blocks heads g
        whole = ap (λ (xs : List declared.Object). chosen_blocks (blocks_at 0x4400 xs) (pieces_by (placed_template places) heads (address_in starts end) nodes)) are_objects ∙ blocks_are

        roomy_words : code_words heads g ≤ 0x3FC0
        roomy_words = let e = end_words in omega (arith, e, room)

        pub image_with : IsImage (chosen_blocks (blocks_at 0x4400 objects) (pieces_by (placed_template places) heads (address_in starts end) nodes))
        image_with = subst (λ (bs : List Block). IsImage bs) (sym whole) (are_images heads g rules few roomy_words)

        pub laid_image : (blocks : List Block) → blocks ≡ chosen_blocks (blocks_at 0x4400 objects) (pieces_by (placed_template places) heads (address_in starts end) nodes) → IsLaid heads g blocks
        laid_image blocks e = record { objects = few; room = roomy_words; image = e ∙ whole }

-- the segments of an image
pub image_by : (objects : List declared.Object) (ps : List Piece) (code : List ℕ) (blocks : List Block)
    → blocks ≡ record { start = gate; bytes = bytes_of (1 ∷ 0x8024 ∷ code_start ∷ []) } ∷ (blocks_at 0x4400 objects ++ record { start = code_start; bytes = code } ∷ record { start = reset_vector; bytes = bytes_of (code_start ∷ []) } ∷ [])
    → code ≡ bytes_in (boot ++ chosen_code 9 ps) → IsImage (chosen_blocks (blocks_at 0x4400 objects) ps) → IsImage blocks
image_by objects ps code blocks e f image =
    let same : blocks ≡ chosen_blocks (blocks_at 0x4400 objects) ps = e ∙ ap (λ (l : List ℕ). record { start = gate; bytes = bytes_of (1 ∷ 0x8024 ∷ code_start ∷ []) } ∷ (blocks_at 0x4400 objects ++ record { start = code_start; bytes = l } ∷ record { start = reset_vector; bytes = bytes_of (code_start ∷ []) } ∷ [])) f in
    subst (λ (bs : List Block). IsImage bs) (sym same) image

-- ---- Heads that are the same at each operation

numbered_at : (k : ℕ) (xs : List Node) → IsNumbered k xs → (i : ℕ) (x : Node) → slice_get xs i ≡ Some x → x.op.number ≡ k + i
numbered_at k [] h i x e = absurd (cc)
numbered_at k (y ∷ ys) h zero x e = let same : y ≡ x = cc in ap (λ (z : Node). z.op.number) (sym same) ∙ (let n = h.0 in omega (arith, n))
numbered_at k (y ∷ ys) h (suc i) x e = let n = numbered_at (k + 1) ys h.1 i x e in omega (arith, n)

module _ (g : Graph) (rules : IsGraph g) (h h' : ℕ → Bool) (same : (n : ℕ) → n < length (graph_nodes g) → h n ≡ h' n) where
  at_each : (i : ℕ) (x : Node) → slice_get (graph_nodes g) i ≡ Some x → h x.op.number ≡ h' x.op.number
  at_each i x e = same x.op.number (let n = numbered_at 0 (graph_nodes g) rules.numbered i x e in let low = slice_get_within (graph_nodes g) i x e in omega (arith, n, low))

  by_heads : (a a' : ℕ → ℕ) → ((n : ℕ) → a n ≡ a' n) → pieces_by (fram_template g) h a (graph_nodes g) ≡ pieces_by (fram_template g) h' a' (graph_nodes g)
  by_heads a a' goes = pieces_same (fram_template g) (fram_template g) h h' a a' goes (graph_nodes g) (λ i x e n. refl) at_each

  heads_same : pieces (fram_template g) h g ≡ pieces (fram_template g) h' g
  heads_same = by_heads (address_of (fram_template g) h g) (address_of (fram_template g) h' g)
      (λ n. ap (λ (ps : List Piece). 0x8000 + 2 * chosen_at 9 ps n) (by_heads (λ m. 0) (λ m. 0) (λ k. refl)))

  pub blocks_by_heads : graph_blocks h g ≡ graph_blocks h' g
  blocks_by_heads = ap (λ (ps : List Piece). chosen_blocks (data_blocks g) ps) heads_same

  pub words_by_heads : code_words h g ≡ code_words h' g
  words_by_heads = ap (λ (ps : List Piece). 9 + size_of (chosen_code 9 ps)) heads_same
